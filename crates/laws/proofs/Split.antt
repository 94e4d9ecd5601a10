-- What every line of a split, or of a wrapped cell, satisfies: its width, its characters. Assumes nothing.
use Prim.Native.Nat.{ℕ, zero, suc, ◌+◌, ◌-◌, ◌≤◌, ◌<◌}
use mathlib.Core.Path.{◌≡◌, refl}
use mathlib.Core.List.{List, [], ◌∷◌}
use mathlib.Core.Bool.{Bool, true, false}
use native.Mathlib.Omega.{arith}
use lib.ListN.{length}
use lib.Dec.{ltb}
use borrow.Author.Tests.{leb-false, ltb-true, ltb-false, lt-ltb, le-ltb}
use Rattle.rules.specs.Text.{text_width, first_of, rest_of, All}
use Rattle.rules.specs.Wrap.{Act, join, retry, fill, begin, pieces, glue, room, tight, full, act, last, place, weight, split, wrap_line, wrap_lines}
use Rattle.rules.specs.Limits.{Printable, IsText, nothing}
use Rattle.laws.proofs.Lists.{all_imp, all-flat}
use Rattle.laws.proofs.Text.{width-nil, width-append, width-le, width-first}
use Rattle.laws.proofs.Texts.{text-first, text-rest, text-pieces, text-glue}
use Rattle.laws.proofs.Fuel.{View, joins, retries, fills, begins, view}

-- a property of lines that are put out, one of the line begun and one of the pieces left, kept by every rule
pub record Kept (w d : ℕ) (Out Line Piece : List ℕ → Type 0) : Type 0 where
  pub none : Line []
  pub end : (x : ℕ) (l : List ℕ) → Line (x ∷ l) → Out (x ∷ l)
  pub joined : (l p : List ℕ) → Line l → Piece p → text_width (glue d l p) ≤ w → Line (glue d l p)
  pub flushed : (l : List ℕ) → Line l → w - 2 < text_width l → Out l
  pub tried : (l p : List ℕ) → Line l → w < text_width (glue d l p) → tight w d l ≡ true → Out l
  pub filled : (l p : List ℕ) → Line l → Piece p → tight w d l ≡ false → w < text_width p
      → Out (glue d l (first_of (room w d l) p)) × Piece (rest_of (room w d l) p)
  pub begun : (l p : List ℕ) → Line l → Piece p → w < text_width (glue d l p) → text_width p ≤ w → Out l × Line p

-- then every line that is put out has its property, however many steps are made
pub all-place : (w d : ℕ) (Out Line Piece : List ℕ → Type 0) → Kept w d Out Line Piece
    → (n : ℕ) (l : List ℕ) (ps : List (List ℕ)) → Line l → All Piece ps → All Out (place n w d l ps)
unfolding place last
all-place w d Out Line Piece k zero l ps h g = tt
all-place w d Out Line Piece k (suc n) [] [] h g = tt
all-place w d Out Line Piece k (suc n) (x ∷ l) [] h g = (k.end x l h, tt)
all-place w d Out Line Piece k (suc n) l (p ∷ ps) h g = go (act w d l p) refl (view w d l p) (λ m qs. all-place w d Out Line Piece k n m qs)
  where
    ended : (m : List ℕ) (b : Bool) → ltb (w - 2) (text_width m) ≡ b → Line m →
        ((m : List ℕ) (qs : List (List ℕ)) → Line m → All Piece qs → All Out (place n w d m qs))
        → All Out (elim b as (λ x. List (List ℕ)) [ true ↦ m ∷ place n w d [] ps | false ↦ place n w d m ps ])
    ended m true e i ih = (k.flushed m i (ltb-true (w - 2) (text_width m) e), ih [] ps k.none g.1)
    ended m false e i ih = ih m ps i g.1

    go : (a : Act) → act w d l p ≡ a → View w d l p a → ((m : List ℕ) (qs : List (List ℕ)) → Line m → All Piece qs → All Out (place n w d m qs))
        → All Out (place (suc n) w d l (p ∷ ps))
    go join e (joins i) ih = rw (e, place) (ended (glue d l p) (full w (glue d l p)) (unfold full in refl) (k.joined l p h g.0 i) ih)
    go retry e (retries i t) ih = rw (e, place) (k.tried l p h i t, ih [] (p ∷ ps) k.none g)
    go fill e (fills i t j) ih = let f = k.filled l p h g.0 t j in rw (e, place) (f.0, ih [] (rest_of (room w d l) p ∷ ps) k.none (f.1, g.1))
    go begin e (begins i t j) ih = let f = k.begun l p h g.0 i j in rw (e, place) (f.0, ended p (full w p) (unfold full in refl) f.1 ih)

-- a line that fits a width
abbrev pub Short : ℕ → List ℕ → Type 0
Short w l = text_width l ≤ w

-- and has a byte, where the width has a column
abbrev Whole : ℕ → List ℕ → Type 0
Whole w l = (0 < w → 0 < length l) × Short w l

tight-some : (w d : ℕ) (l : List ℕ) → tight w d l ≡ true → 0 < length l
unfolding tight
tight-some w d [] e = let z : ◌≡◌ {A = ℕ} 0 1 = cc in absurd (omega arith)
tight-some w d (x ∷ l) e = omega arith

unfit-some : (w d : ℕ) (l p : List ℕ) → w < text_width (glue d l p) → text_width p ≤ w → 0 < length l
unfolding glue
unfit-some w d [] p h k = absurd (omega arith)
unfit-some w d (x ∷ l) p h k = omega arith

-- what is glued takes its own columns, beside those of the line and a delimiter
pub glue-width : (d : ℕ) (l p : List ℕ) → text_width (glue d l p) ≡ text_width (glue d l []) + text_width p
unfolding glue
glue-width d [] p = omega (arith, width-nil)
glue-width d (x ∷ l) p = omega (arith, width-append (x ∷ l) (d ∷ p), width-append (x ∷ l) (d ∷ []), width-append (d ∷ []) p)

-- a filled line has no column left
pub filled-width : (w d : ℕ) (l p : List ℕ) → tight w d l ≡ false → w < text_width p → text_width (glue d l (first_of (room w d l) p)) ≡ w
unfolding room
filled-width w d l p t h = omega (arith, glue-width d l (first_of (room w d l) p), width-first (room w d l) p, ended l t)
  where
    ended : (l : List ℕ) → tight w d l ≡ false → text_width (glue d l []) ≤ w
    ended [] t = unfold glue in omega (arith, width-nil)
    ended (x ∷ l) t = unfold tight in omega (arith, leb-false (room w d (x ∷ l)) 2 t)

whole : (w d : ℕ) → Kept w d (Whole w) (Short w) (λ p. Unit {0})
whole w d = record {
  none = rw width-nil (omega arith);
  end = λ x l h. ((λ k. omega arith), h);
  joined = λ l p h k i. i;
  flushed = λ l h i. ((λ k. omega (arith, width-le l)), h);
  tried = λ l p h i t. ((λ k. tight-some w d l t), h);
  filled = λ l p h k t i. let e = filled-width w d l p t i in (((λ j. omega (arith, width-le (glue d l (first_of (room w d l) p)))), omega arith), tt);
  begun = λ l p h k i j. (((λ g. unfit-some w d l p i j), h), j);
}

all_unit : {A : Type 0} (xs : List A) → All (λ x. Unit {0}) xs
all_unit [] = tt
all_unit (x ∷ xs) = (tt, all_unit xs)

whole_split : (w d : ℕ) (l : List ℕ) → All (Whole w) (split w d l)
unfolding split
whole_split w d l = all-place w d (Whole w) (Short w) (λ p. Unit {0}) (whole w d) (weight (pieces d l)) [] (pieces d l) (whole w d).none
    (all_unit (pieces d l))

-- every line of a split has at least one byte, and at most the width's columns
pub split_fits : (w d : ℕ) → 1 ≤ w → (l : List ℕ) → All (λ m. (1 ≤ length m) × (text_width m ≤ w)) (split w d l)
split_fits w d h l = all_imp (Whole w) (λ m. (1 ≤ length m) × (text_width m ≤ w)) (λ m k. (k.0 h, k.1)) (split w d l) (whole_split w d l)

-- only lines longer than the width are split
pub wrap_short : (w d : ℕ) (l : List ℕ) → text_width l ≤ w → wrap_line w d l ≡ l ∷ []
unfolding wrap_line
wrap_short w d l h = rw (le-ltb w (text_width l) h, wrap_line)

-- and those are
pub wrap_long : (w d : ℕ) (l : List ℕ) → w < text_width l → wrap_line w d l ≡ split w d l
unfolding wrap_line
wrap_long w d l h = rw (lt-ltb w (text_width l) h, wrap_line)

-- no line of a wrapped text is longer than the width
pub short-line : (w d : ℕ) (l : List ℕ) → All (Short w) (wrap_line w d l)
unfolding wrap_line
short-line w d l = go (ltb w (text_width l)) refl
  where
    go : (b : Bool) → ltb w (text_width l) ≡ b → All (Short w) (elim b as (λ x. List (List ℕ)) [ true ↦ split w d l | false ↦ l ∷ [] ])
    go true e = all_imp (Whole w) (Short w) (λ m k. k.1) (split w d l) (whole_split w d l)
    go false e = (ltb-false w (text_width l) e, tt)

-- the same of a cell
pub short-lines : (w d : ℕ) (ls : List (List ℕ)) → All (Short w) (wrap_lines w d ls)
unfolding wrap_lines
short-lines w d ls = all-flat (λ l. Unit {0}) (Short w) (wrap_line w d) (λ l u. short-line w d l) ls (all_unit ls)

-- a wrapped text is text, where its delimiter is printable
module _ (d : ℕ) (delimiter : Printable d) where
  text_kept : (w : ℕ) → Kept w d IsText IsText IsText
  text_kept w = record {
    none = nothing;
    end = λ x l h. h;
    joined = λ l p h k i. text-glue d delimiter l h k;
    flushed = λ l h i. h;
    tried = λ l p h i t. h;
    filled = λ l p h k t i. (text-glue d delimiter l h (text-first (room w d l) k), text-rest (room w d l) k);
    begun = λ l p h k i j. (h, k);
  }

  -- of one line
  pub text-wrap_line : (w : ℕ) (l : List ℕ) → IsText l → All IsText (wrap_line w d l)
  unfolding wrap_line split
  text-wrap_line w l h = go (ltb w (text_width l))
    where
      go : (b : Bool) → All IsText (elim b as (λ x. List (List ℕ)) [ true ↦ place (weight (pieces d l)) w d [] (pieces d l) | false ↦ l ∷ [] ])
      go true = all-place w d IsText IsText IsText (text_kept w) (weight (pieces d l)) [] (pieces d l) nothing (text-pieces d delimiter h)
      go false = (h, tt)

  -- of a cell's lines
  pub text-wrap_lines : (w : ℕ) (ls : List (List ℕ)) → All IsText ls → All IsText (wrap_lines w d ls)
  unfolding wrap_lines
  text-wrap_lines w ls h = all-flat IsText IsText (wrap_line w d) (text-wrap_line w) ls h
