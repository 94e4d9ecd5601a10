-- Sizes of what is drawn and written. Assumes nothing.
use Prim.Native.Nat.{ℕ, ◌+◌, ◌-◌, ◌*◌, ◌/◌, ◌≤◌}
use mathlib.Core.Path.{◌≡◌, refl, sym, ◌∙◌}
use mathlib.Core.List.{List, [], ◌∷◌, ◌++◌, map, append_assoc}
use mathlib.Core.Bool.{Bool, true, false, cond}
use native.Mathlib.Nat.{suc-mul}
use native.Mathlib.Omega.{arith}
use lib.ListN.{length, length-append, length-replicate}
use lib.Dec.{eqb}
use Rattle.rules.specs.Text.{All, sum, text_width}
use Rattle.rules.specs.Sheet.{Table, padding}
use Rattle.rules.specs.declared.Column.{Column}
use Rattle.rules.specs.Page.{area, before, closed, page, page_lines, byte_count}
use Rattle.laws.proofs.Text.{width-append, width-blank}

pub before-le : (a n : ℕ) → before a n ≤ n
before-le a n = go (eqb a 2) (eqb a 3)
  where
    go : (b c : Bool) → cond b n (cond c (n - n / 2) 0) ≤ n
    go true c = omega arith
    go false true = omega arith
    go false false = omega arith

-- a cell area takes the content width and both paddings, in columns
pub width-area : (c : Column) (w a : ℕ) (l : List ℕ) → text_width l ≤ w → text_width (area c w a l) ≡ w + padding c
unfolding area
width-area c w a l h = simp (width-append, width-blank) (omega (arith, before-le a (w - text_width l)))

-- and in bytes one more for each pair of its text
pub length-area : (c : Column) (w a : ℕ) (l : List ℕ) → text_width l ≤ w → length (area c w a l) + text_width l ≡ w + padding c + length l
unfolding area
length-area c w a l h = simp (length-append, length-replicate) (omega (arith, before-le a (w - text_width l)))

-- no line, and one
pub closed_none : closed [] ≡ []
unfolding closed
closed_none = refl

pub closed-one : (l : List ℕ) → closed (l ∷ []) ≡ l ++ (10 ∷ [])
unfolding closed
closed-one l = refl

-- lines closed in two parts
pub closed-append : (ls ms : List (List ℕ)) → closed (ls ++ ms) ≡ closed ls ++ closed ms
unfolding closed
closed-append [] ms = refl
closed-append (l ∷ ls) ms = rw (closed-append ls ms) (sym (append_assoc l (10 ∷ closed ls) (closed ms)))

-- the bytes of lines: theirs, and one for each
pub length-closed : (ls : List (List ℕ)) → length (closed ls) ≡ sum (map (λ l. length l + 1) ls)
unfolding closed sum
length-closed [] = refl
length-closed (l ∷ ls) = length-append l (10 ∷ closed ls) ∙ omega (arith, length-closed ls)

module _ (t : Table) where
  -- a page's bytes are those of its lines, closed
  pub byte-count-closed : byte_count t ≡ length (closed (page_lines t))
  unfolding byte_count page
  byte-count-closed = refl

-- lines that take n bytes each, their 0As included
pub closed_sized : (n : ℕ) (ls : List (List ℕ)) → All (λ l. length l + 1 ≡ n) ls → length (closed ls) ≡ length ls * n
unfolding closed
closed_sized n [] h = omega arith
closed_sized n (l ∷ ls) h = length-append l (10 ∷ closed ls) ∙ omega (arith, closed_sized n ls h.1, h.0, suc-mul (length ls) n)

-- or at most n
pub closed-most : (n : ℕ) (ls : List (List ℕ)) → All (λ l. length l + 1 ≤ n) ls → length (closed ls) ≤ length ls * n
unfolding closed
closed-most n [] h = omega arith
closed-most n (l ∷ ls) h = omega (arith, length-append l (10 ∷ closed ls), closed-most n ls h.1, h.0, suc-mul (length ls) n)
