-- The reader of sheets without pairs, against the reader: what it gives is given, and what it refuses other than C2 is refused. Assumes nothing.
use Prim.Native.Nat.{ℕ, zero, suc, ◌+◌}
use mathlib.Core.Path.{◌≡◌, refl, ap, subst, ◌∙◌}
use mathlib.Core.List.{List, [], ◌∷◌}
use mathlib.Core.Bool.{Bool, true, false}
use native.Mathlib.Omega.{arith}
use lib.ListN.{length, get_or-eq_default}
use lib.Dec.{ltb, eqb}
use borrow.Author.Tests.{ltb-false, eqb-true}
use Rattle.rules.specs.Text.{All}
use Rattle.rules.specs.Sheet.{Cell, Row, Table}
use Rattle.rules.specs.Field as field
use Rattle.rules.specs.Field.{Read, got, refused, Reader, onward, byte_at, printable, several, ended}
use Rattle.rules.specs.Description as description
use Rattle.rules.specs.Description.{Faithful, Format, text, listed, next, text_length, character, characters, reads}
use Rattle.rules.specs.Format.{line, cell_by, row_by, table_by, sheet_by, sheet}
use Rattle.rules.specs.Limits.{Printable, Plain, PlainCell, PlainRow, PlainTable}
use Rattle.rules.proofs.Parts.{Whole, table_whole}
use Rattle.laws.proofs.Lists.{all_imp, all_append}
use Rattle.laws.proofs.Text.{width-nil}
use Rattle.laws.proofs.Texts.{width-plain}
use Rattle.laws.proofs.Reading.{between_both, KeepsValue, Sound, sound}

-- ---- two readings of one sheet

-- what the first gives, the second gives; where the first refuses, the second does too, unless it was for a C2
abbrev pub Same : {A : Type 0} → List ℕ → Read A → Read A → Type 0
Same s (got a p) y = y ≡ got a p
Same s (refused n p) y = ((n ≡ 6) × (byte_at s p ≡ 194) → ⊥) → y ≡ refused n p

same_self : {A : Type 0} (s : List ℕ) (y : Read A) → Same s y y
same_self s (got a p) = refl
same_self s (refused n p) = λ k. refl

same-onward : {A B : Type 0} (s : List ℕ) (x y : Read A) (f g : A → ℕ → Read B) → Same s x y → ((a : A) (q : ℕ) → Same s (f a q) (g a q))
    → Same s (onward x f) (onward y g)
unfolding onward
same-onward s (got a p) y f g e h = rw e (h a p)
same-onward s (refused n p) y f g e h = λ k. rw (e k)

same-several : {A : Type 0} (s : List ℕ) (f g : Reader A) → ((p : ℕ) → Same s (f s p) (g s p))
    → (n p : ℕ) → Same s (several n f s p) (several n g s p)
unfolding several
same-several s f g h zero p = refl
same-several s f g h (suc n) p =
    same-onward s (f s p) (g s p) _ _ (h p) (λ a q. same-onward s (several n f s q) (several n g s q) _ _ (same-several s f g h n q) (λ as' r. refl))

-- ---- two formats, wherever they are read

abbrev pub Like : {A : Type 0} → Format A → Format A → Type 0
Like x y = (s : List ℕ) (p : ℕ) → Same s (reads x s p) (reads y s p)

like_self : {A : Type 0} (x : Format A) → Like x x
like_self x s p = same_self s (reads x s p)

like_next : {U A : Type 0} (of : U → A) (x y : Format A) (g h : A → Format U) → Like x y → ((a : A) → Like (g a) (h a))
    → Like (next of x g) (next of y h)
unfolding reads
like_next of x y g h e f s p = same-onward s (reads x s p) (reads y s p) _ _ (e s p) (λ a q. f a s q)

like_listed : {A : Type 0} (count : Format ℕ) (x y : Format A) → Like x y → Like (listed count x) (listed count y)
unfolding reads
like_listed count x y e s p =
    same-onward s (reads count s p) (reads count s p) _ _ (like_self count s p) (λ n q. same-several s (reads x) (reads y) (e s) n q)

-- ---- a line

-- C2 is no printable character
first_refused : (s : List ℕ) (p : ℕ) → byte_at s p ≡ 194 → character printable s p ≡ refused 6 p
unfolding field.only field.byte onward
first_refused s p e = go (ltb p (length s)) refl
  where
    go : (b : Bool) → ltb p (length s) ≡ b
        → onward {B = ℕ} (elim b as (λ x. Read ℕ) [ true ↦ got (byte_at s p) (p + 1) | false ↦ refused 1 (length s) ])
        (λ v q. elim (printable v) as (λ x. Read ℕ) [ true ↦ got v q | false ↦ refused 6 p ])
        ≡ refused 6 p
    go true i = rw e
    go false i = let z = get_or-eq_default s 0 (ltb-false p (length s) i) in absurd (omega (arith, e, z))

same-characters : (s : List ℕ) (n p : ℕ) → Same s (several n (character printable) s p) (characters n s p)
unfolding several characters onward
same-characters s zero p = refl
same-characters s (suc zero) p =
    same-onward s (character printable s p) (character printable s p) _ _ (same_self s (character printable s p)) (λ b q. refl)
same-characters s (suc (suc n)) p = go (eqb (byte_at s p) 194) refl (same-characters s (suc n))
  where
    go : (b : Bool) → eqb (byte_at s p) 194 ≡ b
        → ((q : ℕ) → Same s (several (suc n) (character printable) s q) (characters (suc n) s q))
        → Same s (onward (character printable s p) (λ b q. onward (several (suc n) (character printable) s q) (λ l r. got (b ∷ l) r)))
        (elim b as (λ x. Read (List ℕ)) [
          | true ↦ onward (description.degree s p) (λ v q. onward (characters n s q) (λ l r. got (194 ∷ 176 ∷ l) r))
          | false ↦ onward (character printable s p) (λ b q. onward (characters (suc n) s q) (λ l r. got (b ∷ l) r))
        ])
    go true e ih = let i = eqb-true (byte_at s p) 194 e in rw (first_refused s p i) (λ k. absurd (k (refl, i)))
    go false e ih =
        same-onward s (character printable s p) (character printable s p) _ _ (same_self s (character printable s p))
        (λ b q. same-onward s (several (suc n) (character printable) s q) (characters (suc n) s q) _ _ (ih q) (λ l r. refl))

-- what a line is in a sheet without pairs
abbrev pub plain_line : Format (List ℕ)
plain_line = text 0 200 printable

like-line : Like plain_line line
unfolding reads line
like-line s p =
    same-onward s (text_length 0 200 s p) (text_length 0 200 s p) _ _ (same_self s (text_length 0 200 s p)) (λ n q. same-characters s n q)

-- ---- cells, rows, table, sheet

behind : {U A : Type 0} (of : U → A) (x : Format A) (g h : A → Format U) → ((a : A) → Like (g a) (h a)) → Like (next of x g) (next of x h)
behind of x g h f = like_next of x x g h (like_self x) f

module _ (x y : Format (List ℕ)) (lines : Like x y) where
  like-cell : Like (cell_by x) (cell_by y)
  unfolding cell_by
  like-cell = behind _ _ _ _ λ d. behind _ _ _ _ λ a. like_next _ _ _ _ _ (like_listed _ x y lines) λ ls. like_self _

  like-row : (columns : ℕ) → Like (row_by x columns) (row_by y columns)
  unfolding row_by
  like-row columns = behind _ _ _ _ λ h. like_next _ _ _ _ _ (like_listed _ (cell_by x) (cell_by y) like-cell) λ cs. like_self _

  like-table : Like (table_by x) (table_by y)
  unfolding table_by
  like-table =
      behind _ _ _ _ λ e. behind _ _ _ _ λ a. behind _ _ _ _ λ w. behind _ _ _ _ λ d. behind _ _ _ _ λ i. behind _ _ _ _ λ st. behind _ _ _ _ λ cs.
      like_next _ _ _ _ _ (like_listed _ (row_by x (length cs)) (row_by y (length cs)) (like-row (length cs))) λ h.
      like_next _ _ _ _ _ (like_listed _ (row_by x (length cs)) (row_by y (length cs)) (like-row (length cs))) λ rs.
      like_self _

  same-sheet : (s : List ℕ) → Same s (sheet_by x s) (sheet_by y s)
  unfolding sheet_by
  same-sheet s = go (ltb 32768 (length s))
    where
      go : (b : Bool)
          → Same {A = Table} s
          (elim b as (λ z. Read Table)
          [ true ↦ refused 2 32768 | false ↦ onward (reads (table_by x) s 0) (λ t p. onward (ended s p) (λ u q. got t q)) ])
          (elim b as (λ z. Read Table)
          [ true ↦ refused 2 32768 | false ↦ onward (reads (table_by y) s 0) (λ t p. onward (ended s p) (λ u q. got t q)) ])
      go true = λ k. refl
      go false =
          same-onward s (reads (table_by x) s 0) (reads (table_by y) s 0) _ _ (like-table s 0)
          (λ t p. same_self s (onward (ended s p) (λ u q. got t q)))

-- ---- the laws

pub plainly_got : (s : List ℕ) (t : Table) (p : ℕ) → sheet_by plain_line s ≡ got t p → sheet s ≡ got t p
plainly_got s t p e = subst (λ (y : Read Table). Same s y (sheet s)) e (same-sheet plain_line line like-line s)

pub plainly_refused : (s : List ℕ) (n p : ℕ) → sheet_by plain_line s ≡ refused n p → ((n ≡ 6) × (byte_at s p ≡ 194) → ⊥) → sheet s ≡ refused n p
plainly_refused s n p e = subst (λ (y : Read Table). Same s y (sheet s)) e (same-sheet plain_line line like-line s)

plain_whole : Faithful plain_line Whole
unfolding Faithful
plain_whole l = tt

-- printable characters alone are a plain text
plain-all : (l : List ℕ) → All Printable l → Plain l
plain-all [] h = width-nil
plain-all (b ∷ l) h = width-plain b l h.0 ∙ ap suc (plain-all l h.1)

plain-line : (l : List ℕ) → KeepsValue plain_line l → Plain l
unfolding KeepsValue
plain-line l k = plain-all l (all_imp (λ c. printable c ≡ true) Printable (between_both 32 126) l k.1)

plain_cell : (x : Cell) → KeepsValue (cell_by plain_line) x → PlainCell x
unfolding KeepsValue cell_by
plain_cell x k = all_imp (KeepsValue plain_line) Plain plain-line x.lines k.1.1.0.1

plain_row : (columns : ℕ) (r : Row) → KeepsValue (row_by plain_line columns) r → PlainRow r
unfolding KeepsValue row_by
plain_row columns r k = all_imp (KeepsValue (cell_by plain_line)) PlainCell plain_cell r.cells k.1.0.1

plain-table : (t : Table) → KeepsValue (table_by plain_line) t → PlainTable t
unfolding KeepsValue table_by
plain-table t k =
    let m = length t.columns in
    all_append PlainRow t.header t.rows
    (all_imp (KeepsValue (row_by plain_line m)) PlainRow (plain_row m) t.header k.1.1.1.1.1.1.1.0.1)
    (all_imp (KeepsValue (row_by plain_line m)) PlainRow (plain_row m) t.rows k.1.1.1.1.1.1.1.1.0.1)

-- a table that was read keeps its tests
abbrev Kept : Format (List ℕ) → Read Table → Type 0
Kept x (got t q) = KeepsValue (table_by x) t
Kept x (refused n q) = Unit {0}

sheet_kept : (x : Format (List ℕ)) → Faithful x Whole → (s : List ℕ) → Kept x (sheet_by x s)
unfolding sheet_by onward
sheet_kept x whole s = go (ltb 32768 (length s))
  where
    ends : (t : Table) → KeepsValue (table_by x) t → (y : Read (Unit {0})) → Kept x (onward y (λ u q. got t q))
    ends t k (got u q) = k
    ends t k (refused n q) = tt

    inner : (y : Read Table) → Sound (table_by x) Whole s 0 y → Kept x (onward y (λ t p. onward (ended s p) (λ u q. got t q)))
    inner (got t p) r = ends t r.kept (ended s p)
    inner (refused n p) r = tt

    go : (b : Bool)
        → Kept x
        (elim b as (λ z. Read Table) [ true ↦ refused 2 32768 | false ↦ onward (reads (table_by x) s 0) (λ t p. onward (ended s p) (λ u q. got t q)) ])
    go true = tt
    go false = inner (reads (table_by x) s 0) (sound (table_by x) Whole (table_whole x whole) s 0)

pub plainly-table : (s : List ℕ) (t : Table) (p : ℕ) → sheet_by plain_line s ≡ got t p → PlainTable t
plainly-table s t p e = plain-table t (subst (Kept plain_line) e (sheet_kept plain_line plain_whole s))
