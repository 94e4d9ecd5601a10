-- Codes and alignments. Assumes nothing.
use Prim.Native.Nat.{ℕ, zero, suc}
use mathlib.Core.Path.{◌≡◌, refl}
use mathlib.Core.Bool.{Bool, true, false}
use lib.Dec.{eqb}
use borrow.Author.Tests.{ne_eqb}
use Rattle.rules.specs.Text.{or_else}
use Rattle.rules.specs.Page.{before}
use Rattle.row.specs.Alignment.{of_code, code_of, aligned}
use Rattle.row.specs.declared.CellAlignment.{CellAlignment}
use Rattle.row.specs.declared.CellAlignment.TheVariants.{Left, Right, Center}

-- ---- each code

pub code_right : (n : ℕ) (a : CellAlignment) → n ≡ 2 → Right ≡ aligned n a
unfolding of_code
code_right n a e = rw e

pub code_center : (n : ℕ) (a : CellAlignment) → n ≡ 3 → Center ≡ aligned n a
unfolding of_code
code_center n a e = rw e

pub code_none : (n : ℕ) (a : CellAlignment) → n ≡ 0 → a ≡ aligned n a
code_none n a e = rw e

pub code_left : (n : ℕ) (a : CellAlignment) → (n ≡ 0 → ⊥) → (n ≡ 2 → ⊥) → (n ≡ 3 → ⊥) → Left ≡ aligned n a
unfolding of_code
code_left zero a x y z = absurd (x refl)
code_left (suc n) a x y z = rw (ne_eqb (suc n) 2 y, ne_eqb (suc n) 3 z, of_code)

-- ---- a code beside another

pub aligned_or : (n d : ℕ) → aligned n (of_code d) ≡ of_code (or_else n d)
aligned_or zero d = refl
aligned_or (suc n) d = refl

-- left, where no code chooses
pub aligned_left : (n : ℕ) → aligned n Left ≡ of_code (or_else n 1)
unfolding of_code
aligned_left zero = refl
aligned_left (suc n) = refl

-- a line of some code's alignment stands where the document puts it
pub before_of : (a n : ℕ) → before (code_of (of_code a)) n ≡ before a n
unfolding of_code
before_of a n = go (eqb a 2) refl (eqb a 3) refl
  where
    go : (x : Bool) → eqb a 2 ≡ x → (y : Bool) → eqb a 3 ≡ y → before (code_of (of_code a)) n ≡ before a n
    go true e y f = rw (e, of_code)
    go false e true f = rw (e, f, of_code)
    go false e false f = rw (e, f, of_code)
