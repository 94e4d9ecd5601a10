-- Two ways to tell cases apart. Assumes nothing.
use Prim.Native.Nat.{ℕ}
use mathlib.Core.Path.{◌≡◌, refl, sym, ◌∙◌, subst}
use mathlib.Core.Bool.{Bool, true, false}
use native.Mathlib.Omega.{arith}
use lib.Dec.{eqb}
use borrow.Author.Tests.{eqb-true, eqb-false}

-- a place is this one or another
pub by_place : (P : ℕ → Type 0) (j i : ℕ) → P i → ((j ≡ i → ⊥) → P j) → P j
by_place P j i p q = at (eqb j i) refl
  where
    at : (b : Bool) → eqb j i ≡ b → P j
    at true e = subst P (sym (eqb-true j i e)) p
    at false e = q (eqb-false j i e)

pub unlike : (b : Bool) → b ≡ true → b ≡ false → ⊥
unlike b p q = let z : ◌≡◌ {A = ℕ} 0 1 = (let y : true ≡ false = sym p ∙ q in cc) in omega arith
