-- A list that is filled in order: the first i of another. Assumes nothing.
use Prim.Native.Nat.{ℕ, zero, suc, ◌+◌, ◌≤◌, ◌<◌}
use mathlib.Core.Path.{◌≡◌, refl, ap, ◌∙◌}
use mathlib.Core.List.{List, [], ◌∷◌, ◌++◌}
use native.Mathlib.Numerals.{add-one}
use native.Mathlib.Nat.{not-suc-le-zero, le_of_suc-le-suc}
use native.Mathlib.Omega.{arith}
use lib.ListN.{length, get_or, take}
use lib.Seq.{take_all}

pub record Copied {A : Type 0} (l : List A) (i : ℕ) (a : List A) : Type 0 where
  pub so : a ≡ take i l
  pub few : length a ≤ i

one_more : {A : Type 0} (d : A) (l : List A) (i : ℕ) → i < length l → take i l ++ (get_or l i d ∷ []) ≡ take (suc i) l
one_more d [] i h = absurd (not-suc-le-zero h)
one_more d (x ∷ l) zero h = refl
one_more d (x ∷ l) (suc i) h = ap (λ m. x ∷ m) (one_more d l i (le_of_suc-le-suc h))

length-more : {A : Type 0} (a : List A) (v : A) → length (a ++ (v ∷ [])) ≡ suc (length a)
length-more [] v = refl
length-more (x ∷ a) v = ap suc (length-more a v)

pub copied-again : {A : Type 0} (d : A) (l : List A) (i : ℕ) (a : List A) (v : A) (b : List A) → i < length l → v ≡ get_or l i d → b ≡ a ++ (v ∷ [])
    → Copied l i a → Copied l (i + 1) b
copied-again d l i a v b h e f c = record {
  so = f ∙ rw (e, c.so, add-one i) (one_more d l i h);
  few = omega (arith, ap length f, length-more a v, c.few);
}

pub copied_done : {A : Type 0} (l : List A) (i : ℕ) (a : List A) → length l ≤ i → Copied l i a → a ≡ l
copied_done l i a h c = c.so ∙ take_all i l h
