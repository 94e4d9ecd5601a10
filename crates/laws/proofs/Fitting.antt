-- How many lines a buffer holds. Assumes nothing.
use Prim.Native.Nat.{ℕ, ◌+◌, ◌-◌, ◌≤◌, ◌<◌}
use mathlib.Core.Path.{◌≡◌, refl, ap, ◌∙◌}
use mathlib.Core.List.{List, [], ◌∷◌, ◌++◌}
use mathlib.Core.Bool.{Bool, true, false}
use native.Mathlib.Omega.{arith}
use lib.ListN.{length, length-append}
use lib.Dec.{leb}
use borrow.Author.Tests.{leb-true, le-leb, lt-leb}
use Rattle.rules.specs.Page.{closed, whole_lines}

pub fitting-none : (n : ℕ) → whole_lines n [] ≡ []
unfolding whole_lines
fitting-none n = refl

-- the first fits
pub fitting_more : (n : ℕ) (l : List ℕ) (ls : List (List ℕ)) → length l + 1 ≤ n → whole_lines n (l ∷ ls) ≡ l ∷ whole_lines (n - (length l + 1)) ls
unfolding whole_lines
fitting_more n l ls h = rw (whole_lines, le-leb (length l + 1) n h)

-- the first doesn't
pub fitting_stops : (n : ℕ) (l : List ℕ) (ls : List (List ℕ)) → n < length l + 1 → whole_lines n (l ∷ ls) ≡ []
unfolding whole_lines
fitting_stops n l ls h = rw (whole_lines, lt-leb (length l + 1) n h)

-- what fits is no longer than the room
pub fitted : (n : ℕ) (ls : List (List ℕ)) → length (closed (whole_lines n ls)) ≤ n
unfolding whole_lines closed
fitted n [] = omega arith
fitted n (l ∷ ls) = step (leb (length l + 1) n) refl (fitted (n - (length l + 1)) ls)
  where
    step : (b : Bool) → leb (length l + 1) n ≡ b → length (closed (whole_lines (n - (length l + 1)) ls)) ≤ n - (length l + 1)
        → length (closed (elim b [ true ↦ l ∷ whole_lines (n - (length l + 1)) ls | false ↦ [] ])) ≤ n
    step true e ih = omega (arith, leb-true (length l + 1) n e, length-append l (10 ∷ closed (whole_lines (n - (length l + 1)) ls)), ih)
    step false e ih = omega arith

-- and is no more lines than there are
pub fitting_few : (n : ℕ) (ls : List (List ℕ)) → length (whole_lines n ls) ≤ length ls
unfolding whole_lines
fitting_few n [] = omega arith
fitting_few n (l ∷ ls) = step (leb (length l + 1) n) (fitting_few (n - (length l + 1)) ls)
  where
    step : (b : Bool) → length (whole_lines (n - (length l + 1)) ls) ≤ length ls → length {A = List ℕ}
        (elim b as (λ x. List (List ℕ)) [ true ↦ l ∷ whole_lines (n - (length l + 1)) ls | false ↦ [] ]) ≤ length (l ∷ ls)
    step true ih = omega arith
    step false ih = omega arith

-- all of some lines fit: those after them fit into what is left
pub fitting-past : (n : ℕ) (ls ms : List (List ℕ)) → length (whole_lines n ls) ≡ length ls
    → (whole_lines n ls ≡ ls) × (whole_lines n (ls ++ ms) ≡ ls ++ whole_lines (n - length (closed ls)) ms)
unfolding whole_lines closed
fitting-past n [] ms e = (refl, ap (λ k. whole_lines k ms) (omega arith))
fitting-past n (l ∷ ls) ms e = step (leb (length l + 1) n) e (fitting-past (n - (length l + 1)) ls ms)
  where
    step : (b : Bool) → length {A = List ℕ} (elim b as (λ x. List (List ℕ)) [ true ↦ l ∷ whole_lines (n - (length l + 1)) ls | false ↦ [] ]) ≡ length
        (l ∷ ls)
        → (length (whole_lines (n - (length l + 1)) ls) ≡ length ls → (whole_lines (n - (length l + 1)) ls ≡ ls) ×
        (whole_lines (n - (length l + 1)) (ls ++ ms) ≡ ls ++ whole_lines (n - (length l + 1) - length (closed ls)) ms))
        → (◌≡◌ {A = List (List ℕ)} (elim b [ true ↦ l ∷ whole_lines (n - (length l + 1)) ls | false ↦ [] ]) (l ∷ ls))
        × (◌≡◌ {A = List (List ℕ)} (elim b [ true ↦ l ∷ whole_lines (n - (length l + 1)) (ls ++ ms) | false ↦ [] ])
        (l ∷ (ls ++ whole_lines (n - length (l ++ (10 ∷ closed ls))) ms)))
    step true e ih =
        let h = ih (omega arith) in
        let k : n - (length l + 1) - length (closed ls) ≡ n - length (l ++ (10 ∷ closed ls)) = omega (arith, length-append l (10 ∷ closed ls)) in
        (ap (λ xs. l ∷ xs) h.0, ap (λ xs. l ∷ xs) (h.1 ∙ ap (λ m. ls ++ whole_lines m ms) k))
    step false e ih = absurd (omega arith)

-- not all of them fit: none after them does
pub fitting-within : (n : ℕ) (ls ms : List (List ℕ)) → length (whole_lines n ls) < length ls → whole_lines n (ls ++ ms) ≡ whole_lines n ls
unfolding whole_lines
fitting-within n [] ms h = absurd (omega arith)
fitting-within n (l ∷ ls) ms h = step (leb (length l + 1) n) h (fitting-within (n - (length l + 1)) ls ms)
  where
    step : (b : Bool) → length {A = List ℕ} (elim b as (λ x. List (List ℕ)) [ true ↦ l ∷ whole_lines (n - (length l + 1)) ls | false ↦ [] ]) < length
        (l ∷ ls)
        → (length (whole_lines (n - (length l + 1)) ls) < length ls → whole_lines (n - (length l + 1)) (ls ++ ms) ≡ whole_lines (n - (length l + 1)) ls)
        → ◌≡◌ {A = List (List ℕ)} (elim b [ true ↦ l ∷ whole_lines (n - (length l + 1)) (ls ++ ms) | false ↦ [] ])
        (elim b [ true ↦ l ∷ whole_lines (n - (length l + 1)) ls | false ↦ [] ])
    step true h ih = ap (λ xs. l ∷ xs) (ih (omega arith))
    step false h ih = refl

-- room for all of them
pub fitting-all : (n : ℕ) (ls : List (List ℕ)) → length (closed ls) ≤ n → whole_lines n ls ≡ ls
unfolding whole_lines closed
fitting-all n [] h = refl
fitting-all n (l ∷ ls) h =
    let k = length-append l (10 ∷ closed ls) in
    fitting_more n l ls (omega arith) ∙ ap (λ xs. l ∷ xs) (fitting-all (n - (length l + 1)) ls (omega arith))
