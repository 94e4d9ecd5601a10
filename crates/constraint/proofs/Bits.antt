-- A set of columns in a number's binary digits, and adding an absent one. Assumes nothing.
use mathlib.Core.Path.{◌≡◌, refl, sym, ap, ◌∙◌}
use mathlib.Core.Bool.{false}
use Prim.Native.Nat.{ℕ, zero, suc, ◌+◌, ◌*◌, ◌/◌, ◌%◌, ◌^◌, ◌<◌}
use native.Mathlib.Nat.{pow-suc, not-suc-le-zero, le_of_suc-le-suc, one-mul}
use native.Mathlib.Numerals.{one-add}
use native.Mathlib.Omega.{arith}
use lib.Dec.{eqb}
use lib.Pow.{shr-shr, shl_exact}
use lib.Count.{ones, ones_step}
use borrow.Author.Tests.{eqb-false}
use Rattle.constraint.specs.Set.{bit, set_width}

absent_half : (s i : ℕ) → s / 2 ^ suc i % 2 ≡ 0 → s / 2 / 2 ^ i % 2 ≡ 0
absent_half s i e = ap (λ (k : ℕ). k % 2) (shr-shr s 1 i ∙ ap (λ (k : ℕ). s / 2 ^ k) (one-add i)) ∙ e

pub add-lt : (d s i : ℕ) → i < d → s < 2 ^ d → s / 2 ^ i % 2 ≡ 0 → s + 2 ^ i < 2 ^ d
add-lt zero s i h l e = absurd (not-suc-le-zero h)
add-lt (suc d) s zero h l e = omega (arith, pow-suc 2 d)
add-lt (suc d) s (suc i) h l e =
    omega (arith, pow-suc 2 d, pow-suc 2 i, add-lt d (s / 2) i (le_of_suc-le-suc h) (omega (arith, pow-suc 2 d)) (absent_half s i e))

-- one more is in the set, where it was not
pub count_add : (i s : ℕ) → bit s i ≡ 0 → ones (s + 2 ^ i) ≡ ones s + 1
count_add zero s e =
    let a : (s + 1) / 2 ≡ s / 2 = omega arith in
    let b : (s + 1) % 2 ≡ s % 2 + 1 = omega arith in
    omega (arith, ones_step s, ones_step (s + 1), ap ones a)
count_add (suc i) s e =
    let a : (s + 2 ^ suc i) / 2 ≡ s / 2 + 2 ^ i = omega (arith, pow-suc 2 i) in
    let b : (s + 2 ^ suc i) % 2 ≡ s % 2 = omega (arith, pow-suc 2 i) in
    omega (arith, ones_step s, ones_step (s + 2 ^ suc i), ap ones a, count_add i (s / 2) (absent_half s i e))

pub bit-zero : (s i : ℕ) → eqb (bit s i) 1 ≡ false → bit s i ≡ 0
bit-zero s i e = let n : bit s i ≡ 1 → ⊥ = eqb-false (bit s i) 1 e in omega arith

pub shift : (i : ℕ) → i < set_width → 1 * 2 ^ i % 65536 ≡ 2 ^ i
shift i h = shl_exact {a = 1} 1 i set_width (omega arith) (omega arith) ∙ one-mul (2 ^ i)

-- a digit of the half
bit-suc : (s i : ℕ) → bit s (suc i) ≡ bit (s / 2) i
bit-suc s i = sym (ap (λ (k : ℕ). k % 2) (shr-shr s 1 i ∙ ap (λ (k : ℕ). s / 2 ^ k) (one-add i)))

half-add : (s i : ℕ) → (s + 2 ^ suc i) / 2 ≡ s / 2 + 2 ^ i
half-add s i = omega (arith, pow-suc 2 i)

-- the added one is in
pub bit-same : (i s : ℕ) → bit s i ≡ 0 → bit (s + 2 ^ i) i ≡ 1
bit-same zero s e = omega arith
bit-same (suc i) s e =
    bit-suc (s + 2 ^ suc i) i ∙ ap (λ (k : ℕ). bit k i) (half-add s i) ∙ bit-same i (s / 2) (sym (bit-suc s i) ∙ e)

-- the others are as they were
pub bit-other : (i j s : ℕ) → bit s i ≡ 0 → (j ≡ i → ⊥) → bit (s + 2 ^ i) j ≡ bit s j
bit-other zero zero s e n = absurd (n refl)
bit-other zero (suc j) s e n =
    let h : (s + 1) / 2 ≡ s / 2 = omega arith in
    bit-suc (s + 1) j ∙ ap (λ (k : ℕ). bit k j) h ∙ sym (bit-suc s j)
bit-other (suc i) zero s e n = omega (arith, pow-suc 2 i)
bit-other (suc i) (suc j) s e n =
    bit-suc (s + 2 ^ suc i) j ∙ ap (λ (k : ℕ). bit k j) (half-add s i)
    ∙ bit-other i j (s / 2) (sym (bit-suc s i) ∙ e) (λ z. n (ap suc z)) ∙ sym (bit-suc s j)

-- nothing is in the empty set
pub zero_bit : (i : ℕ) → bit 0 i ≡ 0
zero_bit zero = refl
zero_bit (suc i) = bit-suc 0 i ∙ zero_bit i
