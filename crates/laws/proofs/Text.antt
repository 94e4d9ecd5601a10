-- Laws of text: what a measure and a cut of a text satisfy, whatever its bytes. Callers use these, and not the definitions' texts. Assumes nothing.
use Prim.Native.Nat.{ℕ, zero, suc, ◌+◌, ◌≤◌, ◌<◌, min}
use mathlib.Core.Path.{◌≡◌, refl, ap, sym, subst, ◌∙◌}
use mathlib.Core.List.{List, [], ◌∷◌, ◌++◌}
use mathlib.Core.Bool.{Bool, true, false, not}
use native.Mathlib.Omega.{arith}
use lib.ListN.{length, get_or, take, drop, length-append, take-append-drop}
use lib.Seq.{slice, take-length}
use Rattle.rules.specs.Text.{keep, is_second, characters_in, text_width, bytes_of, first_of, rest_of, blank}
use Rattle.rules.specs.Limits.{Plain}
use Rattle.laws.proofs.Lists.{keep_append}

-- two texts, one after the other
pub characters-append : (l m : List ℕ) → characters_in (l ++ m) ≡ characters_in l ++ characters_in m
unfolding characters_in
characters-append l m = keep_append (λ b. not (is_second b)) l m

pub width-append : (l m : List ℕ) → text_width (l ++ m) ≡ text_width l + text_width m
unfolding text_width
width-append l m = ap length (characters-append l m) ∙ length-append (characters_in l) (characters_in m)

-- no text takes no column
pub width-nil : text_width [] ≡ 0
unfolding text_width characters_in keep
width-nil = refl

-- a pair's second byte takes none
pub width-second : (b : ℕ) (l : List ℕ) → is_second b ≡ true → text_width (b ∷ l) ≡ text_width l
unfolding text_width characters_in keep
width-second b l h = rw (h, keep)

-- any other byte takes one
pub width-cons : (b : ℕ) (l : List ℕ) → is_second b ≡ false → text_width (b ∷ l) ≡ suc (text_width l)
unfolding text_width characters_in keep
width-cons b l h = rw (h, keep)

-- n spaces take n columns
pub width-blank : (n : ℕ) → text_width (blank n) ≡ n
width-blank zero = width-nil
width-blank (suc n) = width-cons 32 (blank n) refl ∙ ap suc (width-blank n)

-- a text measured as a whole
pub width_whole : (n : ℕ) (l : List ℕ) → n ≡ text_width (slice 0 (length l) l) → n ≡ text_width l
width_whole n l e = e ∙ ap text_width (take-length l)

-- no text takes more columns than it has bytes
pub width-le : (l : List ℕ) → text_width l ≤ length l
width-le [] = omega (arith, width-nil)
width-le (b ∷ l) = go (is_second b) refl (width-le l)
  where
    go : (x : Bool) → is_second b ≡ x → text_width l ≤ length l → text_width (b ∷ l) ≤ suc (length l)
    go true e h = omega (arith, width-second b l e)
    go false e h = omega (arith, width-cons b l e)

-- where the cut at n falls, byte by byte
pub bytes-second : (n b : ℕ) (l : List ℕ) → is_second b ≡ true → bytes_of n (b ∷ l) ≡ suc (bytes_of n l)
unfolding bytes_of
bytes-second zero b l h = rw (h, bytes_of)
bytes-second (suc n) b l h = rw (h, bytes_of)

pub bytes-zero : (b : ℕ) (l : List ℕ) → is_second b ≡ false → bytes_of 0 (b ∷ l) ≡ 0
unfolding bytes_of
bytes-zero b l h = rw (h, bytes_of)

pub bytes-suc : (n b : ℕ) (l : List ℕ) → is_second b ≡ false → bytes_of (suc n) (b ∷ l) ≡ suc (bytes_of n l)
unfolding bytes_of
bytes-suc n b l h = rw (h, bytes_of)

pub bytes-nil : (n : ℕ) → bytes_of n [] ≡ 0
unfolding bytes_of
bytes-nil n = refl

pub first-nil : (n : ℕ) → first_of n [] ≡ []
unfolding first_of
first-nil n = ap (λ k. take {A = ℕ} k []) (bytes-nil n)

pub first-second : (n b : ℕ) (l : List ℕ) → is_second b ≡ true → first_of n (b ∷ l) ≡ b ∷ first_of n l
unfolding first_of
first-second n b l h = ap (λ k. take k (b ∷ l)) (bytes-second n b l h)

pub first-zero : (b : ℕ) (l : List ℕ) → is_second b ≡ false → first_of 0 (b ∷ l) ≡ []
unfolding first_of
first-zero b l h = ap (λ k. take k (b ∷ l)) (bytes-zero b l h)

pub first-suc : (n b : ℕ) (l : List ℕ) → is_second b ≡ false → first_of (suc n) (b ∷ l) ≡ b ∷ first_of n l
unfolding first_of
first-suc n b l h = ap (λ k. take k (b ∷ l)) (bytes-suc n b l h)

pub rest-nil : (n : ℕ) → rest_of n [] ≡ []
unfolding rest_of
rest-nil n = ap (λ k. drop {A = ℕ} k []) (bytes-nil n)

pub rest-second : (n b : ℕ) (l : List ℕ) → is_second b ≡ true → rest_of n (b ∷ l) ≡ rest_of n l
unfolding rest_of
rest-second n b l h = ap (λ k. drop k (b ∷ l)) (bytes-second n b l h)

pub rest-zero : (b : ℕ) (l : List ℕ) → is_second b ≡ false → rest_of 0 (b ∷ l) ≡ b ∷ l
unfolding rest_of
rest-zero b l h = ap (λ k. drop k (b ∷ l)) (bytes-zero b l h)

pub rest-suc : (n b : ℕ) (l : List ℕ) → is_second b ≡ false → rest_of (suc n) (b ∷ l) ≡ rest_of n l
unfolding rest_of
rest-suc n b l h = ap (λ k. drop k (b ∷ l)) (bytes-suc n b l h)

-- a cut at n keeps n columns, or all
pub width-first : (n : ℕ) (l : List ℕ) → text_width (first_of n l) ≡ min n (text_width l)
width-first n [] = rw first-nil (omega (arith, width-nil))
width-first n (b ∷ l) = go n (is_second b) refl (λ m. width-first m l)
  where
    go : (n : ℕ) (x : Bool) → is_second b ≡ x → ((m : ℕ) → text_width (first_of m l) ≡ min m (text_width l))
        → text_width (first_of n (b ∷ l)) ≡ min n (text_width (b ∷ l))
    go n true e ih = rw (first-second n b l e) (omega (arith, width-second b (first_of n l) e, width-second b l e, ih n))
    go zero false e ih = rw (first-zero b l e) (omega (arith, width-nil))
    go (suc n) false e ih = rw (first-suc n b l e) (omega (arith, width-cons b (first_of n l) e, width-cons b l e, ih n))

-- and loses nothing
pub first_rest : (n : ℕ) (l : List ℕ) → first_of n l ++ rest_of n l ≡ l
unfolding first_of rest_of
first_rest n l = take-append-drop (bytes_of n l) l

-- a cut takes something off
pub rest_shorter : (n : ℕ) (l : List ℕ) → 0 < n → 0 < text_width l → length (rest_of n l) < length l
rest_shorter n l h k =
    omega (arith, width-first n l, width-le (first_of n l), length-append (first_of n l) (rest_of n l), ap length (first_rest n l))

-- a part of a text without a pair has none
pub plain-append : (l m : List ℕ) → Plain (l ++ m) → Plain l × Plain m
plain-append l m h =
    let c : length (l ++ m) ≡ length l + length m = length-append l m in
    (omega (arith, c, width-append l m, width-le l, width-le m), omega (arith, c, width-append l m, width-le l, width-le m))

pub plain-take : (n : ℕ) (l : List ℕ) → Plain l → Plain (take n l)
plain-take n l h = (plain-append (take n l) (drop n l) (subst Plain (sym (take-append-drop n l)) h)).0

-- the first columns of two texts, as many as the first text has: that text, where the second begins with a character
pub bytes-append : (l m : List ℕ) → is_second (get_or m 0 0) ≡ false → bytes_of (text_width l) (l ++ m) ≡ length l
bytes-append [] [] h = rw width-nil (bytes-nil 0)
bytes-append [] (c ∷ m) h = rw width-nil (bytes-zero c m h)
bytes-append (b ∷ l) m h = go (is_second b) refl (bytes-append l m h)
  where
    go : (x : Bool) → is_second b ≡ x → bytes_of (text_width l) (l ++ m) ≡ length l → bytes_of (text_width (b ∷ l)) (b ∷ (l ++ m)) ≡ suc (length l)
    go true e ih = rw (width-second b l e, bytes-second (text_width l) b (l ++ m) e) (ap suc ih)
    go false e ih = rw (width-cons b l e, bytes-suc (text_width l) b (l ++ m) e) (ap suc ih)

-- a text that fits isn't cut
pub first-all : (n : ℕ) (l : List ℕ) → text_width l ≤ n → first_of n l ≡ l
first-all n [] h = first-nil n
first-all n (b ∷ l) h = go n (is_second b) refl h (λ m. first-all m l)
  where
    go : (n : ℕ) (x : Bool) → is_second b ≡ x → text_width (b ∷ l) ≤ n → ((m : ℕ) → text_width l ≤ m → first_of m l ≡ l) → first_of n (b ∷ l) ≡ b ∷ l
    go n true e k ih = first-second n b l e ∙ ap (λ t. b ∷ t) (ih n (omega (arith, width-second b l e)))
    go zero false e k ih = absurd (omega (arith, width-cons b l e))
    go (suc n) false e k ih = first-suc n b l e ∙ ap (λ t. b ∷ t) (ih n (omega (arith, width-cons b l e)))

-- where there is no pair, bytes are counted
pub bytes-plain : (n : ℕ) (l : List ℕ) → Plain l → bytes_of n l ≡ min n (length l)
bytes-plain n [] h = omega (arith, bytes-nil n)
bytes-plain n (b ∷ l) h = go n (is_second b) refl (λ m. bytes-plain m l)
  where
    go : (n : ℕ) (x : Bool) → is_second b ≡ x → ((m : ℕ) → Plain l → bytes_of m l ≡ min m (length l)) → bytes_of n (b ∷ l) ≡ min n (suc (length l))
    go n true e ih = absurd (omega (arith, h, width-second b l e, width-le l))
    go zero false e ih = omega (arith, bytes-zero b l e)
    go (suc n) false e ih = omega (arith, bytes-suc n b l e, ih n (omega (arith, h, width-cons b l e)))
