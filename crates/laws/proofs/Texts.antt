-- Texts whose bytes are characters and pairs: what is cut from them or put together is one, and its characters tell its bytes. Assumes nothing.
use Prim.Native.Nat.{ℕ, zero, suc, ◌*◌, ◌≤◌}
use mathlib.Core.Path.{◌≡◌, refl, ap, sym, ◌∙◌}
use mathlib.Core.Logic.{◌≢◌}
use mathlib.Core.List.{List, [], ◌∷◌, ◌++◌}
use mathlib.Core.Bool.{Bool, true, false}
use native.Mathlib.Omega.{arith}
use lib.ListN.{length, get_or}
use lib.Dec.{eqb}
use borrow.Author.Tests.{ne_eqb}
use Rattle.rules.specs.Text.{keep, is_second, characters_in, text_width, first_of, rest_of, All}
use Rattle.rules.specs.Limits.{Printable, IsText, nothing, plain, degree, Plain}
use Rattle.rules.specs.Wrap.{onto, pieces, glue}
use Rattle.laws.proofs.Text.{width-nil, width-cons, width-second}
use Rattle.laws.proofs.Text.{first-nil, first-second, first-zero, first-suc, rest-nil, rest-second, rest-zero, rest-suc}

-- a printable byte is a character, and no part of a pair
pub printable-first : (b : ℕ) → Printable b → is_second b ≡ false
printable-first b h = ne_eqb b 176 (λ e. omega arith)

pub width-plain : (b : ℕ) (l : List ℕ) → Printable b → text_width (b ∷ l) ≡ suc (text_width l)
width-plain b l h = width-cons b l (printable-first b h)

pub width-degree : (l : List ℕ) → text_width (194 ∷ 176 ∷ l) ≡ suc (text_width l)
width-degree l = width-cons 194 (176 ∷ l) refl ∙ ap suc (width-second 176 l refl)

-- printable characters alone are a text, without a pair
pub text-all : (l : List ℕ) → All Printable l → IsText l
text-all [] h = nothing
text-all (b ∷ l) h = plain b l h.0 (text-all l h.1)

pub plain-all : (l : List ℕ) → All Printable l → Plain l
plain-all [] h = width-nil
plain-all (b ∷ l) h = width-plain b l h.0 ∙ ap suc (plain-all l h.1)

-- one text after another
pub text-append : {l m : List ℕ} → IsText l → IsText m → IsText (l ++ m)
text-append nothing k = k
text-append {m = m} (plain b l i h) k = plain b (l ++ m) i (text-append h k)
text-append {m = m} (degree l h) k = degree (l ++ m) (text-append h k)

-- no byte 0A
pub text_unbroken : {l : List ℕ} → IsText l → All (λ c. c ≢ 10) l
text_unbroken nothing = tt
text_unbroken (plain b l i h) = ((λ e. omega arith), text_unbroken h)
text_unbroken (degree l h) = ((λ e. omega arith), ((λ e. omega arith), text_unbroken h))

-- two bytes a column at most
pub text-length : {l : List ℕ} → IsText l → length l ≤ 2 * text_width l
text-length nothing = omega (arith, width-nil)
text-length (plain b l i h) = omega (arith, width-plain b l i, text-length h)
text-length (degree l h) = omega (arith, width-degree l, text-length h)

-- the first columns of a text, and the others
pub text-first : (n : ℕ) {l : List ℕ} → IsText l → IsText (first_of n l)
text-first n nothing = rw (first-nil n) nothing
text-first zero (plain b l i h) = rw (first-zero b l (printable-first b i)) nothing
text-first (suc n) (plain b l i h) = rw (first-suc n b l (printable-first b i)) (plain b (first_of n l) i (text-first n h))
text-first zero (degree l h) = rw (first-zero 194 (176 ∷ l) refl) nothing
text-first (suc n) (degree l h) = rw (first-suc n 194 (176 ∷ l) refl, first-second n 176 l refl) (degree (first_of n l) (text-first n h))

pub text-rest : (n : ℕ) {l : List ℕ} → IsText l → IsText (rest_of n l)
text-rest n nothing = rw (rest-nil n) nothing
text-rest zero (plain b l i h) = rw (rest-zero b l (printable-first b i)) (plain b l i h)
text-rest (suc n) (plain b l i h) = rw (rest-suc n b l (printable-first b i)) (text-rest n h)
text-rest zero (degree l h) = rw (rest-zero 194 (176 ∷ l) refl) (degree l h)
text-rest (suc n) (degree l h) = rw (rest-suc n 194 (176 ∷ l) refl, rest-second n 176 l refl) (text-rest n h)

-- the pieces between delimiters, and what is glued with one
module _ (d : ℕ) (delimiter : Printable d) where
  text-onto : (b : ℕ) (ps : List (List ℕ)) → Printable b → All IsText ps → All IsText (onto b ps)
  unfolding onto
  text-onto b [] i h = (plain b [] i nothing, tt)
  text-onto b (p ∷ ps) i h = (plain b p i h.0, h.1)

  text_pair : (ps : List (List ℕ)) → All IsText ps → All IsText (onto 194 (onto 176 ps))
  unfolding onto
  text_pair [] h = (degree [] nothing, tt)
  text_pair (p ∷ ps) h = (degree p h.0, h.1)

  pub text-pieces : {l : List ℕ} → IsText l → All IsText (pieces d l)
  unfolding pieces
  text-pieces nothing = (nothing, tt)
  text-pieces (plain b l i h) = go (eqb b d) (text-pieces h)
    where
      go : (x : Bool) → All IsText (pieces d l) → All IsText (elim x as (λ y. List (List ℕ)) [ true ↦ [] ∷ pieces d l | false ↦ onto b (pieces d l) ])
      go true j = (nothing, j)
      go false j = text-onto b (pieces d l) i j
  text-pieces (degree l h) =
      let e : eqb 194 d ≡ false = ne_eqb 194 d (λ e. omega arith) in
      let f : eqb 176 d ≡ false = ne_eqb 176 d (λ e. omega arith) in
      rw (e, f, pieces) (text_pair (pieces d l) (text-pieces h))

  pub text-glue : (l : List ℕ) {p : List ℕ} → IsText l → IsText p → IsText (glue d l p)
  unfolding glue
  text-glue [] h k = k
  text-glue (x ∷ l) {p} h k = text-append h (plain d p delimiter k)

-- characters tell bytes
characters-plain : (b : ℕ) (l : List ℕ) → Printable b → characters_in (b ∷ l) ≡ b ∷ characters_in l
unfolding characters_in keep
characters-plain b l h = rw (printable-first b h, keep)

characters-degree : (l : List ℕ) → characters_in (194 ∷ 176 ∷ l) ≡ 194 ∷ characters_in l
unfolding characters_in keep
characters-degree l = refl

characters-nil : characters_in [] ≡ []
unfolding characters_in keep
characters-nil = refl

pub text_tells : {l m : List ℕ} → IsText l → IsText m → characters_in l ≡ characters_in m → l ≡ m
text_tells nothing nothing e = refl
text_tells nothing (plain c m j k) e = cc (characters-nil, characters-plain c m j)
text_tells nothing (degree m k) e = cc (characters-nil, characters-degree m)
text_tells (plain b l i h) nothing e = cc (characters-nil, characters-plain b l i)
text_tells (degree l h) nothing e = cc (characters-nil, characters-degree l)
text_tells (plain b l i h) (plain c m j k) e =
    let f : b ∷ characters_in l ≡ c ∷ characters_in m = sym (characters-plain b l i) ∙ e ∙ characters-plain c m j in
    let g : l ≡ m = text_tells h k cc in
    cc
text_tells (plain b l i h) (degree m k) e =
    let f : b ∷ characters_in l ≡ 194 ∷ characters_in m = sym (characters-plain b l i) ∙ e ∙ characters-degree m in
    let g : b ≡ 194 = cc in
    absurd (omega arith)
text_tells (degree l h) (plain c m j k) e =
    let f : 194 ∷ characters_in l ≡ c ∷ characters_in m = sym (characters-degree l) ∙ e ∙ characters-plain c m j in
    let g : 194 ≡ c = cc in
    absurd (omega arith)
text_tells (degree l h) (degree m k) e =
    let f : 194 ∷ characters_in l ≡ 194 ∷ characters_in m = sym (characters-degree l) ∙ e ∙ characters-degree m in
    let g : l ≡ m = text_tells h k cc in
    cc

-- two equal lists that begin with texts, taken apart at one width
pub at_width : {xs ys : List ℕ} (us vs : List ℕ) → IsText xs → IsText ys → text_width xs ≡ text_width ys → xs ++ us ≡ ys ++ vs → (xs ≡ ys) × (us ≡ vs)
at_width us vs nothing nothing w e = (refl, e)
at_width us vs nothing (plain c m j k) w e = absurd (omega (arith, width-nil, width-plain c m j))
at_width us vs nothing (degree m k) w e = absurd (omega (arith, width-nil, width-degree m))
at_width us vs (plain b l i h) nothing w e = absurd (omega (arith, width-nil, width-plain b l i))
at_width us vs (degree l h) nothing w e = absurd (omega (arith, width-nil, width-degree l))
at_width us vs (plain b l i h) (plain c m j k) w e =
    let r : (l ≡ m) × (us ≡ vs) = at_width us vs h k (omega (arith, width-plain b l i, width-plain c m j)) cc in
    let q : b ≡ c = cc in
    (cc, r.1)
at_width us vs (plain b l i h) (degree m k) w e = let g : b ≡ 194 = cc in absurd (omega arith)
at_width us vs (degree l h) (plain c m j k) w e = let g : 194 ≡ c = cc in absurd (omega arith)
at_width us vs (degree l h) (degree m k) w e =
    let r : (l ≡ m) × (us ≡ vs) = at_width us vs h k (omega (arith, width-degree l, width-degree m)) cc in
    (cc, r.1)

-- a text begins with a character, and so does what follows a printable byte
pub text_begins : {l : List ℕ} → IsText l → is_second (get_or l 0 0) ≡ false
text_begins nothing = refl
text_begins (plain b l i h) = printable-first b i
text_begins (degree l h) = refl

pub text-after : {l : List ℕ} → IsText l → (k : ℕ) → Printable (get_or l k 0) → is_second (get_or l (suc k) 0) ≡ false
text-after nothing k p = refl
text-after (plain b l i h) zero p = text_begins h
text-after (plain b l i h) (suc k) p = text-after h k p
text-after (degree l h) zero p = absurd (omega arith)
text-after (degree l h) (suc zero) p = absurd (omega arith)
text-after (degree l h) (suc (suc k)) p = text-after h k p
