-- The slices of a table describe that table, whatever its numbers are. Assumes nothing.
use Prim.Native.Nat.{ℕ, ◌+◌, ◌≤◌}
use mathlib.Core.Path.{◌≡◌, refl, ap, sym, subst, ◌∙◌}
use mathlib.Core.List.{List, [], ◌∷◌, ◌++◌, map, append_assoc, append-nil}
use mathlib.Core.Bool.{false}
use native.Mathlib.Omega.{arith}
use lib.ListN.{length, drop, length-append}
use lib.Seq.{take-append_seam}
use borrow.Author.Tests.{lt-ltb, le-leb}
use Rattle.rules.specs.Text.{All, flat}
use Rattle.rules.specs.Description.{Format, byte, word, only, zero_word, text, cell_text, listed, give, next}
use Rattle.rules.specs.Sheet.{Table}
use Rattle.rules.specs.Format.{table}
use Rattle.rules.specs.Editor.{Cursor, start, Taken, number_at, bytes_at, text_taken, several_taken, takes, numbers_of, text_of}
use Rattle.laws.proofs.Lists.{all_imp}
use Rattle.laws.proofs.Writing.{Made, front, behind, table-made}
use Rattle.laws.proofs.Judging.{IsField, TestsFields, field_tests, table_tests}

-- a field has no text
field_text : {A : Type 0} (x : Format A) (a : A) → IsField x → text_of x a ≡ []
unfolding IsField text_of
field_text byte v i = refl
field_text word v i = refl
field_text (only good fault x) v i = refl
field_text zero_word v i = refl
field_text (text low high good) l i = absurd i
field_text (cell_text low high) l i = absurd i
field_text (listed count x) as' i = absurd i
field_text (give a) u i = absurd i
field_text (next of x g) u i = absurd i

-- ---- what stands from a place on

-- l stands in s from p on, and then r
record Here (s : List ℕ) (p : ℕ) (l r : List ℕ) : Type 0 where
  is : drop p s ≡ l ++ r
  room : p + length l ≤ length s

here-first : (s : List ℕ) (p : ℕ) (l m r : List ℕ) → Here s p (l ++ m) r → Here s p l (m ++ r)
here-first s p l m r h = record { is = h.is ∙ append_assoc l m r; room = omega (arith, h.room, length-append l m) }

here_then : (s : List ℕ) (p : ℕ) (l m r : List ℕ) → Here s p (l ++ m) r → Here s (p + length l) m r
here_then s p l m r h = record {
  is = behind s p l (m ++ r) (h.is ∙ append_assoc l m r);
  room = omega (arith, h.room, length-append l m);
}

-- ---- what is taken there

-- nothing was missing so far
abbrev pub at : ℕ → ℕ → Cursor
at n k = record { numbers = n; text = k; missing = false }

module _ (ns ts : List ℕ) where
  -- from wherever the numbers l and the text m of a stand in the slices, f takes a
  abbrev Gives : {A : Type 0} → (Cursor → Taken A) → A → List ℕ → List ℕ → Type 0
  Gives f a l m = (n k : ℕ) (r u : List ℕ) → Here ns n l r → Here ts k m u
      → f (at n k) ≡ record { value = a; after = at (n + length l) (k + length m) }

  -- a number, and a text's bytes
  number_gives : (v : ℕ) → Gives (number_at ns) v (v ∷ []) []
  unfolding number_at
  number_gives v n k r u h i =
      let f = front ns n v r h.is in
      let z : k + 0 ≡ k = omega arith in
      rw (lt-ltb n (length ns) f.there, number_at, f.is, z)

  bytes_give : (l : List ℕ) → Gives (bytes_at (length l) ts) l [] l
  unfolding bytes_at
  bytes_give l n k r u h i =
      let z : n + 0 ≡ n = omega arith in
      rw (le-leb (k + length l) (length ts) i.room, bytes_at, i.is, take-append_seam l u, z)

  -- one part behind another, which may go by it
  then_gives : {A B : Type 0} (f : Cursor → Taken B) (g : B → Cursor → Taken A) (b : B) (a : A) (l m l' m' : List ℕ)
      → Gives f b l m → Gives (g b) a l' m' → Gives (λ c. g (f c).value (f c).after) a (l ++ l') (m ++ m')
  then_gives f g b a l m l' m' first others n k r u h i =
      let one = first n k (l' ++ r) (m' ++ u) (here-first ns n l l' r h) (here-first ts k m m' u i) in
      let two = others (n + length l) (k + length m) r u (here_then ns n l l' r h) (here_then ts k m m' u i) in
      let x : n + length (l ++ l') ≡ n + length l + length l' = omega (arith, length-append l l') in
      let y : k + length (m ++ m') ≡ k + length m + length m' = omega (arith, length-append m m') in
      rw (one, two, x, y)

  text_gives : (l : List ℕ) → Gives (text_taken ns ts) l (length l ∷ []) l
  unfolding text_taken
  text_gives l = then_gives (number_at ns) (λ n. bytes_at n ts) (length l) l (length l ∷ []) [] [] l (number_gives (length l)) (bytes_give l)

  -- items one after another
  several_give : {A : Type 0} (f : Cursor → Taken A) (w v : A → List ℕ) (as' : List A) → All (λ a. Gives f a (w a) (v a)) as'
      → Gives (several_taken (length as') f) as' (flat (map w as')) (flat (map v as'))
  unfolding several_taken flat
  several_give f w v [] h = λ n k r u i j. let y : n + 0 ≡ n = omega arith in let z : k + 0 ≡ k = omega arith in rw (y, z)
  several_give {A} f w v (a ∷ as') h =
      then_gives f (λ b c. record { value = b ∷ (several_taken (length as') f c).value; after = (several_taken (length as') f c).after }) a (a ∷ as')
      (w a) (v a) (flat (map w as')) (flat (map v as')) h.0
      (λ n k r u i j. ap (λ (t : Taken (List A)). record { value = a ∷ t.value; after = t.after }) (several_give f w v as' h.1 n k r u i j))

  -- the law
  gives : {A : Type 0} (x : Format A) → TestsFields x → (a : A) → Made x a → Gives (takes x ns ts) a (numbers_of x a) (text_of x a)
  unfolding takes numbers_of text_of TestsFields Made
  gives byte t v m = number_gives v
  gives word t v m = number_gives v
  gives (only good fault x) t v m =
      subst (Gives (takes x ns ts) v (numbers_of x v)) (field_text x v t) (gives x (field_tests x t) v m)
  gives zero_word t v m = number_gives v
  gives (text low high good) t l m = text_gives l
  gives (cell_text low high) t l m = text_gives l
  gives (listed count x) t as' m =
      let c = length as' in
      then_gives (takes count ns ts) (λ n. several_taken n (λ d. takes x ns ts d)) c as' (numbers_of count c) []
      (flat (map (λ a. numbers_of x a) as')) (flat (map (λ a. text_of x a) as'))
      (subst (Gives (takes count ns ts) c (numbers_of count c)) (field_text count c t.0) (gives count (field_tests count t.0) c m.0))
      (several_give (λ d. takes x ns ts d) (λ a. numbers_of x a) (λ a. text_of x a) as'
      (all_imp (Made x) (λ a. Gives (takes x ns ts) a (numbers_of x a) (text_of x a)) (λ a h. gives x t.1 a h) as' m.1))
  gives (give a) t u m = λ n k r s i j. let y : n + 0 ≡ n = omega arith in let z : k + 0 ≡ k = omega arith in rw (m, y, z)
  gives (next of x g) t u m =
      then_gives (takes x ns ts) (λ a. takes (g a) ns ts) (of u) u (numbers_of x (of u)) (text_of x (of u))
      (numbers_of (g (of u)) u) (text_of (g (of u)) u) (gives x t.0 (of u) m.0) (gives (g (of u)) (t.1 (of u)) u m.1)

-- a table's slices describe that table, and all of them is taken
pub slices_give : (t : Table) → takes table (numbers_of table t) (text_of table t) start
    ≡ record { value = t; after = at (length (numbers_of table t)) (length (text_of table t)) }
slices_give t =
    let ns = numbers_of table t in
    let ts = text_of table t in
    let y : 0 + length ns ≡ length ns = omega arith in
    let z : 0 + length ts ≡ length ts = omega arith in
    gives ns ts table table_tests t (table-made t) 0 0 [] [] (whole ns) (whole ts) ∙ rw (y, z)
  where
    whole : (s : List ℕ) → Here s 0 s []
    whole s = record { is = sym (append-nil s); room = omega arith }
