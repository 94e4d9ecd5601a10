-- What the writer's judgement of a value comes to: the end of its bytes, or a fault numbered 3 to 8 at one of them. Assumes nothing.
use Prim.Native.Nat.{ℕ, ◌+◌, ◌/◌, ◌%◌, ◌≤◌, ◌<◌}
use mathlib.Core.Path.{◌≡◌, refl, ap, subst}
use mathlib.Core.Logic.{inl, inr}
use mathlib.Core.List.{List, [], ◌∷◌, ◌++◌, map}
use mathlib.Core.Bool.{Bool, true, false, cond, false≢true}
use native.Mathlib.Omega.{arith}
use lib.ListN.{length, length-append}
use lib.Dec.{leb, eqb}
use borrow.Author.Tests.{eqb-true, eqb-false, eq-eqb}
use Rattle.rules.specs.Text.{All, flat}
use Rattle.rules.specs.Sheet.{most_columns}
use Rattle.rules.specs.Field.{between, printable, printable_or_zero}
use Rattle.rules.specs.Description.{Fault, wrong_edition, unknown_code, beyond_limits, not_zero, number_of}
use Rattle.rules.specs.Description.{Format, byte, word, only, zero_word, text, cell_text, listed, give, next, within, optional, writes}
use Rattle.rules.specs.Format.{width, column, line, cell_by, cell, row_by, row, table_by, table}
use Rattle.rules.specs.Steps.{Step, At, Refused}
use Rattle.rules.specs.Limits.{IsByte, IsText, nothing, plain, degree, Printable, Optional}
use Rattle.rules.specs.Writer.{thence, passes, in_turn, character_judged, characters_judged, judges}
use Rattle.rules.proofs.Parts.{part}
use Rattle.laws.proofs.Lists.{all_imp, all_append, all-flat}
pub use Rattle.laws.proofs.Reading.{FaultNumber}
use Rattle.laws.proofs.Reading.{fault_number, KeepsValue, between_both, between-true}
use Rattle.laws.proofs.Accepted.{optional_either, any_value}

-- ---- what is tested is a field

-- one number, in one byte or two
unfoldable pub IsField : {A : Type 0} → Format A → Type 0
IsField byte = Unit {0}
IsField word = Unit {0}
IsField (only good fault x) = IsField x
IsField zero_word = Unit {0}
IsField (text low high good) = ⊥
IsField (cell_text low high) = ⊥
IsField (listed count x) = ⊥
IsField (give a) = ⊥
IsField (next of x g) = ⊥

-- each test is of a field, which has a byte for the fault's place; and each count is one
unfoldable pub TestsFields : {A : Type 0} → Format A → Type 0
TestsFields byte = Unit {0}
TestsFields word = Unit {0}
TestsFields (only good fault x) = IsField x
TestsFields zero_word = Unit {0}
TestsFields (text low high good) = Unit {0}
TestsFields (cell_text low high) = Unit {0}
TestsFields (listed count x) = IsField count × TestsFields x
TestsFields (give a) = Unit {0}
TestsFields (next {A = A} of x g) = TestsFields x × ((a : A) → TestsFields (g a))

pub field_tests : {A : Type 0} (x : Format A) → IsField x → TestsFields x
unfolding IsField TestsFields
field_tests byte i = tt
field_tests word i = tt
field_tests (only good fault x) i = i
field_tests zero_word i = tt
field_tests (text low high good) i = tt
field_tests (cell_text low high) i = tt
field_tests (listed count x) i = absurd i
field_tests (give a) i = tt
field_tests (next of x g) i = absurd i

field_bytes : {A : Type 0} (x : Format A) (a : A) → IsField x → 1 ≤ length (writes x a)
unfolding IsField writes
field_bytes byte v i = omega arith
field_bytes word v i = omega arith
field_bytes (only good fault x) v i = field_bytes x v i
field_bytes zero_word v i = omega arith
field_bytes (text low high good) l i = absurd i
field_bytes (cell_text low high) l i = absurd i
field_bytes (listed count x) as' i = absurd i
field_bytes (give a) u i = absurd i
field_bytes (next of x g) u i = absurd i

-- so it is in every part of the sheet
pub width_tests : (used : Bool) → TestsFields (width used)
unfolding TestsFields IsField width
width_tests true = part tt λ u. part tt λ v. tt
width_tests false = part tt λ u. part tt λ v. tt

pub column_tests : TestsFields column
unfolding TestsFields IsField column
column_tests =
    part tt λ l. part tt λ r. part tt λ d. part tt λ a. part tt λ k. part (width_tests (leb 3 k)) λ v. part (width_tests (eqb k 6)) λ w. tt

pub cell_tests : TestsFields cell
unfolding TestsFields IsField cell_by line
cell_tests = part tt λ d. part tt λ a. part (tt, tt) λ ls. tt

pub row_tests : (columns : ℕ) → TestsFields (row columns)
unfolding TestsFields IsField row_by
row_tests columns = part tt λ h. part (tt, cell_tests) λ cs. tt

pub table_tests : TestsFields table
unfolding TestsFields IsField table_by
table_tests =
    part tt λ e. part tt λ a. part tt λ w. part tt λ d. part tt λ i. part tt λ st. part (tt, column_tests) λ cs.
    part (tt, row_tests (length cs)) λ h. part (tt, row_tests (length cs)) λ rs. tt

-- ---- a value's bytes l, judged from p on

-- passed, and K is what the tests ask
record Passed (l : List ℕ) (K : Type 0) (p q : ℕ) : Type 0 where
  end : q ≡ p + length l
  kept : K

-- or a fault, which is at one of the bytes where S: that what is tested are fields
record Faulty (l : List ℕ) (K S : Type 0) (p n q : ℕ) : Type 0 where
  number : FaultNumber n
  from : p ≤ q
  inside : S → q < p + length l
  unkept : K → ⊥

abbrev Judged : List ℕ → Type 0 → Type 0 → ℕ → Step → Type 0
Judged l K S p (At q) = Passed l K p q
Judged l K S p (Refused n q) = Faulty l K S p n q

-- the same, where K or S are told otherwise
judged_as : (l : List ℕ) (K M S U : Type 0) → (K → M) → (M → K) → (U → S) → (p : ℕ) (y : Step) → Judged l K S p y → Judged l M U p y
judged_as l K M S U to back s p (At q) h = record { end = h.end; kept = to h.kept }
judged_as l K M S U to back s p (Refused n q) h =
    record { number = h.number; from = h.from; inside = λ u. h.inside (s u); unkept = λ m. h.unkept (back m) }

judged_under : (l : List ℕ) (K S U : Type 0) → (U → S) → (p : ℕ) (y : Step) → Judged l K S p y → Judged l K U p y
judged_under l K S U = judged_as l K K S U (λ k. k) (λ k. k)

-- one part behind another
then-judged : (l m : List ℕ) (K L S : Type 0) (p : ℕ) (f : ℕ → Step) → ((q : ℕ) → Judged m L S q (f q)) → (y : Step) → Judged l K S p y
    → Judged (l ++ m) (K × L) S p (thence y f)
unfolding thence
then-judged l m K L S p f rest (At q) h = go (f q) (rest q)
  where
    go : (y : Step) → Judged m L S q y → Judged (l ++ m) (K × L) S p y
    go (At r) k = record { end = rw (length-append l m) (omega (arith, h.end, k.end)); kept = (h.kept, k.kept) }
    go (Refused n r) k = record {
      number = k.number;
      from = omega (arith, h.end, k.from);
      inside = λ s. rw (length-append l m) (omega (arith, h.end, k.inside s));
      unkept = λ i. k.unkept i.1;
    }
then-judged l m K L S p f rest (Refused n q) h = record {
  number = h.number;
  from = h.from;
  inside = λ s. rw (length-append l m) (omega (arith, h.inside s));
  unkept = λ i. h.unkept i.0;
}

-- a test of a field
passes-judged : (l : List ℕ) → 1 ≤ length l → (S : Type 0) (b : Bool) (number p : ℕ) → FaultNumber number
    → Judged l (b ≡ true) S p (passes b number p (p + length l))
unfolding passes
passes-judged l some S true number p n = record { end = refl; kept = refl }
passes-judged l some S false number p n = record { number = n; from = omega arith; inside = λ s. omega arith; unkept = false≢true }

-- and what is behind it
test-judged : (l m : List ℕ) → 1 ≤ length l → (L S : Type 0) (b : Bool) (number p : ℕ) → FaultNumber number → (f : ℕ → Step)
    → ((q : ℕ) → Judged m L S q (f q)) → Judged (l ++ m) ((b ≡ true) × L) S p (thence (passes b number p (p + length l)) f)
test-judged l m some L S b number p n f rest =
    then-judged l m (b ≡ true) L S p f rest (passes b number p (p + length l)) (passes-judged l some S b number p n)

-- another test of a field
only-judged : (l : List ℕ) (K S : Type 0) → (S → 1 ≤ length l) → (b : Bool) (number p : ℕ) → FaultNumber number
    → (y : Step) → Judged l K S p y → Judged l ((b ≡ true) × K) S p (thence y (passes b number p))
unfolding thence passes
only-judged l K S some true number p n (At q) h = record { end = h.end; kept = (refl, h.kept) }
only-judged l K S some false number p n (At q) h =
    record { number = n; from = omega arith; inside = λ s. omega (arith, some s); unkept = λ i. false≢true i.0 }
only-judged l K S some b number p n (Refused m q) h =
    record { number = h.number; from = h.from; inside = h.inside; unkept = λ i. h.unkept i.1 }

-- items one after another
turn-judged : {A : Type 0} (f : A → ℕ → Step) (w : A → List ℕ) (K : A → Type 0) (S : Type 0) → ((a : A) (q : ℕ) → Judged (w a) (K a) S q (f a q))
    → (as' : List A) (p : ℕ) → Judged (flat (map w as')) (All K as') S p (in_turn f as' p)
unfolding in_turn flat
turn-judged f w K S h [] p = record { end = omega arith; kept = tt }
turn-judged f w K S h (a ∷ as') p =
    then-judged (w a) (flat (map w as')) (K a) (All K as') S p (in_turn f as') (turn-judged f w K S h as') (f a p) (h a p)

-- the characters of a text
text-judged : (good : ℕ → Bool) (S : Type 0) (l : List ℕ) (p : ℕ) → Judged l (All (λ c. good c ≡ true) l) S p (in_turn (character_judged good) l p)
unfolding in_turn
text-judged good S [] p = record { end = omega arith; kept = tt }
text-judged good S (c ∷ l) p =
    test-judged (c ∷ []) l (omega arith) (All (λ d. good d ≡ true) l) S (good c) 6 p (omega arith, omega arith) (in_turn (character_judged good) l)
    (text-judged good S l)

-- what a cell's text begins with
printable-true : (b : ℕ) → Printable b → printable b ≡ true
printable-true b h = between-true 32 126 b h.0 h.1

first_plain : {b : ℕ} {l : List ℕ} → IsText (b ∷ l) → (b ≡ 194 → ⊥) → (printable b ≡ true) × IsText l
first_plain (plain b l h k) n = (printable-true b h, k)
first_plain (degree l k) n = absurd (n refl)

first_pair : {b c : ℕ} {l : List ℕ} → IsText (b ∷ c ∷ l) → b ≡ 194 → (eqb c 176 ≡ true) × IsText l
first_pair (plain b l h k) e = absurd (omega (arith, e, h.1))
first_pair (degree l k) e = (refl, k)

last-plain : {b : ℕ} → IsText (b ∷ []) → printable b ≡ true
last-plain (plain b l h k) = printable-true b h

-- a cell's text, by whether a pair begins there
characters-judged : (S : Type 0) (l : List ℕ) (p : ℕ) → Judged l (IsText l) S p (characters_judged l p)
unfolding characters_judged
characters-judged S [] p = record { end = omega arith; kept = nothing }
characters-judged S (b ∷ []) p =
    judged_as (b ∷ []) (printable b ≡ true) (IsText (b ∷ [])) S S (λ i. plain b [] (between_both 32 126 b i) nothing) last-plain (λ s. s) p
    (character_judged printable b p) (passes-judged (b ∷ []) (omega arith) S (printable b) 6 p (omega arith, omega arith))
characters-judged S (b ∷ c ∷ l) p = go (eqb b 194) refl (characters-judged S l) (characters-judged S (c ∷ l))
  where
    go : (t : Bool) → eqb b 194 ≡ t → ((q : ℕ) → Judged l (IsText l) S q (characters_judged l q))
        → ((q : ℕ) → Judged (c ∷ l) (IsText (c ∷ l)) S q (characters_judged (c ∷ l) q))
        → Judged (b ∷ c ∷ l) (IsText (b ∷ c ∷ l)) S p (elim t as (λ z. Step) [
          | true ↦ thence (passes (eqb c 176) 6 p (p + 2)) (characters_judged l)
          | false ↦ thence (character_judged printable b p) (characters_judged (c ∷ l))
        ])
    go true e two more =
        let first = eqb-true b 194 e in
        judged_as (b ∷ c ∷ l) ((eqb c 176 ≡ true) × IsText l) (IsText (b ∷ c ∷ l)) S S
        (λ i. let second = eqb-true c 176 i.0 in rw (first, second) (degree l i.1)) (λ i. first_pair i first) (λ s. s) p
        (thence (passes (eqb c 176) 6 p (p + 2)) (characters_judged l))
        (test-judged (b ∷ c ∷ []) l (omega arith) (IsText l) S (eqb c 176) 6 p (omega arith, omega arith) (characters_judged l) two)
    go false e two more =
        judged_as (b ∷ c ∷ l) ((printable b ≡ true) × IsText (c ∷ l)) (IsText (b ∷ c ∷ l)) S S
        (λ i. plain b (c ∷ l) (between_both 32 126 b i.0) i.1) (λ i. first_plain i (eqb-false b 194 e)) (λ s. s) p
        (thence (character_judged printable b p) (characters_judged (c ∷ l)))
        (test-judged (b ∷ []) (c ∷ l) (omega arith) (IsText (c ∷ l)) S (printable b) 6 p (omega arith, omega arith) (characters_judged (c ∷ l)) more)

-- the value of an unused width: both bytes are 0
zero-judged : (v p : ℕ) → Judged (v % 256 ∷ v / 256 ∷ []) (v ≡ 0) (Unit {0}) p
    (thence (passes (eqb (v % 256) 0) 8 p (p + 1)) (λ q. passes (eqb (v / 256) 0) 8 q (q + 1)))
zero-judged v p =
    let low = eqb (v % 256) 0 in
    let high = eqb (v / 256) 0 in
    judged_as (v % 256 ∷ v / 256 ∷ []) ((low ≡ true) × (high ≡ true)) (v ≡ 0) (Unit {0}) (Unit {0})
    (λ i. omega (arith, eqb-true (v % 256) 0 i.0, eqb-true (v / 256) 0 i.1))
    (λ i. (eq-eqb (v % 256) 0 (omega arith), eq-eqb (v / 256) 0 (omega arith))) (λ s. s) p
    (thence (passes low 8 p (p + 1)) (λ q. passes high 8 q (q + 1)))
    (test-judged (v % 256 ∷ []) (v / 256 ∷ []) (omega arith) (high ≡ true) (Unit {0}) low 8 p (omega arith, omega arith)
    (λ q. passes high 8 q (q + 1)) (λ q. passes-judged (v / 256 ∷ []) (omega arith) (Unit {0}) high 8 q (omega arith, omega arith)))

-- the law
judged_so : {A : Type 0} (x : Format A) (a : A) (p : ℕ) → Judged (writes x a) (KeepsValue x a) (TestsFields x) p (judges x a p)
unfolding judges writes KeepsValue TestsFields
judged_so byte v p = record { end = refl; kept = tt }
judged_so word v p = record { end = refl; kept = tt }
judged_so (only good fault x) v p =
    only-judged (writes x v) (KeepsValue x v) (IsField x) (field_bytes x v) (good v) (number_of fault) p (fault_number fault) (judges x v p)
    (judged_under (writes x v) (KeepsValue x v) (TestsFields x) (IsField x) (field_tests x) p (judges x v p) (judged_so x v p))
judged_so zero_word v p = zero-judged v p
judged_so (text low high good) l p =
    test-judged (length l ∷ []) l (omega arith) (All (λ c. good c ≡ true) l) (Unit {0}) (between low high (length l)) 5 p (omega arith, omega arith)
    (in_turn (character_judged good) l) (text-judged good (Unit {0}) l)
judged_so (cell_text low high) l p =
    test-judged (length l ∷ []) l (omega arith) (IsText l) (Unit {0}) (between low high (length l)) 5 p (omega arith, omega arith)
    (characters_judged l) (characters-judged (Unit {0}) l)
judged_so (listed count x) as' p =
    let n = length as' in
    let S = IsField count × TestsFields x in
    then-judged (writes count n) (flat (map (λ a. writes x a) as')) (KeepsValue count n) (All (λ a. KeepsValue x a) as') S p
    (in_turn (λ a q. judges x a q) as')
    (turn-judged (λ a q. judges x a q) (λ a. writes x a) (λ a. KeepsValue x a) S
    (λ a q. judged_under (writes x a) (KeepsValue x a) (TestsFields x) S (λ s. s.1) q (judges x a q) (judged_so x a q)) as')
    (judges count n p)
    (judged_under (writes count n) (KeepsValue count n) (TestsFields count) S (λ s. field_tests count s.0) p (judges count n p) (judged_so count n p))
judged_so (give a) u p = record { end = omega arith; kept = tt }
judged_so (next {A = A} of x g) u p =
    let a = of u in
    let S = TestsFields x × ((b : A) → TestsFields (g b)) in
    then-judged (writes x a) (writes (g a) u) (KeepsValue x a) (KeepsValue (g a) u) S p (λ q. judges (g a) u q)
    (λ q. judged_under (writes (g a) u) (KeepsValue (g a) u) (TestsFields (g a)) S (λ s. s.1 a) q (judges (g a) u q) (judged_so (g a) u q))
    (judges x a p) (judged_under (writes x a) (KeepsValue x a) (TestsFields x) S (λ s. s.0) p (judges x a p) (judged_so x a p))

module _ {A : Type 0} (x : Format A) (a : A) (p : ℕ) where
  judged-step : (y : Step) → judges x a p ≡ y → Judged (writes x a) (KeepsValue x a) (TestsFields x) p y
  judged-step y e = subst (Judged (writes x a) (KeepsValue x a) (TestsFields x) p) e (judged_so x a p)

  -- a value that is not refused ends where its bytes do, and keeps what the tests ask
  pub judged_ends : (q : ℕ) → judges x a p ≡ At q → q ≡ p + length (writes x a)
  judged_ends q e = (judged-step (At q) e).end

  pub judged-keeps : (q : ℕ) → judges x a p ≡ At q → KeepsValue x a
  judged-keeps q e = (judged-step (At q) e).kept

  pub judged_number : (n q : ℕ) → judges x a p ≡ Refused n q → FaultNumber n
  judged_number n q e = (judged-step (Refused n q) e).number

  -- what keeps what the tests ask is not refused
  pub keeps-judged : KeepsValue x a → judges x a p ≡ At (p + length (writes x a))
  keeps-judged k = go (judges x a p) refl
    where
      go : (y : Step) → judges x a p ≡ y → y ≡ At (p + length (writes x a))
      go (At q) e = ap At (judged_ends q e)
      go (Refused n q) e = absurd ((judged-step (Refused n q) e).unkept k)

-- a fault is at one of the bytes that there would have been
pub judged_inside : {A : Type 0} (x : Format A) → TestsFields x → (a : A) (p n q : ℕ) → judges x a p ≡ Refused n q
    → (p ≤ q) × (q < p + length (writes x a))
judged_inside x t a p n q e = let h = judged-step x a p (Refused n q) e in (h.from, h.inside t)

-- ---- what passed is written in bytes

-- whatever passes a test fits its field
unfoldable pub Narrow : {A : Type 0} → Format A → Type 0
Narrow byte = ⊥
Narrow word = ⊥
Narrow (only good fault x) = (v : ℕ) → good v ≡ true → KeepsValue x v → All IsByte (writes x v)
Narrow zero_word = Unit {0}
Narrow (text low high good) = (high ≤ 255) × ((c : ℕ) → good c ≡ true → IsByte c)
Narrow (cell_text low high) = high ≤ 255
Narrow (listed count x) = Narrow count × Narrow x
Narrow (give a) = Unit {0}
Narrow (next {A = A} of x g) = Narrow x × ((a : A) → Narrow (g a))

text_bytes : {l : List ℕ} → IsText l → All IsByte l
text_bytes nothing = tt
text_bytes (plain b l h k) = (omega (arith, h.1), text_bytes k)
text_bytes (degree l k) = (omega arith, (omega arith, text_bytes k))

kept_bytes : {A : Type 0} (x : Format A) → Narrow x → (a : A) → KeepsValue x a → All IsByte (writes x a)
unfolding Narrow KeepsValue writes
kept_bytes byte n v k = absurd n
kept_bytes word n v k = absurd n
kept_bytes (only good fault x) n v k = n v k.0 k.1
kept_bytes zero_word n v k = (omega arith, (omega (arith, k), tt))
kept_bytes (text low high good) n l k =
    (omega (arith, n.0, (between_both low high (length l) k.0).1), all_imp (λ c. good c ≡ true) IsByte n.1 l k.1)
kept_bytes (cell_text low high) n l k = (omega (arith, n, (between_both low high (length l) k.0).1), text_bytes k.1)
kept_bytes (listed count x) n as' k =
    all_append IsByte (writes count (length as')) (flat (map (λ a. writes x a) as')) (kept_bytes count n.0 (length as') k.0)
    (all-flat (KeepsValue x) IsByte (λ a. writes x a) (λ a i. kept_bytes x n.1 a i) as' k.1)
kept_bytes (give a) n u k = tt
kept_bytes (next of x g) n u k =
    all_append IsByte (writes x (of u)) (writes (g (of u)) u) (kept_bytes x n.0 (of u) k.0) (kept_bytes (g (of u)) (n.1 (of u)) u k.1)

pub judged_bytes : {A : Type 0} (x : Format A) → Narrow x → (a : A) (p q : ℕ) → judges x a p ≡ At q → All IsByte (writes x a)
judged_bytes x n a p q e = kept_bytes x n a (judged-keeps x a p q e)

byte_narrow : (low high : ℕ) (fault : Fault) → high ≤ 255 → Narrow (only (between low high) fault byte)
unfolding Narrow writes
byte_narrow low high fault h v e k = (omega (arith, (between_both low high v e).1), tt)

word_narrow : (low high : ℕ) (fault : Fault) → high ≤ 65535 → Narrow (only (between low high) fault word)
unfolding Narrow writes
word_narrow low high fault h v e k = (omega arith, (omega (arith, (between_both low high v e).1), tt))

optional-byte : (v : ℕ) → printable_or_zero v ≡ true → IsByte v
optional-byte v e = go (optional_either v e)
  where
    go : Optional v → IsByte v
    go (inl h) = omega arith
    go (inr h) = omega (arith, h.1)

optional_narrow : Narrow optional
unfolding Narrow writes
optional_narrow v e k = (optional-byte v e, tt)

-- so it is in every part of the sheet
pub width_narrow : (used : Bool) → Narrow (width used)
unfolding Narrow width
width_narrow true =
    part (byte_narrow 0 1 unknown_code (omega arith)) λ u.
    part (word_narrow 0 (cond (eqb u 0) 400 65535) beyond_limits (any_value u (cond (eqb u 0) 400 65535) (omega arith))) λ v. tt
width_narrow false = part (byte_narrow 0 0 not_zero (omega arith)) λ u. part tt λ v. tt

pub column_narrow : Narrow column
unfolding Narrow column
column_narrow =
    part (byte_narrow 0 20 beyond_limits (omega arith)) λ l. part (byte_narrow 0 20 beyond_limits (omega arith)) λ r. part optional_narrow λ d.
    part (byte_narrow 0 3 unknown_code (omega arith)) λ a. part (byte_narrow 0 6 unknown_code (omega arith)) λ k.
    part (width_narrow (leb 3 k)) λ v. part (width_narrow (eqb k 6)) λ w. tt

pub cell_narrow : Narrow cell
unfolding Narrow cell_by line
cell_narrow =
    part optional_narrow λ d. part (byte_narrow 0 3 unknown_code (omega arith)) λ a.
    part (byte_narrow 1 8 beyond_limits (omega arith), omega arith) λ ls. tt

pub row_narrow : (columns : ℕ) → Narrow (row columns)
unfolding Narrow row_by
row_narrow columns =
    part (byte_narrow 0 255 beyond_limits (omega arith)) λ h.
    part (λ v e k. kept_bytes (within 0 most_columns) (byte_narrow 0 most_columns beyond_limits (omega arith)) v k, cell_narrow) λ cs. tt

pub table_narrow : Narrow table
unfolding Narrow table_by
table_narrow =
    part (byte_narrow 1 1 wrong_edition (omega arith)) λ e. part (byte_narrow 0 2 unknown_code (omega arith)) λ a.
    part (word_narrow 0 400 beyond_limits (omega arith)) λ w. part optional_narrow λ d.
    part (omega arith, λ c f. omega (arith, (between_both 32 126 c f).1)) λ i. part (omega arith, optional-byte) λ st.
    part (byte_narrow 0 most_columns beyond_limits (omega arith), column_narrow) λ cs.
    part (byte_narrow 0 1 beyond_limits (omega arith), row_narrow (length cs)) λ h.
    part (byte_narrow 0 100 beyond_limits (omega arith), row_narrow (length cs)) λ rs. tt
