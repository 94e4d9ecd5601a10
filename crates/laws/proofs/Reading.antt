-- What a reading comes to, by the description of what is read: one clause for each way to put fields together. Assumes nothing.
use Prim.Native.Nat.{ℕ, zero, suc, ◌+◌, ◌*◌, ◌≤◌, ◌<◌, ◌%◌}
use mathlib.Core.Path.{◌≡◌, refl, ap, sym, subst, ◌∙◌}
use mathlib.Core.List.{List, [], ◌∷◌}
use mathlib.Core.Bool.{Bool, true, false, and-eq-true_iff}
use native.Mathlib.Omega.{arith}
use lib.ListN.{length, take, drop}
use lib.Seq.{drop-cons}
use lib.Dec.{ltb, leb, eqb}
use borrow.Author.Tests.{ltb-true, leb-true, eqb-true, le-leb}
use Rattle.rules.specs.Text.{All}
use Rattle.rules.specs.Field as field
use Rattle.rules.specs.Field.{Read, got, refused, Reader, onward, byte_at, word_at, between, printable, several}
use Rattle.rules.specs.Description.{Faithful, Fault, wrong_edition, unknown_code, beyond_limits, bad_character, too_many_cells, not_zero, number_of}
use Rattle.rules.specs.Description.{Format, byte, word, only, zero_word, text, cell_text, listed, give, next, text_length, character, reads}
use Rattle.rules.specs.Description.{characters}
use Rattle.rules.specs.Description as description
use Rattle.rules.specs.Limits.{IsText, nothing, plain, degree}
use Rattle.rules.specs.Description.{past, parts, text_at, line_stop, Extent, stands, here, stop}
use Rattle.rules.specs.Steps.{step_of, read_from, here_of, byte_of, times, after}
use Rattle.rules.specs.Steps.{Step, At, Refused}

-- every refusal from the input is numbered 1 to 9
abbrev pub Number : ℕ → Type 0
Number n = (1 ≤ n) × (n ≤ 9)

-- a fault of a field's value 3 to 8
abbrev pub FaultNumber : ℕ → Type 0
FaultNumber n = (3 ≤ n) × (n ≤ 8)

pub fault_number : (f : Fault) → FaultNumber (number_of f)
fault_number wrong_edition = (omega arith, omega arith)
fault_number unknown_code = (omega arith, omega arith)
fault_number beyond_limits = (omega arith, omega arith)
fault_number bad_character = (omega arith, omega arith)
fault_number too_many_cells = (omega arith, omega arith)
fault_number not_zero = (omega arith, omega arith)

pub between_both : (low high v : ℕ) → between low high v ≡ true → (low ≤ v) × (v ≤ high)
between_both low high v e =
    let h = (and-eq-true_iff (leb low v) (leb v high)).0 e in
    (leb-true low v h.0, leb-true v high h.1)

pub between-true : (low high v : ℕ) → low ≤ v → v ≤ high → between low high v ≡ true
between-true low high v h k = rw (le-leb low v h, le-leb v high k)

-- what the tests ask of a value
unfoldable pub KeepsValue : {A : Type 0} → Format A → A → Type 0
KeepsValue byte v = Unit {0}
KeepsValue word v = Unit {0}
KeepsValue (only good fault x) v = (good v ≡ true) × KeepsValue x v
KeepsValue zero_word v = v ≡ 0
KeepsValue (text low high good) l = (between low high (length l) ≡ true) × All (λ c. good c ≡ true) l
KeepsValue (cell_text low high) l = (between low high (length l) ≡ true) × IsText l
KeepsValue (listed count x) as' = KeepsValue count (length as') × All (λ a. KeepsValue x a) as'
KeepsValue (give a) u = Unit {0}
KeepsValue (next of x g) u = KeepsValue x (of u) × KeepsValue (g (of u)) u

-- a value that was read is what stands there, from p to q, and has passed the tests
pub record Reads {A : Type 0} (x : Format A) (P : A → Type 0) (s : List ℕ) (p : ℕ) (a : A) (q : ℕ) : Type 0 where
  pub value : a ≡ here x s p
  pub end : q ≡ stop x s p
  pub onward : p ≤ q
  pub inside : p ≤ length s → q ≤ length s
  pub kept : KeepsValue x a
  pub proper : P a

-- read so, or refused with a number
abbrev pub Sound : {A : Type 0} → Format A → (A → Type 0) → List ℕ → ℕ → Read A → Type 0
Sound x P s p (got a q) = Reads x P s p a q
Sound x P s p (refused n q) = Number n

-- ---- fields

byte_sound : (P : ℕ → Type 0) → ((v : ℕ) → P v) → (s : List ℕ) (p : ℕ) → Sound byte P s p (field.byte s p)
unfolding field.byte stands KeepsValue
byte_sound P h s p = go (ltb p (length s)) refl
  where
    go : (b : Bool) → ltb p (length s) ≡ b → Sound byte P s p (elim b as (λ x. Read ℕ)
        [ true ↦ got (byte_at s p) (p + 1) | false ↦ refused 1 (length s) ])
    go true e =
        let l = ltb-true p (length s) e in
        record { value = refl; end = refl; onward = omega arith; inside = λ i. omega arith; kept = tt; proper = h (byte_at s p) }
    go false e = (omega arith, omega arith)

word_sound : (P : ℕ → Type 0) → ((v : ℕ) → P v) → (s : List ℕ) (p : ℕ) → Sound word P s p (field.word s p)
unfolding field.word stands KeepsValue
word_sound P h s p = go (ltb (p + 1) (length s)) refl
  where
    go : (b : Bool) → ltb (p + 1) (length s) ≡ b → Sound word P s p (elim b as (λ x. Read ℕ)
        [ true ↦ got (word_at s p) (p + 2) | false ↦ refused 1 (length s) ])
    go true e =
        let l = ltb-true (p + 1) (length s) e in
        record { value = refl; end = refl; onward = omega arith; inside = λ i. omega arith; kept = tt; proper = h (word_at s p) }
    go false e = (omega arith, omega arith)

zeros_sound : (P : ℕ → Type 0) → (s : List ℕ) (p : ℕ) (y : Read ℕ) → Sound word P s p y
    → Sound zero_word P s p
    (onward y (λ v q. elim (eqb v 0) [ true ↦ got v q | false ↦ elim (eqb (v % 256) 0) [ true ↦ refused 8 (p + 1) | false ↦ refused 8 p ] ]))
unfolding onward stands KeepsValue
zeros_sound P s p (got v q) r = go (eqb v 0) (eqb (v % 256) 0) refl
  where
    go : (b c : Bool) → eqb v 0 ≡ b
        → Sound zero_word P s p (elim b as (λ x. Read ℕ) [
          | true ↦ got v q
          | false ↦ elim c as (λ x. Read ℕ)
              [ true ↦ refused 8 (p + 1) | false ↦ refused 8 p ]
        ])
    go true c e = record { value = r.value; end = r.end; onward = r.onward; inside = r.inside; kept = eqb-true v 0 e; proper = r.proper }
    go false true e = (omega arith, omega arith)
    go false false e = (omega arith, omega arith)
zeros_sound P s p (refused n q) r = r

only_sound : (good : ℕ → Bool) (fault : Fault) (x : Format ℕ) (P : ℕ → Type 0) (s : List ℕ) (p : ℕ) (y : Read ℕ) → Sound x P s p y
    → Sound (only good fault x) P s p (onward y (λ v q. elim (good v) [ true ↦ got v q | false ↦ refused (number_of fault) p ]))
unfolding onward stands KeepsValue
only_sound good fault x P s p (got v q) r = go (good v) refl
  where
    go : (b : Bool) → good v ≡ b → Sound (only good fault x) P s p (elim b as (λ z. Read ℕ) [ true ↦ got v q | false ↦ refused (number_of fault) p ])
    go true e = record { value = r.value; end = r.end; onward = r.onward; inside = r.inside; kept = (e, r.kept); proper = r.proper }
    go false e = let n = fault_number fault in (omega (arith, n.0), omega (arith, n.1))
only_sound good fault x P s p (refused n q) r = r

-- ---- a text

-- a byte that passed its test
pub record Tested (good : ℕ → Bool) (s : List ℕ) (p v q : ℕ) : Type 0 where
  pub value : v ≡ byte_at s p
  pub end : q ≡ p + 1
  pub there : p < length s
  pub passed : good v ≡ true

abbrev ByteSound : (ℕ → Bool) → ℕ → List ℕ → ℕ → Read ℕ → Type 0
ByteSound good m s p (got v q) = Tested good s p v q
ByteSound good m s p (refused n q) = Number m → Number n

byte_tested : (good : ℕ → Bool) (m : ℕ) (s : List ℕ) (p : ℕ) → ByteSound good m s p (field.only good m field.byte s p)
unfolding field.only field.byte onward
byte_tested good m s p = go (ltb p (length s)) refl
  where
    test : p < length s → (b : Bool) → good (byte_at s p) ≡ b
        → ByteSound good m s p (elim b as (λ x. Read ℕ) [ true ↦ got (byte_at s p) (p + 1) | false ↦ refused m p ])
    test l true e = record { value = refl; end = refl; there = l; passed = e }
    test l false e = λ i. i

    go : (b : Bool) → ltb p (length s) ≡ b
        → ByteSound good m s p
        (onward (elim b as (λ x. Read ℕ) [ true ↦ got (byte_at s p) (p + 1) | false ↦ refused 1 (length s) ])
        (λ v q. elim (good v) as (λ x. Read ℕ) [ true ↦ got v q | false ↦ refused m p ]))
    go true e = test (ltb-true p (length s) e) (good (byte_at s p)) refl
    go false e = λ i. (omega arith, omega arith)

pub tested : (good : ℕ → Bool) (m : ℕ) (s : List ℕ) (p v q : ℕ) → field.only good m field.byte s p ≡ got v q → Tested good s p v q
tested good m s p v q e = subst (ByteSound good m s p) e (byte_tested good m s p)

-- n characters are a part of the sheet
record Characters (good : ℕ → Bool) (s : List ℕ) (n p : ℕ) (l : List ℕ) (q : ℕ) : Type 0 where
  value : l ≡ take n (drop p s)
  end : q ≡ p + n
  inside : p ≤ length s → q ≤ length s
  count : length l ≡ n
  each : All (λ c. good c ≡ true) l

abbrev CharactersSound : (ℕ → Bool) → List ℕ → ℕ → ℕ → Read (List ℕ) → Type 0
CharactersSound good s n p (got l q) = Characters good s n p l q
CharactersSound good s n p (refused m q) = Number m

character_then : (good : ℕ → Bool) (s : List ℕ) (n p v q : ℕ) → Tested good s p v q → (y : Read (List ℕ)) → CharactersSound good s n q y
    → CharactersSound good s (suc n) p (onward y (λ l r. got (v ∷ l) r))
unfolding onward
character_then good s n p v q t (got l r) c =
    let a : q ≡ suc p = omega (arith, t.end) in
    record {
      value = rw (drop-cons s p 0 t.there, ← t.value, ← a, ← c.value);
      end = omega (arith, c.end);
      inside = λ i. c.inside (omega (arith, t.there));
      count = ap suc c.count;
      each = (t.passed, c.each);
    }
character_then good s n p v q t (refused m r) c = c

characters_sound : (good : ℕ → Bool) (s : List ℕ) (n p : ℕ) → CharactersSound good s n p (several n (character good) s p)
unfolding several onward
characters_sound good s zero p = record { value = refl; end = omega arith; inside = λ i. i; count = refl; each = tt }
characters_sound good s (suc n) p = go (character good s p) (byte_tested good 6 s p) (characters_sound good s n)
  where
    go : (y : Read ℕ) → ByteSound good 6 s p y → ((r : ℕ) → CharactersSound good s n r (several n (character good) s r))
        → CharactersSound good s (suc n) p (onward y (λ v q. onward (several n (character good) s q) (λ l r. got (v ∷ l) r)))
    go (got v q) t ih = character_then good s n p v q t (several n (character good) s q) (ih q)
    go (refused m q) t ih = t (omega arith, omega arith)

text_sound : (low high : ℕ) (good : ℕ → Bool) (P : List ℕ → Type 0) → ((l : List ℕ) → P l)
    → (s : List ℕ) (p : ℕ) (y : Read ℕ) → ByteSound (between low high) 5 s p y
    → Sound (text low high good) P s p (onward y (λ n q. several n (character good) s q))
unfolding onward stands KeepsValue text_at line_stop
text_sound low high good P h s p (got n q) t = go (several n (character good) s q) (characters_sound good s n q)
  where
    go : (y : Read (List ℕ)) → CharactersSound good s n q y → Sound (text low high good) P s p y
    go (got l r) c = record {
      value = rw (← t.value, ← t.end) c.value;
      end = rw (← t.value, ← t.end) c.end;
      onward = omega (arith, c.end, t.end);
      inside = λ i. c.inside (omega (arith, t.there, t.end));
      kept = (rw c.count t.passed, c.each);
      proper = h l;
    }
    go (refused m r) c = c
text_sound low high good P h s p (refused m q) t = t (omega arith, omega arith)

-- ---- a cell's text

-- both bytes of a pair
record Paired (s : List ℕ) (p q : ℕ) : Type 0 where
  end : q ≡ p + 2
  there : p + 1 < length s
  passed : word_at s p ≡ 194 + 176 * 256

abbrev PairSound : List ℕ → ℕ → Read ℕ → Type 0
PairSound s p (got v q) = Paired s p q
PairSound s p (refused n q) = Number n

pair_tested : (s : List ℕ) (p : ℕ) → PairSound s p (description.degree s p)
unfolding field.only field.word onward
pair_tested s p = go (ltb (p + 1) (length s)) refl
  where
    test : p + 1 < length s → (b : Bool) → eqb (194 + 176 * 256) (word_at s p) ≡ b
        → PairSound s p (elim b as (λ x. Read ℕ) [ true ↦ got (word_at s p) (p + 2) | false ↦ refused 6 p ])
    test l true e = record { end = refl; there = l; passed = sym (eqb-true (194 + 176 * 256) (word_at s p) e) }
    test l false e = (omega arith, omega arith)

    go : (b : Bool) → ltb (p + 1) (length s) ≡ b
        → PairSound s p
        (onward (elim b as (λ x. Read ℕ) [ true ↦ got (word_at s p) (p + 2) | false ↦ refused 1 (length s) ])
        (λ v q. elim (eqb (194 + 176 * 256) v) as (λ x. Read ℕ) [ true ↦ got v q | false ↦ refused 6 p ]))
    go true e = test (ltb-true (p + 1) (length s) e) (eqb (194 + 176 * 256) (word_at s p)) refl
    go false e = (omega arith, omega arith)

-- n bytes of characters and pairs are a part of the sheet
record Bytes (s : List ℕ) (n p : ℕ) (l : List ℕ) (q : ℕ) : Type 0 where
  value : l ≡ take n (drop p s)
  end : q ≡ p + n
  inside : p ≤ length s → q ≤ length s
  count : length l ≡ n
  text : IsText l

abbrev BytesSound : List ℕ → ℕ → ℕ → Read (List ℕ) → Type 0
BytesSound s n p (got l q) = Bytes s n p l q
BytesSound s n p (refused m q) = Number m

-- a byte and the part after it
one_more : (s : List ℕ) (p n b : ℕ) (l : List ℕ) → p < length s → b ≡ byte_at s p → l ≡ take n (drop (suc p) s) → b ∷ l ≡ take (suc n) (drop p s)
one_more s p n b l h e f = rw (drop-cons s p 0 h, e, f)

no_bytes : (s : List ℕ) (p : ℕ) → Bytes s 0 p [] p
no_bytes s p = record { value = refl; end = omega arith; inside = λ i. i; count = refl; text = nothing }

plain_then : (s : List ℕ) (n p v q : ℕ) → Tested printable s p v q → (y : Read (List ℕ)) → BytesSound s n q y
    → BytesSound s (suc n) p (onward y (λ l r. got (v ∷ l) r))
unfolding onward
plain_then s n p v q t (got l r) c =
    let a : q ≡ suc p = omega (arith, t.end) in
    record {
      value = one_more s p n v l t.there t.value (c.value ∙ ap (λ k. take n (drop k s)) a);
      end = omega (arith, c.end);
      inside = λ i. c.inside (omega (arith, t.there));
      count = ap suc c.count;
      text = plain v l (between_both 32 126 v t.passed) c.text;
    }
plain_then s n p v q t (refused m r) c = c

pair_then : (s : List ℕ) (n p q : ℕ) → byte_at s p ≡ 194 → Paired s p q → (y : Read (List ℕ)) → BytesSound s n q y
    → BytesSound s (suc (suc n)) p (onward y (λ l r. got (194 ∷ 176 ∷ l) r))
unfolding onward
pair_then s n p q e t (got l r) c =
    let a : q ≡ suc (suc p) = omega (arith, t.end) in
    let z : suc p ≡ p + 1 = omega arith in
    let second : byte_at s (suc p) ≡ 176 = rw z (omega (arith, t.passed)) in
    let rest = one_more s (suc p) n 176 l (omega (arith, t.there)) (sym second) (c.value ∙ ap (λ k. take n (drop k s)) a) in
    record {
      value = one_more s p (suc n) 194 (176 ∷ l) (omega (arith, t.there)) (sym e) rest;
      end = omega (arith, c.end);
      inside = λ i. c.inside (omega (arith, t.there));
      count = ap (λ k. suc (suc k)) c.count;
      text = degree l c.text;
    }
pair_then s n p q e t (refused m r) c = c

bytes_sound : (s : List ℕ) (n p : ℕ) → BytesSound s n p (characters n s p)
unfolding characters onward
bytes_sound s zero p = no_bytes s p
bytes_sound s (suc zero) p = go (character printable s p) (byte_tested printable 6 s p)
  where
    go : (y : Read ℕ) → ByteSound printable 6 s p y → BytesSound s 1 p (onward y (λ b q. got (b ∷ []) q))
    go (got v q) t = plain_then s zero p v q t (got [] q) (no_bytes s q)
    go (refused m q) t = t (omega arith, omega arith)
bytes_sound s (suc (suc n)) p = go (eqb (byte_at s p) 194) refl (bytes_sound s n) (bytes_sound s (suc n))
  where
    pair : byte_at s p ≡ 194 → (y : Read ℕ) → PairSound s p y → ((r : ℕ) → BytesSound s n r (characters n s r))
        → BytesSound s (suc (suc n)) p (onward y (λ v q. onward (characters n s q) (λ l r. got (194 ∷ 176 ∷ l) r)))
    pair e (got v q) t ih = pair_then s n p q e t (characters n s q) (ih q)
    pair e (refused m q) t ih = t

    one : (y : Read ℕ) → ByteSound printable 6 s p y → ((r : ℕ) → BytesSound s (suc n) r (characters (suc n) s r))
        → BytesSound s (suc (suc n)) p (onward y (λ b q. onward (characters (suc n) s q) (λ l r. got (b ∷ l) r)))
    one (got v q) t ih = plain_then s (suc n) p v q t (characters (suc n) s q) (ih q)
    one (refused m q) t ih = t (omega arith, omega arith)

    go : (b : Bool) → eqb (byte_at s p) 194 ≡ b
        → ((r : ℕ) → BytesSound s n r (characters n s r)) → ((r : ℕ) → BytesSound s (suc n) r (characters (suc n) s r))
        → BytesSound s (suc (suc n)) p (elim b as (λ x. Read (List ℕ)) [
          | true ↦ onward (description.degree s p) (λ v q. onward (characters n s q) (λ l r. got (194 ∷ 176 ∷ l) r))
          | false ↦ onward (character printable s p) (λ b q. onward (characters (suc n) s q) (λ l r. got (b ∷ l) r))
        ])
    go true e two more = pair (eqb-true (byte_at s p) 194 e) (description.degree s p) (pair_tested s p) two
    go false e two more = one (character printable s p) (byte_tested printable 6 s p) more

cell_text_sound : (low high : ℕ) (P : List ℕ → Type 0) → ((l : List ℕ) → P l)
    → (s : List ℕ) (p : ℕ) (y : Read ℕ) → ByteSound (between low high) 5 s p y
    → Sound (cell_text low high) P s p (onward y (λ n q. characters n s q))
unfolding onward stands KeepsValue text_at line_stop
cell_text_sound low high P h s p (got n q) t = go (characters n s q) (bytes_sound s n q)
  where
    go : (y : Read (List ℕ)) → BytesSound s n q y → Sound (cell_text low high) P s p y
    go (got l r) c = record {
      value = rw (← t.value, ← t.end) c.value;
      end = rw (← t.value, ← t.end) c.end;
      onward = omega (arith, c.end, t.end);
      inside = λ i. c.inside (omega (arith, t.there, t.end));
      kept = (rw c.count t.passed, c.text);
      proper = h l;
    }
    go (refused m r) c = c
cell_text_sound low high P h s p (refused m q) t = t (omega arith, omega arith)

-- ---- a count, and as many items

record Items {A : Type 0} (x : Format A) (s : List ℕ) (n p : ℕ) (as' : List A) (q : ℕ) : Type 0 where
  value : as' ≡ parts n (λ r. here x s r) (λ r. stop x s r) p
  end : q ≡ past n (λ r. stop x s r) p
  onward : p ≤ q
  inside : p ≤ length s → q ≤ length s
  count : length as' ≡ n
  each : All (λ a. KeepsValue x a) as'

abbrev ItemsSound : {A : Type 0} → Format A → List ℕ → ℕ → ℕ → Read (List A) → Type 0
ItemsSound x s n p (got as' q) = Items x s n p as' q
ItemsSound x s n p (refused m q) = Number m

item_then : {A : Type 0} (x : Format A) (P : A → Type 0) (s : List ℕ) (n p : ℕ) (a : A) (q : ℕ) → Reads x P s p a q → (y : Read (List A)) → ItemsSound
    x s n q y
    → ItemsSound x s (suc n) p (onward y (λ as' r. got (a ∷ as') r))
unfolding onward parts past
item_then x P s n p a q t (got as' r) c = record {
  value = rw (← t.value, ← t.end, ← c.value);
  end = rw (← t.end) c.end;
  onward = omega (arith, c.onward, t.onward);
  inside = λ i. c.inside (t.inside i);
  count = ap suc c.count;
  each = (t.kept, c.each);
}
item_then x P s n p a q t (refused m r) c = c

items_sound : {A : Type 0} (x : Format A) (P : A → Type 0) (s : List ℕ) → ((p : ℕ) → Sound x P s p (reads x s p))
    → (n p : ℕ) → ItemsSound x s n p (several n (reads x) s p)
unfolding several onward parts past
items_sound x P s h zero p = record { value = refl; end = refl; onward = omega arith; inside = λ i. i; count = refl; each = tt }
items_sound {A} x P s h (suc n) p = go (reads x s p) (h p) (items_sound x P s h n)
  where
    go : (y : Read A) → Sound x P s p y → ((r : ℕ) → ItemsSound x s n r (several n (reads x) s r))
        → ItemsSound x s (suc n) p (onward y (λ a q. onward (several n (reads x) s q) (λ as' r. got (a ∷ as') r)))
    go (got a q) t ih = item_then x P s n p a q t (several n (reads x) s q) (ih q)
    go (refused m q) t ih = t

listed_sound : {A : Type 0} (count : Format ℕ) (x : Format A) (N : ℕ → Type 0) (P : List A → Type 0) (Q : A → Type 0) → ((as' : List A) → P as')
    → (s : List ℕ) → ((p : ℕ) → Sound x Q s p (reads x s p)) → (p : ℕ) (y : Read ℕ) → Sound count N s p y
    → Sound (listed count x) P s p (onward y (λ n q. several n (reads x) s q))
unfolding onward stands KeepsValue
listed_sound {A} count x N P Q h s each p (got n q) t = go (several n (reads x) s q) (items_sound x Q s each n q)
  where
    go : (y : Read (List A)) → ItemsSound x s n q y → Sound (listed count x) P s p y
    go (got as' r) c = record {
      value = rw (← t.value, ← t.end) c.value;
      end = rw (← t.value, ← t.end) c.end;
      onward = omega (arith, c.onward, t.onward);
      inside = λ i. c.inside (t.inside i);
      kept = (rw c.count t.kept, c.each);
      proper = h as';
    }
    go (refused m r) c = c
listed_sound count x N P Q h s each p (refused m q) t = t

-- ---- a part, and what follows it

same_place : {U A : Type 0} (g : A → Format U) (s : List ℕ) (a b : A) (q r : ℕ) → a ≡ b → q ≡ r → stands (g a) s q ≡ stands (g b) s r
same_place g s a b q r e f = rw (e, f)

next_sound : {U A : Type 0} (of : U → A) (x : Format A) (g : A → Format U) (P : U → Type 0) (s : List ℕ) (p : ℕ)
    → ((a : A) (q : ℕ) → Sound (g a) (λ u. (of u ≡ a) × P u) s q (reads (g a) s q)) → (y : Read A) → Sound x (λ a. Unit {0}) s p y
    → Sound (next of x g) P s p (onward y (λ a q. reads (g a) s q))
unfolding onward stands KeepsValue
next_sound {U} {A} of x g P s p rest (got a q) t = go (reads (g a) s q) (rest a q)
  where
    go : (y : Read U) → Sound (g a) (λ u. (of u ≡ a) × P u) s q y → Sound (next of x g) P s p y
    go (got u r) c = record {
      value = c.value ∙ ap (λ (e : Extent U). e.value) (same_place g s a (here x s p) q (stop x s p) t.value t.end);
      end = c.end ∙ ap (λ (e : Extent U). e.end) (same_place g s a (here x s p) q (stop x s p) t.value t.end);
      onward = omega (arith, c.onward, t.onward);
      inside = λ i. c.inside (t.inside i);
      kept = rw c.proper.0 (t.kept, c.kept);
      proper = c.proper.1;
    }
    go (refused m r) c = c
next_sound of x g P s p rest (refused m q) t = t

-- the law
pub sound : {A : Type 0} (x : Format A) (P : A → Type 0) → Faithful x P → (s : List ℕ) (p : ℕ) → Sound x P s p (reads x s p)
unfolding reads Faithful stands KeepsValue field.only field.zero_word
sound byte P h s p = byte_sound P h s p
sound word P h s p = word_sound P h s p
sound (only good fault x) P h s p = only_sound good fault x P s p (reads x s p) (sound x P h s p)
sound zero_word P h s p = zeros_sound P s p (field.word s p) (word_sound P h s p)
sound (text low high good) P h s p = text_sound low high good P h s p (text_length low high s p) (byte_tested (between low high) 5 s p)
sound (cell_text low high) P h s p = cell_text_sound low high P h s p (text_length low high s p) (byte_tested (between low high) 5 s p)
sound (listed count x) P h s p =
    listed_sound count x (λ n. Unit {0}) P (λ a. Unit {0}) h.1.1 s (λ q. sound x (λ a. Unit {0}) h.1.0 s q) p
    (reads count s p) (sound count (λ n. Unit {0}) h.0 s p)
sound (give a) P h s p = record { value = refl; end = refl; onward = omega arith; inside = λ i. i; kept = tt; proper = h }
sound (next of x g) P h s p =
    next_sound of x g P s p (λ a q. sound (g a) (λ u. (of u ≡ a) × P u) (h.1 a) s q) (reads x s p) (sound x (λ a. Unit {0}) h.0 s p)

-- ---- the steps come to the same

pub times_off : (k : ℕ) (f : Step → Step) → ((n p : ℕ) → f (Refused n p) ≡ Refused n p) → (n p : ℕ) → times k f (Refused n p) ≡ Refused n p
unfolding times
times_off zero f h n p = refl
times_off (suc k) f h n p = rw (h n p) (times_off k f h n p)

pub read_from_off : {A : Type 0} (f : Reader A) (s : List ℕ) (n p : ℕ) → read_from f s (Refused n p) ≡ Refused n p
unfolding read_from
read_from_off f s n p = refl

-- a refusal is handed on
pub after_off : {A : Type 0} (x : Format A) (s : List ℕ) (n p : ℕ) → after x s (Refused n p) ≡ Refused n p
unfolding after read_from
after_off byte s n p = refl
after_off word s n p = refl
after_off (only good fault x) s n p = refl
after_off zero_word s n p = refl
after_off (text low high good) s n p = times_off (byte_of s (Refused n p)) (read_from (character good) s) (read_from_off (character good) s) n p
after_off (cell_text low high) s n p = refl
after_off (listed count x) s n p =
    rw (after_off count s n p) (times_off (here_of count s (Refused n p)) (λ z. after x s z) (λ m q. after_off x s m q) n p)
after_off (give a) s n p = refl
after_off (next of x g) s n p = rw (after_off x s n p) (after_off (g (here_of x s (Refused n p))) s n p)

-- n items: the step n times
pub several_steps : {A : Type 0} (f : Reader A) (h : Step → Step) (s : List ℕ) → ((n q : ℕ) → h (Refused n q) ≡ Refused n q) →
    ((q : ℕ) → h (At q) ≡ step_of (f s q))
    → (n p : ℕ) → times n h (At p) ≡ step_of (several n f s p)
unfolding times several onward
several_steps f h s off e zero p = refl
several_steps {A} f h s off e (suc n) p = ap (times n h) (e p) ∙ go (f s p) (several_steps f h s off e n)
  where
    rest : (a : A) (y : Read (List A)) → step_of y ≡ step_of (onward y (λ as' r. got (a ∷ as') r))
    rest a (got as' r) = refl
    rest a (refused m r) = refl

    go : (y : Read A) → ((q : ℕ) → times n h (At q) ≡ step_of (several n f s q))
        → times n h (step_of y) ≡ step_of (onward y (λ a q. onward (several n f s q) (λ as' r. got (a ∷ as') r)))
    go (got a q) ih = ih q ∙ rest a (several n f s q)
    go (refused m q) ih = times_off n h off m q

counted_steps : {A : Type 0} (f : Reader A) (h : Step → Step) (s : List ℕ) → ((n q : ℕ) → h (Refused n q) ≡ Refused n q) →
    ((q : ℕ) → h (At q) ≡ step_of (f s q))
    → (k : ℕ) (y : Read ℕ) → ((n q : ℕ) → y ≡ got n q → n ≡ k) → times k h (step_of y) ≡ step_of (onward y (λ n q. several n f s q))
unfolding onward
counted_steps f h s off e k (got n q) c = rw (c n q refl) (several_steps f h s off e k q)
counted_steps f h s off e k (refused m q) c = times_off k h off m q

-- what follows a length goes by it
length_steps : {A : Type 0} (f : ℕ → Reader A) (s : List ℕ) (k : ℕ) (y : Read ℕ) → ((n q : ℕ) → y ≡ got n q → n ≡ k)
    → read_from (f k) s (step_of y) ≡ step_of (onward y (λ n q. f n s q))
unfolding read_from onward
length_steps f s k (got n q) c = rw (c n q refl)
length_steps f s k (refused m q) c = refl

next_steps : {U A : Type 0} (x : Format A) (g : A → Format U) (s : List ℕ) (p : ℕ) →
    ((a : A) (q : ℕ) → after (g a) s (At q) ≡ step_of (reads (g a) s q))
    → (y : Read A) → Sound x (λ a. Unit {0}) s p y → after (g (here x s p)) s (step_of y) ≡ step_of (onward y (λ a q. reads (g a) s q))
unfolding onward
next_steps x g s p rest (got a q) t = rw (← t.value) (rest a q)
next_steps x g s p rest (refused m q) t = after_off (g (here x s p)) s m q

-- a value that was read, or whatever a refusal leaves open
got-value : {A : Type 0} (x : Format A) (P : A → Type 0) (s : List ℕ) (p : ℕ) (y : Read A) → Sound x P s p y → (a : A) (q : ℕ) → y ≡ got a q → a ≡
    here x s p
got-value x P s p y r a q e = (subst (Sound x P s p) e r).value

pub steps : {A : Type 0} (x : Format A) (P : A → Type 0) → Faithful x P → (s : List ℕ) (p : ℕ) → after x s (At p) ≡ step_of (reads x s p)
unfolding after read_from reads Faithful here_of byte_of
steps byte P h s p = refl
steps word P h s p = refl
steps (only good fault x) P h s p = refl
steps zero_word P h s p = refl
steps (text low high good) P h s p =
    counted_steps (character good) (read_from (character good) s) s (read_from_off (character good) s) (λ q. refl) (byte_at s p)
    (text_length low high s p)
    (λ n q e. (tested (between low high) 5 s p n q e).value)
steps (cell_text low high) P h s p =
    length_steps characters s (byte_at s p) (text_length low high s p) (λ n q e. (tested (between low high) 5 s p n q e).value)
steps (listed count x) P h s p =
    rw (steps count (λ n. Unit {0}) h.0 s p)
    (counted_steps (reads x) (λ z. after x s z) s (after_off x s) (λ q. steps x (λ a. Unit {0}) h.1.0 s q) (here count s p) (reads count s p)
    (got-value count (λ n. Unit {0}) s p (reads count s p) (sound count (λ n. Unit {0}) h.0 s p)))
steps (give a) P h s p = refl
steps (next of x g) P h s p =
    rw (steps x (λ a. Unit {0}) h.0 s p)
    (next_steps x g s p (λ a q. steps (g a) (λ u. (of u ≡ a) × P u) (h.1 a) s q) (reads x s p) (sound x (λ a. Unit {0}) h.0 s p))
