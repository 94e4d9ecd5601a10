-- What each reader of one field comes to, one law for each way out of the code. Assumes nothing.
use Prim.Native.Nat.{ℕ, ◌+◌, ◌-◌, ◌*◌, ◌%◌, ◌<◌, ◌≤◌}
use mathlib.Core.Path.{◌≡◌, refl, sym, ◌∙◌}
use mathlib.Core.Bool.{Bool, true, false}
use mathlib.Core.List.{List}
use native.Mathlib.Omega.{arith}
use lib.ListN.{length, get_or, take, drop}
use Rattle.std.proofs.lemmas.List.{get_or-drop, get_or-take}
use lib.Dec.{leb, ltb}
use borrow.Author.Tests.{le-ltb, lt-ltb, ltb-true, ltb-false, le-leb, lt-leb, eq-eqb, ne_eqb}
use Rattle.rules.specs.Field as field
use Rattle.rules.specs.Field.{Read, got, refused, Reader, between, onward, byte, word, word_at, only, printable_or_zero}
use Rattle.rules.specs.Description.{reads, word_to, optional, zero_word}
use Rattle.rules.specs.Format.{cell_count}
use Rattle.rules.specs.Steps.{Step, At, Refused, step_of, read_from, after}
use Rattle.laws.proofs.Reading.{tested}
use Rattle.sheet.specs.Steps.{byte_between}
use Rattle.rules.specs.Sheet.{most_columns}

-- a byte that has to pass a test
module _ (good : ℕ → Bool) (n : ℕ) (s : List ℕ) (p : ℕ) where
  pub only_ended : length s ≤ p → Refused 1 (length s) ≡ read_from (only good n byte) s (At p)
  unfolding read_from only byte onward
  only_ended h = rw (le-ltb p (length s) h, byte)

  pub only_bad : p < length s → good (get_or s p 0) ≡ false → Refused n p ≡ read_from (only good n byte) s (At p)
  unfolding read_from only byte onward
  only_bad h b = rw (lt-ltb p (length s) h, byte, b, onward)

  pub only_good : p < length s → good (get_or s p 0) ≡ true → At (p + 1) ≡ read_from (only good n byte) s (At p)
  unfolding read_from only byte onward
  only_good h b = rw (lt-ltb p (length s) h, byte, b, onward)

pub optional_steps : (s : List ℕ) (x : Step) → after optional s x ≡ read_from (only printable_or_zero 6 byte) s x
unfolding after reads
optional_steps s x = refl

-- two bytes
pub word_ended : (s : List ℕ) (p : ℕ) → length s ≤ p + 1 → refused 1 (length s) ≡ word s p
unfolding word
word_ended s p h = rw (le-ltb (p + 1) (length s) h, word)

pub word_whole : (s : List ℕ) (p : ℕ) → p + 1 < length s → got (word_at s p) (p + 2) ≡ word s p
unfolding word
word_whole s p h = rw (lt-ltb (p + 1) (length s) h, word)

pub word_there : (s : List ℕ) (p v q : ℕ) → got v q ≡ word s p → p + 1 < length s
unfolding word
word_there s p v q e = go (ltb (p + 1) (length s)) refl
  where
    go : (b : Bool) → ltb (p + 1) (length s) ≡ b → p + 1 < length s
    go true h = ltb-true (p + 1) (length s) h
    go false h =
        let k = e ∙ sym (word_ended s p (ltb-false (p + 1) (length s) h)) in
        let z : ◌≡◌ {A = ℕ} 0 1 = cc in
        absurd (omega arith)

-- the two bytes at the beginning of the rest of a sheet
pub part_at : (s : List ℕ) (p n i : ℕ) → i < n → get_or (take n (drop p s)) i 0 ≡ get_or s (p + i) 0
part_at s p n i h = get_or-take n (drop p s) i 0 h ∙ get_or-drop p s i 0

pub two_there : (s t : List ℕ) (p : ℕ) → t ≡ take (length s - p) (drop p s) → length t + p ≡ length s → 2 ≤ length t
    → got (get_or t 0 0 + get_or t 1 0 * 256) (p + 2) ≡ word s p
two_there s t p e l h =
    let a = part_at s p (length s - p) 0 (omega arith) in
    let b = part_at s p (length s - p) 1 (omega arith) in
    let z : p + 0 ≡ p = omega arith in
    rw (e, a, b, z) (word_whole s p (omega arith))

-- a number of two bytes
module _ (most : ℕ) (s : List ℕ) (p : ℕ) where
  pub word_stopped : (n q : ℕ) → refused n q ≡ word s p → Refused n q ≡ after (word_to most) s (At p)
  unfolding after read_from reads only onward
  word_stopped n q e = rw (← e)

  pub word_high : (v q : ℕ) → got v q ≡ word s p → most < v → Refused 5 p ≡ after (word_to most) s (At p)
  unfolding after read_from reads only onward
  word_high v q e h = rw (← e, le-leb 0 v (omega arith), lt-leb v most h, onward)

  pub word_good : (v q : ℕ) → got v q ≡ word s p → v ≤ most → At q ≡ after (word_to most) s (At p)
  unfolding after read_from reads only onward
  word_good v q e h = rw (← e, le-leb 0 v (omega arith), le-leb v most h, onward)

-- an unused width's two bytes
module _ (s : List ℕ) (p : ℕ) where
  pub zeros_stopped : (n q : ℕ) → refused n q ≡ word s p → Refused n q ≡ after zero_word s (At p)
  unfolding after read_from reads field.zero_word onward
  zeros_stopped n q e = rw (← e)

  module _ (low high q : ℕ) (e : got (low + high * 256) q ≡ word s p) where
    pub zeros_good : low ≡ 0 → high ≡ 0 → At q ≡ after zero_word s (At p)
    unfolding after read_from reads field.zero_word onward
    zeros_good h k = rw (← e, eq-eqb (low + high * 256) 0 (omega arith), onward)

    pub zeros_high : low ≡ 0 → (high ≡ 0 → ⊥) → Refused 8 (p + 1) ≡ after zero_word s (At p)
    unfolding after read_from reads field.zero_word onward
    zeros_high h k =
        rw (
          ← e,
          ne_eqb (low + high * 256) 0 (λ i. k (omega arith)),
          eq-eqb ((low + high * 256) % 256) 0 (omega arith),
          onward,
        )

    pub zeros_low : (low ≡ 0 → ⊥) → low < 256 → Refused 8 p ≡ after zero_word s (At p)
    unfolding after read_from reads field.zero_word onward
    zeros_low h l =
        let w : (low + high * 256) % 256 ≡ low = omega arith in
        rw (← e, ne_eqb (low + high * 256) 0 (λ i. h (omega arith)), w, ne_eqb low 0 h, onward)

second : (good : ℕ → Bool) (n : ℕ) (f : Reader ℕ) (s : List ℕ) (p v o : ℕ) → f s p ≡ got v o
    → only good n f s p ≡ elim (good v) as (λ z. Read ℕ) [ true ↦ got v o | false ↦ refused n p ]
unfolding only onward
second good n f s p v o e = rw e

-- a cell count, which is tested twice: 5 above the limit, else 7 above the columns
module _ (columns : ℕ) (s : List ℕ) (p : ℕ) where
  pub count_stopped : (n q : ℕ) → Refused n q ≡ read_from (byte_between 0 most_columns 5) s (At p) → Refused n q ≡ after (cell_count columns) s (At p)
  unfolding after read_from reads
  count_stopped n q e = go (byte_between 0 most_columns 5 s p) refl e
    where
      go : (r : Read ℕ) → byte_between 0 most_columns 5 s p ≡ r → Refused n q ≡ step_of r
          → Refused n q ≡ step_of (only (between 0 columns) 7 (byte_between 0 most_columns 5) s p)
      go (got v o) i f = let z : ◌≡◌ {A = ℕ} 0 1 = cc in absurd (omega arith)
      go (refused m o) i f = f ∙ (unfold only onward in rw i)

  told : (b : Bool) (v o q : ℕ) → q ≡ o
      → elim b as (λ z. Step) [ true ↦ At q | false ↦ Refused 7 p ] ≡ step_of (elim b as (λ z. Read ℕ) [ true ↦ got v o | false ↦ refused 7 p ])
  told true v o q e = rw e
  told false v o q e = refl

  -- a count that passed the first test, and what the second says of it
  counted : (b : Bool) (q : ℕ) → At q ≡ read_from (byte_between 0 most_columns 5) s (At p) → leb (get_or s p 0) columns ≡ b
      → elim b as (λ z. Step) [ true ↦ At q | false ↦ Refused 7 p ] ≡ after (cell_count columns) s (At p)
  unfolding after read_from reads
  counted b q e h = go (byte_between 0 most_columns 5 s p) refl e
    where
      go : (r : Read ℕ) → byte_between 0 most_columns 5 s p ≡ r → At q ≡ step_of r
          → elim b as (λ z. Step) [ true ↦ At q | false ↦ Refused 7 p ] ≡ step_of (only (between 0 columns) 7 (byte_between 0 most_columns 5) s p)
      go (got v o) i f =
          let k = (tested (between 0 most_columns) 5 s p v o i).value in
          let t : between 0 columns v ≡ b = rw (k, le-leb 0 (get_or s p 0) (omega arith)) h in
          let z : q ≡ o = cc in
          rw (second (between 0 columns) 7 (byte_between 0 most_columns 5) s p v o i, t) (told b v o q z)
      go (refused m o) i f = let z : ◌≡◌ {A = ℕ} 0 1 = cc in absurd (omega arith)

  pub count_few : (q : ℕ) → At q ≡ read_from (byte_between 0 most_columns 5) s (At p) → get_or s p 0 ≤ columns → At q ≡ after (cell_count columns) s (At p)
  count_few q e h = counted true q e (le-leb (get_or s p 0) columns h)

  pub count_over : (q : ℕ) → At q ≡ read_from (byte_between 0 most_columns 5) s (At p) → columns < get_or s p 0
      → Refused 7 p ≡ after (cell_count columns) s (At p)
  count_over q e h = counted false q e (lt-leb (get_or s p 0) columns h)
