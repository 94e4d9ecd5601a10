-- A line's bytes, character by character: what they come to, one law for each way out of the code. Assumes nothing.
use Prim.Native.Nat.{ℕ, zero, suc, ◌+◌, ◌-◌, ◌*◌, ◌<◌, ◌≤◌, min}
use mathlib.Core.Path.{◌≡◌, refl, sym, ◌∙◌, ap}
use mathlib.Core.Logic.{◌⊎◌, inl, inr}
use mathlib.Core.List.{List, [], ◌∷◌}
use mathlib.Core.Bool.{Bool, true, false, ◌&&◌, cond, and-eq-true_iff}
use native.Mathlib.Omega.{arith}
use lib.ListN.{length, get_or, get_or-eq_default}
use lib.Dec.{ltb, eqb}
use borrow.Author.Tests.{le-ltb, lt-ltb, le-leb, ltb-false, eq-eqb, ne_eqb}
use Rattle.rules.specs.Field.{Read, got, refused, Reader, only, byte, word, onward, byte_at, word_at, printable, several}
use Rattle.rules.specs.Description as description
use Rattle.rules.specs.Description.{text, character, characters}
use Rattle.rules.specs.Format.{line}
use Rattle.rules.specs.Steps.{step_of, read_from, byte_of, times, after}
use Rattle.rules.specs.Steps.{Step, At, Refused}
use Rattle.laws.proofs.Reading.{between_both, times_off, read_from_off, several_steps}
use Rattle.sheet.specs.Steps.{byte_between, printables, BadIs, line_of, line_bytes, bytes_from, CharacterIs}
use Rattle.sheet.proofs.Fields.{only_ended, only_good}
use Rattle.sheet.proofs.Loops.{printables_none, printables_next}

-- ---- a character, and the bytes after it

none_left : (pairs : Bool) (s : List ℕ) (p : ℕ) → read_from (line_bytes pairs 0) s (At p) ≡ At p
unfolding read_from characters several
none_left true s p = refl
none_left false s p = refl

bytes_off : (f : Reader (List ℕ)) (s : List ℕ) (n q : ℕ) → read_from f s (Refused n q) ≡ Refused n q
unfolding read_from
bytes_off f s n q = refl

same_end : {A B : Type 0} (f : A → B) (y : Read A) → step_of (onward y (λ a q. got (f a) q)) ≡ step_of y
unfolding onward
same_end f (got a q) = refl
same_end f (refused n q) = refl

then_bytes : (s : List ℕ) (f : Reader (List ℕ)) (g : ℕ → List ℕ → List ℕ) (y : Read ℕ)
    → step_of (onward y (λ b q. onward (f s q) (λ l r. got (g b l) r))) ≡ read_from f s (step_of y)
unfolding onward read_from
then_bytes s f g (got b q) = same_end (g b) (f s q)
then_bytes s f g (refused m q) = refl

choose : {A : Type 0} (b c : Bool) (x y : Read A) → b ≡ c
    → ◌≡◌ {A = Read A} (elim b [ true ↦ x | false ↦ y ]) (elim c [ true ↦ x | false ↦ y ])
choose b c x y e = rw e

-- no pair begins at p: none is looked for, or no C2 stands there, or it is the last byte
abbrev Alone : Bool → List ℕ → ℕ → ℕ → Type 0
Alone pairs s p n = (pairs ≡ false) ⊎ ((byte_at s p ≡ 194 → ⊥) ⊎ (n ≡ 0))

one_byte : (pairs : Bool) (s : List ℕ) (n p : ℕ) → Alone pairs s p n
    → read_from (line_bytes pairs (suc n)) s (At p) ≡ read_from (line_bytes pairs n) s (read_from (character printable) s (At p))
unfolding read_from characters several onward
one_byte false s n p h = then_bytes s (several n (character printable)) (λ b l. b ∷ l) (character printable s p)
one_byte true s n p (inl h) = let z : ◌≡◌ {A = ℕ} 0 1 = cc in absurd (omega arith)
one_byte true s zero p (inr h) = last (character printable s p)
  where
    last : (y : Read ℕ) → step_of (onward y (λ b q. got (b ∷ []) q)) ≡ read_from (characters 0) s (step_of y)
    last (got b q) = refl
    last (refused m q) = refl
one_byte true s (suc n) p (inr (inl h)) =
    ap (λ (y : Read (List ℕ)). step_of y) (choose (eqb (byte_at s p) 194) false _ _ (ne_eqb (byte_at s p) 194 h))
    ∙ then_bytes s (characters (suc n)) (λ b l. b ∷ l) (character printable s p)
one_byte true s (suc n) p (inr (inr h)) = absurd (omega arith)

two_bytes : (s : List ℕ) (n p : ℕ) → byte_at s p ≡ 194
    → read_from (characters (suc (suc n))) s (At p) ≡ read_from (characters n) s (read_from description.degree s (At p))
unfolding read_from characters
two_bytes s n p h =
    ap (λ (y : Read (List ℕ)). step_of y) (choose (eqb (byte_at s p) 194) true _ _ (eq-eqb (byte_at s p) 194 h))
    ∙ then_bytes s (characters n) (λ b l. 194 ∷ 176 ∷ l) (description.degree s p)

-- ---- with `end` where the bytes end

module _ (pairs : Bool) (s : List ℕ) (end p : ℕ) (some : p < end) where
  less : end - p ≡ suc (end - (p + 1))
  less = omega arith

  one_off : (n q : ℕ) → Alone pairs s p (end - (p + 1)) → Refused n q ≡ read_from (character printable) s (At p)
      → Refused n q ≡ bytes_from pairs s end p
  unfolding bytes_from
  one_off n q h e = rw less (sym (one_byte pairs s (end - (p + 1)) p h ∙ rw (← e) (bytes_off (line_bytes pairs (end - (p + 1))) s n q)))

  pub one_ended : length s ≤ p → Refused 1 (length s) ≡ bytes_from pairs s end p
  one_ended h =
      let z : byte_at s p ≡ 0 = get_or-eq_default s 0 h in
      one_off 1 (length s) (inr (inl (λ e. omega arith))) (only_ended printable 6 s p h)

  module _ (there : p < length s) (bad : printable (get_or s p 0) ≡ false) where
    refused-here : Refused 6 p ≡ read_from (character printable) s (At p)
    unfolding read_from only byte onward
    refused-here = rw (lt-ltb p (length s) there, byte, bad, onward)

    pub one_bad : (get_or s p 0 ≡ 194 → ⊥) → Refused 6 p ≡ bytes_from pairs s end p
    one_bad g = one_off 6 p (inr (inl g)) refused-here

    -- a C2 that begins no pair
    pub one_first : (b : Bool) → b ≡ (pairs && ltb (p + 1) end) → b ≡ false → Refused 6 p ≡ bytes_from pairs s end p
    one_first b e f = go pairs refl (ltb (p + 1) end) refl (sym e ∙ f)
      where
        go : (x : Bool) → pairs ≡ x → (y : Bool) → ltb (p + 1) end ≡ y → (x && y) ≡ false → Refused 6 p ≡ bytes_from pairs s end p
        go false i y j g = one_off 6 p (inl i) refused-here
        go true i true j g = let z : ◌≡◌ {A = ℕ} 0 1 = cc in absurd (omega arith)
        go true i false j g = one_off 6 p (inr (inr (omega (arith, ltb-false (p + 1) end j)))) refused-here

  one_good : p < length s → 32 ≤ get_or s p 0 → get_or s p 0 ≤ 126 → bytes_from pairs s end p ≡ bytes_from pairs s end (p + 1)
  unfolding bytes_from
  one_good h k l =
      let e = one_byte pairs s (end - (p + 1)) p (inr (inl (λ e. omega arith))) in
      rw less (e ∙ rw (← only_good printable 6 s p h (rw (le-leb 32 (get_or s p 0) k, le-leb (get_or s p 0) 126 l))))

module _ (s : List ℕ) (end p : ℕ) (pair : get_or s p 0 ≡ 194) (more : p + 1 < end) where
  less_2 : end - p ≡ suc (suc (end - (p + 2)))
  less_2 = omega arith

  pair_off : (n q : ℕ) → Refused n q ≡ read_from description.degree s (At p) → Refused n q ≡ bytes_from true s end p
  unfolding bytes_from
  pair_off n q e = rw less_2 (sym (two_bytes s (end - (p + 2)) p pair ∙ rw (← e) (bytes_off (characters (end - (p + 2))) s n q)))

  pub pair_cut : length s ≤ p + 1 → Refused 1 (length s) ≡ bytes_from true s end p
  pair_cut h = pair_off 1 (length s) cut
    where
      cut : Refused 1 (length s) ≡ read_from description.degree s (At p)
      cut = unfold read_from only word onward in rw (le-ltb (p + 1) (length s) h, word)

  pub pair_wrong : p + 1 < length s → (get_or s (p + 1) 0 ≡ 176 → ⊥) → Refused 6 p ≡ bytes_from true s end p
  pair_wrong h k = pair_off 6 p wrong
    where
      wrong : Refused 6 p ≡ read_from description.degree s (At p)
      wrong =
          unfold read_from only word onward in
          rw (lt-ltb (p + 1) (length s) h, word, ne_eqb (194 + 176 * 256) (word_at s p) (λ e. k (omega arith)), onward)

  pub pair_good : p + 1 < length s → get_or s (p + 1) 0 ≡ 176 → CharacterIs true s end p (At (p + 1 + 1))
  unfolding bytes_from
  pair_good h k =
      let z : p + 1 + 1 ≡ p + 2 = omega arith in
      rw z (omega arith, (omega arith, (omega arith, rw less_2 (two_bytes s (end - (p + 2)) p pair ∙ rw (← good)))))
    where
      good : At (p + 2) ≡ read_from description.degree s (At p)
      good = unfold read_from only word onward in rw (lt-ltb (p + 1) (length s) h, word, pair, k)

-- ---- the search for a byte that isn't printable

pub record Passed (s : List ℕ) (start i : ℕ) : Type 0 where
  pub order : start ≤ i
  pub all : printables s start (i - start) ≡ true

pub passed_none : (s : List ℕ) (start : ℕ) → Passed s start start
passed_none s start = let z : start - start ≡ 0 = omega arith in record { order = omega arith; all = rw z (sym (printables_none s start)) }

module _ (s : List ℕ) (start i : ℕ) (c : Passed s start i) where
  pub bad_here : (end : ℕ) → i < end → printable (get_or s i 0) ≡ false → BadIs s start end i
  bad_here end h b = record { order = c.order; within = omega arith; passed = c.all; bad = λ k. b }

  pub passed_on : printable (get_or s i 0) ≡ true → Passed s start (i + 1)
  passed_on b = record { order = omega (arith, c.order); all = printables_next s start i c.order c.all b }

pub bad_none : (s : List ℕ) (start end i : ℕ) → i ≤ end → end ≤ i → Passed s start i → BadIs s start end i
bad_none s start end i h k c = record { order = c.order; within = h; passed = c.all; bad = λ l. absurd (omega arith) }

-- ---- the loop: what is left of the bytes at i, which isn't printable, comes to w

on : (pairs : Bool) (s : List ℕ) (start end m : ℕ) → start + m ≤ end → start + m ≤ length s → printables s start m ≡ true
    → bytes_from pairs s end start ≡ bytes_from pairs s end (start + m)
unfolding printables
on pairs s start end zero h k p = let z : start + 0 ≡ start = omega arith in rw z
on pairs s start end (suc m) h k p =
    let b = (and-eq-true_iff (printables s start m) (printable (get_or s (start + m) 0))).0 p in
    let r = between_both 32 126 (get_or s (start + m) 0) b.1 in
    let g = one_good pairs s end (start + m) (omega arith) (omega arith) r.0 r.1 in
    let z : start + suc m ≡ start + m + 1 = omega arith in
    on pairs s start end m (omega arith) (omega arith) b.0 ∙ rw z g

pub record Left (pairs : Bool) (s : List ℕ) (inside end i : ℕ) (w : Step) : Type 0 where
  pub within : i ≤ inside
  pub bad : i < inside → printable (get_or s i 0) ≡ false
  pub rest : bytes_from pairs s end i ≡ w

module _ (pairs : Bool) (s : List ℕ) (inside end : ℕ) (reach : inside ≡ min (length s) end) where
  left_from : (i r : ℕ) (w : Step) → bytes_from pairs s end i ≡ w → BadIs s i inside r → Left pairs s inside end r w
  left_from i r w e b =
      let z : i + (r - i) ≡ r = omega (arith, b.order) in
      let f = on pairs s i end (r - i) (omega (arith, b.order, b.within)) (omega (arith, b.order, b.within)) b.passed in
      record { within = b.within; bad = b.bad; rest = sym (rw z at f) ∙ e }

  pub left_begin : (i r : ℕ) → BadIs s i inside r → Left pairs s inside end r (bytes_from pairs s end i)
  left_begin i r b = left_from i r (bytes_from pairs s end i) refl b

  module _ (i : ℕ) (w : Step) (c : Left pairs s inside end i w) where
    pub left_next : (q : ℕ) → CharacterIs pairs s end i (At q) → (j : ℕ) → BadIs s q inside j → (i < j) × Left pairs s inside end j w
    left_next q f j b = (omega (arith, f.0, b.order), left_from q j w (sym f.1.1.1 ∙ c.rest) b)

    pub left_done : end ≤ i → At i ≡ w
    unfolding bytes_from
    left_done h = let z : end - i ≡ 0 = omega arith in sym (none_left pairs s i) ∙ rw z at c.rest

-- bytes of which all before `inside` are printable, or not
module _ (pairs : Bool) (s : List ℕ) (start n inside r : ℕ) (h : start ≤ length s) (reach : inside ≡ min (length s) (start + n))
    (e : r ≡ cond (printables s start (inside - start)) inside start) where
  pub past_is : (start ≤ r) × ((r ≤ inside) × (bytes_from pairs s (start + n) start ≡ bytes_from pairs s (start + n) r))
  past_is = go (printables s start (inside - start)) refl
    where
      go : (b : Bool) → printables s start (inside - start) ≡ b
          → (start ≤ r) × ((r ≤ inside) × (bytes_from pairs s (start + n) start ≡ bytes_from pairs s (start + n) r))
      go true f =
          let z : r ≡ start + (inside - start) = e ∙ rw f (omega arith) in
          (omega arith, (omega arith, rw z (on pairs s start (start + n) (inside - start) (omega arith) (omega arith) f)))
      go false f = let z : r ≡ start = e ∙ rw f in (omega arith, (omega arith, rw z))

  pub past_whole : start + n ≤ r → At r ≡ bytes_from pairs s (start + n) start
  unfolding bytes_from
  past_whole k = let z : start + n - r ≡ 0 = omega arith in sym (past_is.1.1 ∙ rw z (none_left pairs s r))

  pub past_rest : (y : Step) → y ≡ bytes_from pairs s (start + n) r → y ≡ bytes_from pairs s (start + n) start
  past_rest y i = i ∙ sym past_is.1.1

-- ---- a text and a line, from the step y after its length

times-several : (n : ℕ) (s : List ℕ) (y : Step)
    → times n (read_from (character printable) s) y ≡ read_from (several n (character printable)) s y
unfolding read_from
times-several n s (At p) =
    several_steps (character printable) (read_from (character printable) s) s (read_from_off (character printable) s) (λ q. refl) n p
times-several n s (Refused m q) = times_off n (read_from (character printable) s) (read_from_off (character printable) s) m q

pub bytes_at : (pairs : Bool) (s : List ℕ) (p v : ℕ) → bytes_from pairs s (p + v) p ≡ read_from (line_bytes pairs v) s (At p)
unfolding bytes_from
bytes_at pairs s p v = let z : p + v - p ≡ v = omega arith in rw z

pub text_steps : (most : ℕ) (s : List ℕ) (x : Step)
    → after (text 0 most printable) s x ≡ read_from (line_bytes false (byte_of s x)) s (read_from (byte_between 0 most 5) s x)
unfolding after
text_steps most s x = times-several (byte_of s x) s (read_from (byte_between 0 most 5) s x)

pub line_steps : (pairs : Bool) (s : List ℕ) (x : Step)
    → after (line_of pairs) s x ≡ read_from (line_bytes pairs (byte_of s x)) s (read_from (byte_between 0 200 5) s x)
unfolding after line
line_steps true s x = refl
line_steps false s x = text_steps 200 s x
