-- Texts, one law for each way out of the code: their characters, their first fault, their bytes put where there is room. Assumes nothing.
use Prim.Native.Nat.{ℕ, zero, suc, ◌+◌, ◌-◌, ◌%◌, ◌≤◌, ◌<◌}
use mathlib.Core.Path.{◌≡◌, refl, sym, ap, ◌∙◌}
use mathlib.Core.List.{List, [], ◌∷◌, map}
use mathlib.Core.Bool.{Bool, true, false, not, ◌&&◌, and-eq-true_iff}
use mathlib.Core.Logic.{⊎_elim}
use native.Mathlib.Nat.{eq-or-lt_of_le, le_of_suc-le-suc}
use native.Mathlib.Omega.{arith}
use lib.ListN.{length, get_or, take, drop, set, length-map, drop_of_length-le}
use lib.Seq.{drop-cons}
use lib.Dec.{leb, eqb}
use borrow.Author.Tests.{le-leb, lt-leb, leb-true, eq-eqb, ne_eqb, eqb-true, eqb-false}
use Rattle.buffer.specs.Put.{put_at}
use Rattle.buffer.proofs.Laws.{put_one, put-put}
use Rattle.rules.specs.Text.{All}
use Rattle.rules.specs.Limits.{IsByte}
use Rattle.rules.specs.Field.{between, printable}
use Rattle.rules.specs.Description.{writes}
use Rattle.rules.specs.Format.{line}
use Rattle.rules.specs.Editor.{Cursor, Taken, lacking, number_at, bytes_at, text_taken, takes}
use Rattle.rules.specs.Writer.{thence, passes, in_turn, character_judged, characters_judged, judges}
use Rattle.rules.specs.Steps.{Step, At, Refused}
use Rattle.sheet.specs.Steps.{printables}
use Rattle.laws.proofs.Reading.{between_both}
use Rattle.editor.specs.Walk.{Walk}
use Rattle.editor.specs.declared.text.Kind.{Kind}
use Rattle.editor.specs.declared.text.Kind.TheVariants.{Indicator, Style, Line}
use Rattle.editor.specs.Walk.{cap, cursor_of, moved, State, state, noted, advanced, stamped, low, entered, field_entered, walked}
use Rattle.editor.specs.Walk.{letter, text_format, characters_of, CharacterIs, least, most}
use Rattle.editor.proofs.Entering.{cap_more, cap_twice, noted_none, stamped_short, stamped-all, missing_entered}
use Rattle.editor.proofs.Taking.{bytes_missing}

-- ---- characters

abbrev judged_from : Bool → List ℕ → ℕ → Step
judged_from zeros l p = in_turn (character_judged (letter zeros)) l p

-- with i characters passed, what is left comes to what there was
pub record Passed (zeros : Bool) (l : List ℕ) (i : ℕ) : Type 0 where
  pub within : i ≤ length l
  pub rest : judged_from zeros (drop i l) i ≡ judged_from zeros l 0

pub passed_begin : (zeros : Bool) (l : List ℕ) → Passed zeros l 0
passed_begin zeros l = record { within = omega arith; rest = refl }

-- the next character, by what its test says
next-judged : (zeros b : Bool) (l : List ℕ) (i : ℕ) → i < length l → letter zeros (get_or l i 0) ≡ b
    → judged_from zeros (drop i l) i ≡ thence (passes b 6 i (i + 1)) (judged_from zeros (drop (i + 1) l))
unfolding in_turn
next-judged zeros b l i h e =
    let z : suc i ≡ i + 1 = omega arith in
    ap (λ m. judged_from zeros m i) (drop-cons l i 0 h)
    ∙ ap (λ (x : Bool). thence (passes x 6 i (i + 1)) (judged_from zeros (drop (suc i) l))) e
    ∙ ap (λ k. thence (passes b 6 i (i + 1)) (judged_from zeros (drop k l))) z

pub passed_again : (zeros b : Bool) (l : List ℕ) (i : ℕ) → i < length l → b ≡ letter zeros (get_or l i 0) → b ≡ true → Passed zeros l i
    → Passed zeros l (i + 1)
unfolding thence passes
passed_again zeros b l i h e t p = record { within = omega arith; rest = sym (next-judged zeros true l i h (sym e ∙ t)) ∙ p.rest }

pub passed_bad : (zeros b : Bool) (l : List ℕ) (i : ℕ) → i < length l → b ≡ letter zeros (get_or l i 0) → b ≡ false → Passed zeros l i
    → Refused 6 i ≡ judged_from zeros l 0
unfolding thence passes
passed_bad zeros b l i h e t p = sym (next-judged zeros false l i h (sym e ∙ t)) ∙ p.rest

pub passed_all : (zeros : Bool) (l : List ℕ) (i : ℕ) → length l ≤ i → Passed zeros l i → At i ≡ judged_from zeros l 0
unfolding in_turn
passed_all zeros l i h p = let d = drop_of_length-le l {i = i} h in rw d at p.rest

-- ---- characters of a line

-- by whether a pair begins there
by_first : (b c p : ℕ) (l : List ℕ) (x : Bool) → eqb b 194 ≡ x
    → characters_judged (b ∷ c ∷ l) p ≡ elim x as (λ y. Step) [
      | true ↦ thence (passes (eqb c 176) 6 p (p + 2)) (characters_judged l)
      | false ↦ thence (character_judged printable b p) (characters_judged (c ∷ l))
    ]
unfolding characters_judged
by_first b c p l x e =
    ap (λ (z : Bool). elim z as (λ y. Step) [
      | true ↦ thence (passes (eqb c 176) 6 p (p + 2)) (characters_judged l)
      | false ↦ thence (character_judged printable b p) (characters_judged (c ∷ l))
    ]) e

-- a character by itself, with others behind it or not
one-judged : (b p : ℕ) (l : List ℕ) → printable b ≡ true → characters_judged (b ∷ l) p ≡ characters_judged l (p + 1)
unfolding characters_judged thence passes
one-judged b p [] h = rw (h, passes)
one-judged b p (c ∷ l) h =
    let s = between_both 32 126 b h in
    by_first b c p l false (ne_eqb b 194 (λ e. absurd (omega (arith, s.1)))) ∙ rw (h, passes, thence)

other-judged : (b p : ℕ) (l : List ℕ) → printable b ≡ false → (b ≡ 194 → ⊥) → Refused 6 p ≡ characters_judged (b ∷ l) p
unfolding characters_judged thence passes
other-judged b p [] h k = rw (h, passes)
other-judged b p (c ∷ l) h k = (rw (h, passes, thence)) ∙ sym (by_first b c p l false (ne_eqb b 194 k))

module _ (l : List ℕ) (p : ℕ) where
  abbrev first : ℕ
  first = get_or l p 0

  abbrev second : ℕ
  second = get_or l (p + 1) 0

  begins : p < length l → drop p l ≡ first ∷ drop (p + 1) l
  begins h = let z : suc p ≡ p + 1 = omega arith in drop-cons l p 0 h ∙ ap (λ k. first ∷ drop k l) z

  pub character_plain : (b : Bool) → p < length l → b ≡ printable first → b ≡ true → CharacterIs l p (At (p + 1))
  character_plain b h e t =
      (omega arith, (omega arith, ap (λ m. characters_judged m p) (begins h) ∙ one-judged first p (drop (p + 1) l) (sym e ∙ t)))

  pub character_other : (b : Bool) → p < length l → b ≡ printable first → b ≡ false → (first ≡ 194 → ⊥) → CharacterIs l p (Refused 6 p)
  character_other b h e t k = other-judged first p (drop (p + 1) l) (sym e ∙ t) k ∙ ap (λ m. characters_judged m p) (sym (begins h))

  -- C2 as the last byte
  pub character_last : (b : Bool) → p < length l → b ≡ printable first → b ≡ false → length l - p < 2 → CharacterIs l p (Refused 6 p)
  unfolding characters_judged passes
  character_last b h e t k =
      let d : drop (p + 1) l ≡ [] = drop_of_length-le l {i = p + 1} (omega arith) in
      (rw (← e, t, passes)) ∙ ap (λ m. characters_judged (first ∷ m) p) (sym d) ∙ ap (λ m. characters_judged m p) (sym (begins h))

  -- C2 with another byte behind it
  follows : p < length l → 2 ≤ length l - p → drop p l ≡ first ∷ second ∷ drop (p + 2) l
  follows h k =
      let z : suc (p + 1) ≡ p + 2 = omega arith in
      begins h ∙ ap (λ m. first ∷ m) (drop-cons l (p + 1) 0 (omega arith) ∙ ap (λ i. second ∷ drop i l) z)

  pub character_half : p < length l → 2 ≤ length l - p → first ≡ 194 → (second ≡ 176 → ⊥) → CharacterIs l p (Refused 6 p)
  unfolding characters_judged thence passes
  character_half h k e t =
      (rw (ne_eqb second 176 t, passes, thence)) ∙ sym (by_first first second p (drop (p + 2) l) true (eq-eqb first 194 e))
      ∙ ap (λ m. characters_judged m p) (sym (follows h k))

  pub character_pair : p < length l → 2 ≤ length l - p → first ≡ 194 → second ≡ 176 → CharacterIs l p (At (p + 2))
  unfolding characters_judged thence passes
  character_pair h k e t =
      let pair = by_first first second p (drop (p + 2) l) true (eq-eqb first 194 e) in
      (omega arith, (omega arith, ap (λ m. characters_judged m p) (follows h k) ∙ pair ∙ rw (eq-eqb second 176 t, passes, thence)))

-- with the bytes before i passed, what is left comes to what there was
pub record Judged (l : List ℕ) (i : ℕ) : Type 0 where
  pub within : i ≤ length l
  pub rest : characters_judged (drop i l) i ≡ characters_judged l 0

pub judged_begin : (l : List ℕ) → Judged l 0
judged_begin l = record { within = omega arith; rest = refl }

pub judged_again : (l : List ℕ) (i j : ℕ) → Judged l i → CharacterIs l i (At j) → Judged l j
judged_again l i j p d = record { within = d.1.0; rest = sym d.1.1 ∙ p.rest }

pub judged_bad : (l : List ℕ) (i n q : ℕ) → Judged l i → CharacterIs l i (Refused n q) → Refused n q ≡ characters_judged l 0
judged_bad l i n q p c = c ∙ p.rest

pub judged_all : (l : List ℕ) (i : ℕ) → length l ≤ i → Judged l i → At i ≡ characters_judged l 0
unfolding characters_judged
judged_all l i h p = let d = drop_of_length-le l {i = i} h in rw d at p.rest

-- where every byte is printable
below : (i n : ℕ) → i < suc n → (i ≡ n → ⊥) → i < n
below i n h k = ⊎_elim (λ e. absurd (k e)) (λ l. l) (eq-or-lt_of_le (le_of_suc-le-suc h))

each-printable : (l : List ℕ) (n : ℕ) → printables l 0 n ≡ true → (i : ℕ) → i < n → printable (get_or l i 0) ≡ true
unfolding printables
each-printable l zero e i h = absurd (omega (arith, h))
each-printable l (suc n) e i h = go (eqb i n) refl (each-printable l n both.0)
  where
    both : (printables l 0 n ≡ true) × (printable (get_or l (0 + n) 0) ≡ true)
    both = (and-eq-true_iff (printables l 0 n) (printable (get_or l (0 + n) 0))).0 e

    go : (b : Bool) → eqb i n ≡ b → ((j : ℕ) → j < n → printable (get_or l j 0) ≡ true) → printable (get_or l i 0) ≡ true
    go true k others = let z : 0 + n ≡ i = omega (arith, eqb-true i n k) in rw z at both.1
    go false k others = others i (below i n h (eqb-false i n k))

plain-judged : (l : List ℕ) (p : ℕ) → ((i : ℕ) → i < length l → printable (get_or l i 0) ≡ true) → At (p + length l) ≡ characters_judged l p
unfolding characters_judged
plain-judged [] p h = let z : p + 0 ≡ p = omega arith in rw z
plain-judged (b ∷ l) p h =
    let z : p + suc (length l) ≡ p + 1 + length l = omega arith in
    rw z (plain-judged l (p + 1) (λ i k. h (suc i) (omega arith)) ∙ sym (one-judged b p l (h 0 (omega arith))))

pub printable_judged : (l : List ℕ) → printables l 0 (length l) ≡ true → At (length l) ≡ characters_judged l 0
printable_judged l t = let y : 0 + length l ≡ length l = omega arith in rw y at (plain-judged l 0 (each-printable l (length l) t))

-- which characters, by what the text is
pub of_indicator : (k : Kind) (l : List ℕ) (y : Step) → k ≡ Indicator → y ≡ judged_from false l 0 → y ≡ characters_of k l 0
of_indicator k l y e f = f ∙ rw e

pub of_style : (k : Kind) (l : List ℕ) (y : Step) → k ≡ Style → y ≡ judged_from true l 0 → y ≡ characters_of k l 0
of_style k l y e f = f ∙ rw e

pub of_line : (k : Kind) (l : List ℕ) (y : Step) → k ≡ Line → y ≡ characters_judged l 0 → y ≡ characters_of k l 0
of_line k l y e f = f ∙ rw e

-- ---- the first fault of a text

-- judged further on
abbrev shifted : ℕ → Step → Step
shifted p (At q) = At (p + q)
shifted p (Refused n q) = Refused n (p + q)

shifted-thence : (p : ℕ) (y z : Step) (f : ℕ → Step) → z ≡ shifted p y → ((q : ℕ) → f (p + q) ≡ shifted p (f q)) → thence z f ≡ shifted p (thence y f)
unfolding thence
shifted-thence p (At q) z f e h = rw e (h q)
shifted-thence p (Refused n q) z f e h = rw e

shifted-passes : (b : Bool) (n p q r : ℕ) → passes b n (p + q) (p + r) ≡ shifted p (passes b n q r)
unfolding passes
shifted-passes true n p q r = refl
shifted-passes false n p q r = refl

in-turn-shifted : (good : ℕ → Bool) (l : List ℕ) (p q : ℕ) → in_turn (character_judged good) l (p + q) ≡ shifted p (in_turn (character_judged good) l q)
unfolding in_turn
in-turn-shifted good [] p q = refl
in-turn-shifted good (c ∷ l) p q =
    let z : p + q + 1 ≡ p + (q + 1) = omega arith in
    shifted-thence p (character_judged good c q) (character_judged good c (p + q)) (in_turn (character_judged good) l)
    (rw z (shifted-passes (good c) 6 p q (q + 1))) (in-turn-shifted good l p)

characters-shifted : (l : List ℕ) (p q : ℕ) → characters_judged l (p + q) ≡ shifted p (characters_judged l q)
unfolding characters_judged
characters-shifted [] p q = refl
characters-shifted (b ∷ []) p q = let z : p + q + 1 ≡ p + (q + 1) = omega arith in rw z (shifted-passes (printable b) 6 p q (q + 1))
characters-shifted (b ∷ c ∷ l) p q = go (eqb b 194) (characters-shifted l p) (characters-shifted (c ∷ l) p)
  where
    go : (x : Bool) → ((r : ℕ) → characters_judged l (p + r) ≡ shifted p (characters_judged l r))
        → ((r : ℕ) → characters_judged (c ∷ l) (p + r) ≡ shifted p (characters_judged (c ∷ l) r))
        → elim x as (λ y. Step) [
          | true ↦ thence (passes (eqb c 176) 6 (p + q) (p + q + 2)) (characters_judged l)
          | false ↦ thence (character_judged printable b (p + q)) (characters_judged (c ∷ l))
        ]
        ≡ shifted p (elim x as (λ y. Step) [
          | true ↦ thence (passes (eqb c 176) 6 q (q + 2)) (characters_judged l)
          | false ↦ thence (character_judged printable b q) (characters_judged (c ∷ l))
        ])
    go true pair one =
        let z : p + q + 2 ≡ p + (q + 2) = omega arith in
        shifted-thence p (passes (eqb c 176) 6 q (q + 2)) (passes (eqb c 176) 6 (p + q) (p + q + 2)) (characters_judged l)
        (rw z (shifted-passes (eqb c 176) 6 p q (q + 2))) pair
    go false pair one =
        let z : p + q + 1 ≡ p + (q + 1) = omega arith in
        shifted-thence p (character_judged printable b q) (character_judged printable b (p + q)) (characters_judged (c ∷ l))
        (rw z (shifted-passes (printable b) 6 p q (q + 1))) one

of-shifted : (k : Kind) (l : List ℕ) (p : ℕ) → characters_of k l p ≡ shifted p (characters_of k l 0)
of-shifted Indicator l p = let z : p + 0 ≡ p = omega arith in rw z at (in-turn-shifted (letter false) l p 0)
of-shifted Style l p = let z : p + 0 ≡ p = omega arith in rw z at (in-turn-shifted (letter true) l p 0)
of-shifted Line l p = let z : p + 0 ≡ p = omega arith in rw z at (characters-shifted l p 0)

-- a text's judgement: its length, then its characters
text-judges : (k : Kind) (l : List ℕ) (p : ℕ)
    → judges (text_format k) l p ≡ thence (passes (between (least k) (most k) (length l)) 5 p (p + 1)) (characters_of k l)
unfolding judges line
text-judges Indicator l p = refl
text-judges Style l p = refl
text-judges Line l p = refl

beyond-noted : (k : Kind) (l : List ℕ) (p : ℕ) (w : Walk) → between (least k) (most k) (length l) ≡ false
    → noted (Refused 5 p) w ≡ noted (judges (text_format k) l p) w
unfolding thence passes
beyond-noted k l p w e = sym (ap (λ z. noted z w) (text-judges k l p ∙ rw (e, passes, thence)))

module _ (k : Kind) (l : List ℕ) (w : Walk) where
  pub short_noted : length l < least k → noted (Refused 5 w.place) w ≡ noted (judges (text_format k) l w.place) w
  short_noted h = beyond-noted k l w.place w (rw (lt-leb (least k) (length l) h))

  pub long_noted : least k ≤ length l → most k < length l → noted (Refused 5 w.place) w ≡ noted (judges (text_format k) l w.place) w
  long_noted h i = beyond-noted k l w.place w (rw (le-leb (least k) (length l) h, lt-leb (length l) (most k) i))

  -- its length is within the limits: what its characters come to
  module _ (h : least k ≤ length l) (i : length l ≤ most k) where
    within-noted : (y : Step) → y ≡ characters_of k l 0 → noted (shifted (w.place + 1) y) w ≡ noted (judges (text_format k) l w.place) w
    unfolding thence passes
    within-noted y f =
        let a = le-leb (least k) (length l) h in
        let b = le-leb (length l) (most k) i in
        sym (ap (λ z. noted z w) (text-judges k l w.place ∙ rw (a, b, passes, thence) (of-shifted k l (w.place + 1) ∙ ap (shifted (w.place + 1)) (sym f))))

    pub fine_noted : (q : ℕ) → At q ≡ characters_of k l 0 → w ≡ noted (judges (text_format k) l w.place) w
    fine_noted q f = noted_none w (w.place + 1 + q) ∙ within-noted (At q) f

    pub bad_noted : (n q a b : ℕ) → Refused n q ≡ characters_of k l 0 → a ≡ cap (w.place + 1) → b ≡ cap (a + q)
        → noted (Refused n b) w ≡ noted (judges (text_format k) l w.place) w
    unfolding noted
    bad_noted n q a b f u v = rw (v, u, cap_twice (cap (w.place + 1) + q), cap_more (w.place + 1) q) (within-noted (Refused n q) f)

-- ---- its bytes

-- a byte stays what it is
pub low_bytes : (l : List ℕ) → All IsByte l → map low l ≡ l
low_bytes [] h = refl
low_bytes (b ∷ l) h = let z : b % 256 ≡ b = omega (arith, h.0) in rw (z, low_bytes l h.1)

all_bytes : (l : List ℕ) → ((i : ℕ) → get_or l i 0 < 256) → All IsByte l
all_bytes [] h = tt
all_bytes (b ∷ l) h = (h 0, all_bytes l (λ i. h (suc i)))

pub length-low : (l : List ℕ) → length (map low l) ≡ length l
length-low l = length-map l low

pub text_short : (d : List ℕ) (p n : ℕ) (l : List ℕ) → p < length d → length d - p ≤ length l → d ≡ stamped d p (n ∷ map low l)
text_short d p n l h k = stamped_short d p n (map low l) h (omega (arith, length-low l))

pub text_put : (d e l : List ℕ) (p : ℕ) → ((i : ℕ) → get_or l i 0 < 256) → length l < length d - p → p < length d
    → e ≡ put_at (set d p (length l % 256)) (p + 1) l → e ≡ stamped d p (low (length l) ∷ map low l)
text_put d e l p b h k f =
    let m = low_bytes l (all_bytes l b) in
    f ∙ ap (λ x. put_at x (p + 1) l) (put_one d p (length l % 256) k)
    ∙ put-put d p (length l % 256 ∷ []) l (p + 1) refl (omega arith)
    ∙ rw m (stamped-all d p (length l % 256 ∷ l) (omega arith))

-- ---- the whole text

pub text_steps : (w : Walk) (l : List ℕ) → advanced (length (low (length l) ∷ map low l)) w ≡ advanced (length l) (advanced 1 w)
unfolding advanced
text_steps w l =
    let n : w.place + 1 + length l ≡ w.place + suc (length (map low l)) = omega (arith, length-low l) in
    let c : cap (cap (w.place + 1) + length l) ≡ cap (w.place + suc (length (map low l))) = cap_more (w.place + 1) (length l) ∙ ap cap n in
    rw c

-- what a text comes to, whichever it is
text-walked : (k : Kind) (ns ts : List ℕ) (s : State) → let g = text_taken ns ts (cursor_of s.walk) in
    entered (judges (text_format k) g.value s.walk.place) (map low (length g.value ∷ g.value)) (state (moved g.after s.walk) s.sheet)
    ≡ walked (text_format k) ns ts s
unfolding walked field_entered takes writes line
text-walked Indicator ns ts s = refl
text-walked Style ns ts s = refl
text-walked Line ns ts s = refl

-- bytes that were taken are a part of the text
record PartOf (ts : List ℕ) (c : Cursor) (g : Taken (List ℕ)) : Type 0 where
  order : c.text ≤ g.after.text
  inside : g.after.text ≤ length ts
  part : take (g.after.text - c.text) (drop c.text ts) ≡ g.value

bytes-part : (n : ℕ) (ts : List ℕ) (c : Cursor) → (bytes_at n ts c).after.missing ≡ false → PartOf ts c (bytes_at n ts c)
unfolding bytes_at
bytes-part n ts c = go (not c.missing && leb (c.text + n) (length ts)) refl
  where
    got : Taken (List ℕ)
    got = record { value = take n (drop c.text ts); after = record { numbers = c.numbers; text = c.text + n; missing = false } }

    go : (b : Bool) → (not c.missing && leb (c.text + n) (length ts)) ≡ b
        → (elim b as (λ z. Taken (List ℕ)) [ true ↦ got | false ↦ record { value = []; after = lacking c } ]).after.missing ≡ false
        → PartOf ts c (elim b as (λ z. Taken (List ℕ)) [ true ↦ got | false ↦ record { value = []; after = lacking c } ])
    go true e m =
        let room = leb-true (c.text + n) (length ts) ((and-eq-true_iff (not c.missing) (leb (c.text + n) (length ts))).0 e).1 in
        let z : c.text + n - c.text ≡ n = omega arith in
        record { order = omega arith; inside = room; part = rw z }
    go false e m = let z : ◌≡◌ {A = ℕ} 0 1 = cc in absurd (omega arith)

-- its length was taken, and then its bytes
module _ (k : Kind) (ns ts : List ℕ) (w b t : Walk) (n : ℕ) (f : n ≡ (number_at ns (cursor_of w)).value)
    (g : b ≡ moved (number_at ns (cursor_of w)).after w) (h : t ≡ moved (bytes_at n ts (cursor_of b)).after b) where
  taken_so : t ≡ moved (text_taken ns ts (cursor_of w)).after w
  unfolding text_taken
  taken_so = h ∙ rw (g, f)

  pub text_missing : (d : List ℕ) → t.missing ≡ true → state t d ≡ walked (text_format k) ns ts (state w d)
  text_missing d m =
      let v = (text_taken ns ts (cursor_of w)).value in
      let y = judges (text_format k) v w.place in
      let l = map low (length v ∷ v) in
      missing_entered y l t d m ∙ ap (λ x. entered y l (state x d)) taken_so ∙ text-walked k ns ts (state w d)

  pub text_there : (r : Walk) (d e l : List ℕ) → l ≡ (text_taken ns ts (cursor_of w)).value
      → state r e ≡ entered (judges (text_format k) l t.place) (map low (length l ∷ l)) (state t d)
      → state r e ≡ walked (text_format k) ns ts (state w d)
  text_there r d e l i j =
      let v = (text_taken ns ts (cursor_of w)).value in
      j ∙ rw (i, taken_so) (text-walked k ns ts (state w d))

  -- the part of the text that is lent
  taken_here : t.missing ≡ false → PartOf ts (cursor_of b) (bytes_at n ts (cursor_of b))
  taken_here m = bytes-part n ts (cursor_of b) (sym (ap (λ (x : Walk). x.missing) h) ∙ m)

  pub taken_order : t.missing ≡ false → b.text ≤ t.text
  taken_order m = rw h (taken_here m).order

  pub taken_inside : t.missing ≡ false → t.text ≤ length ts
  taken_inside m = rw h (taken_here m).inside

  pub taken_part : t.missing ≡ false → take (t.text - b.text) (drop b.text ts) ≡ (text_taken ns ts (cursor_of w)).value
  unfolding text_taken
  taken_part m = ap (λ (x : Walk). take (x.text - b.text) (drop b.text ts)) h ∙ (taken_here m).part ∙ rw (g, f)

-- not even its length was taken
pub text_lacking : (k : Kind) (ns ts : List ℕ) (w b : Walk) (d : List ℕ) → b ≡ moved (number_at ns (cursor_of w)).after w → b.missing ≡ true
    → state b d ≡ walked (text_format k) ns ts (state w d)
text_lacking k ns ts w b d g m =
    let n = (number_at ns (cursor_of w)).value in
    text_missing k ns ts w b b n refl g (bytes_missing n ts b m) d m
