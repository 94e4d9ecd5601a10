-- The reader says of a value's bytes what the writer's judgement says of the value; and what was read is what is written of it. Assumes nothing.
use Prim.Native.Nat.{ℕ, zero, suc, ◌+◌, ◌*◌, ◌/◌, ◌%◌, ◌≤◌, ◌<◌}
use mathlib.Core.Path.{◌≡◌, refl, ap, sym, ◌∙◌}
use mathlib.Core.List.{List, [], ◌∷◌, ◌++◌, map, append_assoc, append-nil}
use mathlib.Core.Bool.{Bool, true, false}
use native.Mathlib.Omega.{arith}
use lib.ListN.{length, get_or, drop, length-drop, take-append-drop}
use lib.Seq.{drop-cons, get_or-drop, drop-drop, drop-length}
use lib.Dec.{ltb, leb, eqb}
use borrow.Author.Tests.{lt-ltb, le-ltb, eqb-true, eqb-false, eq-eqb, ne_eqb}
use Rattle.rules.specs.Text.{All, flat}
use Rattle.rules.specs.Sheet.{Cell, Row, Table}
use Rattle.rules.specs.declared.Width.{Width}
use Rattle.rules.specs.declared.Column.{Column}
use Rattle.rules.specs.Field as field
use Rattle.rules.specs.Field.{Read, got, refused, Reader, onward, byte_at, word_at, between, printable, several, ended}
use Rattle.rules.specs.Description.{Format, byte, word, only, zero_word, text, cell_text, listed, give, next}
use Rattle.rules.specs.Description.{number_of, text_length, character, characters, reads, writes}
use Rattle.rules.specs.Description.{Faithful, past, parts, text_at, line_stop, stands, here, stop}
use Rattle.rules.specs.Description as description
use Rattle.rules.specs.Limits.{IsByte}
use Rattle.rules.specs.Format.{width, column, line, cell_by, cell, row_by, row, table_by, table, sheet_by, sheet, written}
use Rattle.rules.specs.Places.{table_here, end_place}
use Rattle.rules.specs.Steps.{Step, At, Refused}
use Rattle.rules.specs.Writer.{thence, passes, in_turn, length_judged, character_judged, characters_judged, judges, judged}
use Rattle.rules.proofs.Parts.{Whole, table_whole}
use Rattle.laws.proofs.Lists.{all_of, all_imp, all_get_d}
use Rattle.laws.proofs.Reading.{KeepsValue}
use Rattle.laws.proofs.Accepted.{accepted_places, line_whole}
use Rattle.laws.proofs.Judging.{judged_ends, keeps-judged}
use Rattle.laws.proofs.Stands.{parts-count, past-onward, stop-onward, text-length}

-- ---- a place from which some bytes stand

-- the first of them, and what stands from the next place on
pub record Front (s : List ℕ) (p v : ℕ) (r : List ℕ) : Type 0 where
  pub there : p < length s
  pub is : byte_at s p ≡ v
  pub rest : drop (p + 1) s ≡ r

pub front : (s : List ℕ) (p v : ℕ) (r : List ℕ) → drop p s ≡ v ∷ r → Front s p v r
front s p v r e = record {
  there = let h = sym (length-drop p s) ∙ ap length e in omega (arith, h);
  is = let z : p + 0 ≡ p = omega arith in sym (get_or-drop p s 0 0 ∙ rw z) ∙ ap (λ l. get_or l 0 0) e;
  rest = sym (drop-drop 1 p s) ∙ ap (drop 1) e;
}

-- what stands behind them
pub behind : (s : List ℕ) (p : ℕ) (l r : List ℕ) → drop p s ≡ l ++ r → drop (p + length l) s ≡ r
behind s p [] r e = let z : p + 0 ≡ p = omega arith in rw z e
behind s p (v ∷ l) r e =
    let z : p + suc (length l) ≡ p + 1 + length l = omega arith in
    rw z (behind s (p + 1) l r (front s p v (l ++ r) e).rest)

-- ---- reading what was written

-- what is made of a value's parts is that value
unfoldable pub Made : {A : Type 0} → Format A → A → Type 0
Made byte v = Unit {0}
Made word v = Unit {0}
Made (only good fault x) v = Made x v
Made zero_word v = Unit {0}
Made (text low high good) l = Unit {0}
Made (cell_text low high) l = Unit {0}
Made (listed count x) as' = Made count (length as') × All (λ a. Made x a) as'
Made (give a) u = a ≡ u
Made (next of x g) u = Made x (of u) × Made (g (of u)) u

-- the judgement of a, as the reader would say it
abbrev pub answer : {A : Type 0} → A → Step → Read A
answer a (At q) = got a q
answer a (Refused n q) = refused n q

-- from wherever the bytes l of a stand in s, f says what j does
abbrev Says : {A : Type 0} → Reader A → List ℕ → A → List ℕ → (ℕ → Step) → Type 0
Says f s a l j = (p : ℕ) (r : List ℕ) → drop p s ≡ l ++ r → f s p ≡ answer a (j p)

-- what passes ends behind its bytes l
abbrev Ends : List ℕ → ℕ → Step → Type 0
Ends l p (At q) = q ≡ p + length l
Ends l p (Refused n q) = Unit {0}

passes_ends : (l : List ℕ) (b : Bool) (number p : ℕ) → Ends l p (passes b number p (p + length l))
unfolding passes
passes_ends l true number p = refl
passes_ends l false number p = tt

judges_ends : {A : Type 0} (x : Format A) (a : A) (p : ℕ) → Ends (writes x a) p (judges x a p)
judges_ends x a p = go (judges x a p) refl
  where
    go : (y : Step) → judges x a p ≡ y → Ends (writes x a) p y
    go (At q) e = judged_ends x a p q e
    go (Refused n q) e = tt

-- a value made of one that was judged
made-answer : {A B : Type 0} (h : A → B) (a : A) (y : Step) → onward (answer a y) (λ b q. got (h b) q) ≡ answer (h a) y
unfolding onward
made-answer h a (At q) = refl
made-answer h a (Refused n q) = refl

-- one part behind another, which may go by it
then_says : {A B : Type 0} (f : Reader B) (g : B → Reader A) (s : List ℕ) (b : B) (a : A) (l m : List ℕ) (j k : ℕ → Step)
    → ((p : ℕ) → Ends l p (j p)) → Says f s b l j → Says (g b) s a m k
    → Says (λ t p. onward (f t p) (λ c q. g c t q)) s a (l ++ m) (λ p. thence (j p) k)
unfolding onward thence
then_says {A} {B} f g s b a l m j k ends first others p r e =
    ap (λ (y : Read B). onward y (λ c q. g c s q)) (first p (m ++ r) e') ∙ go (j p) (ends p)
  where
    e' : drop p s ≡ l ++ (m ++ r)
    e' = e ∙ append_assoc l m r

    go : (y : Step) → Ends l p y → onward (answer b y) (λ c q. g c s q) ≡ answer a (thence y k)
    go (At q) i = others q r (rw i (behind s p l (m ++ r) e'))
    go (Refused n q) i = refl

-- an item, and the others
cons_says : {A : Type 0} (f : Reader A) (g : Reader (List A)) (s : List ℕ) (a : A) (as' : List A) (l m : List ℕ) (j k : ℕ → Step)
    → ((p : ℕ) → Ends l p (j p)) → Says f s a l j → Says g s as' m k
    → Says (λ t p. onward (f t p) (λ b q. onward (g t q) (λ bs r. got (b ∷ bs) r))) s (a ∷ as') (l ++ m) (λ p. thence (j p) k)
cons_says {A} f g s a as' l m j k ends first others =
    then_says f (λ b t q. onward (g t q) (λ bs r. got (b ∷ bs) r)) s a (a ∷ as') l m j k ends first
    (λ p r e. ap (λ (y : Read (List A)). onward y (λ bs q. got (a ∷ bs) q)) (others p r e) ∙ made-answer (◌∷◌ a) as' (k p))

-- a field
byte_says : (s : List ℕ) (v : ℕ) → Says field.byte s v (v ∷ []) (λ p. At (p + 1))
unfolding field.byte
byte_says s v p r e =
    let f = front s p v r e in
    let l = lt-ltb p (length s) f.there in
    rw (l, field.byte, f.is)

word_says : (s : List ℕ) (v : ℕ) → Says field.word s v (v % 256 ∷ v / 256 ∷ []) (λ p. At (p + 2))
unfolding field.word
word_says s v p r e =
    let f = front s p (v % 256) (v / 256 ∷ r) e in
    let g = front s (p + 1) (v / 256) r f.rest in
    let l = lt-ltb (p + 1) (length s) g.there in
    let w : v % 256 + v / 256 * 256 ≡ v = omega arith in
    rw (l, field.word, f.is, g.is, w)

-- a test of a field
only_says : (good : ℕ → Bool) (number : ℕ) (f : Reader ℕ) (s : List ℕ) (v : ℕ) (l : List ℕ) (j : ℕ → Step) → Says f s v l j
    → Says (field.only good number f) s v l (λ p. thence (j p) (passes (good v) number p))
unfolding field.only onward thence passes
only_says good number f s v l j inner p r e =
    ap (λ (y : Read ℕ). onward y (λ w q. elim (good w) as (λ z. Read ℕ) [ true ↦ got w q | false ↦ refused number p ])) (inner p r e)
    ∙ go (j p)
  where
    test : (b : Bool) (q : ℕ) → elim b as (λ z. Read ℕ) [ true ↦ got v q | false ↦ refused number p ] ≡ answer v (passes b number p q)
    test true q = refl
    test false q = refl

    go : (y : Step)
        → onward (answer v y) (λ w q. elim (good w) as (λ z. Read ℕ) [ true ↦ got w q | false ↦ refused number p ])
        ≡ answer v (thence y (passes (good v) number p))
    go (At q) = test (good v) q
    go (Refused n q) = refl

-- a byte that is tested
tested_says : (good : ℕ → Bool) (number : ℕ) (s : List ℕ) (v : ℕ) → Says (field.only good number field.byte) s v (v ∷ [])
    (λ p. passes (good v) number p (p + 1))
unfolding thence
tested_says good number s v = only_says good number field.byte s v (v ∷ []) (λ p. At (p + 1)) (byte_says s v)

-- both bytes of an unused width
zero_says : (s : List ℕ) (v : ℕ) → Says field.zero_word s v (v % 256 ∷ v / 256 ∷ [])
    (λ p. thence (passes (eqb (v % 256) 0) 8 p (p + 1)) (λ q. passes (eqb (v / 256) 0) 8 q (q + 1)))
unfolding field.zero_word onward thence passes
zero_says s v p r e = rw (word_says s v p r e, onward) (go (eqb v 0) (eqb (v % 256) 0) (eqb (v / 256) 0) refl refl refl)
  where
    go : (a b c : Bool) → eqb v 0 ≡ a → eqb (v % 256) 0 ≡ b → eqb (v / 256) 0 ≡ c
        → elim a as (λ z. Read ℕ) [
          | true ↦ got v (p + 2)
          | false ↦ elim b as (λ z. Read ℕ) [ true ↦ refused 8 (p + 1) | false ↦ refused 8 p ]
        ]
        ≡ answer v (thence (passes b 8 p (p + 1)) (λ q. passes c 8 q (q + 1)))
    go true true true h i k = let z : p + 2 ≡ p + 1 + 1 = omega arith in ap (got v) z
    go true true false h i k = absurd (eqb-false (v / 256) 0 k (omega (arith, eqb-true v 0 h)))
    go true false c h i k = absurd (eqb-false (v % 256) 0 i (omega (arith, eqb-true v 0 h)))
    go false true true h i k = absurd (eqb-false v 0 h (omega (arith, eqb-true (v % 256) 0 i, eqb-true (v / 256) 0 k)))
    go false true false h i k = refl
    go false false c h i k = refl

-- items one after another
several_says : {A : Type 0} (f : Reader A) (w : A → List ℕ) (j : A → ℕ → Step) (s : List ℕ) → ((a : A) (p : ℕ) → Ends (w a) p (j a p))
    → (as' : List A) → All (λ a. Says f s a (w a) (j a)) as' → Says (several (length as') f) s as' (flat (map w as')) (in_turn j as')
unfolding several in_turn flat
several_says f w j s ends [] h = λ p r e. refl
several_says f w j s ends (a ∷ as') h =
    cons_says f (several (length as') f) s a as' (w a) (flat (map w as')) (j a) (in_turn j as') (ends a) h.0 (several_says f w j s ends as' h.1)

-- the characters of a text
text_says : (good : ℕ → Bool) (s l : List ℕ) → Says (several (length l) (character good)) s l l (in_turn (character_judged good) l)
unfolding several in_turn
text_says good s [] = λ p r e. refl
text_says good s (c ∷ l) =
    cons_says (character good) (several (length l) (character good)) s c l (c ∷ []) l (character_judged good c) (in_turn (character_judged good) l)
    (passes_ends (c ∷ []) (good c) 6) (tested_says good 6 s c) (text_says good s l)

-- by whether a pair begins there
module _ (s : List ℕ) (n p : ℕ) where
  abbrev paired : Read (List ℕ)
  paired = onward (description.degree s p) (λ v q. onward (characters n s q) (λ l r. got (194 ∷ 176 ∷ l) r))

  abbrev single : Read (List ℕ)
  single = onward (character printable s p) (λ b q. onward (characters (suc n) s q) (λ l r. got (b ∷ l) r))

  by_first : (b : Bool) → eqb (byte_at s p) 194 ≡ b → characters (suc (suc n)) s p ≡ elim b as (λ x. Read (List ℕ)) [ true ↦ paired | false ↦ single ]
  unfolding characters
  by_first b e = ap (λ (x : Bool). elim x as (λ y. Read (List ℕ)) [ true ↦ paired | false ↦ single ]) e

-- a pair: behind its C2 anything may stand
pair_says : (s : List ℕ) (c : ℕ) → Says description.degree s (194 + c * 256) (194 ∷ c ∷ []) (λ p. passes (eqb c 176) 6 p (p + 2))
unfolding thence
pair_says s c p r e =
    let v = 194 + c * 256 in
    let low : v % 256 ≡ 194 = omega arith in
    let high : v / 256 ≡ c = omega arith in
    let e' : drop p s ≡ v % 256 ∷ v / 256 ∷ r = rw (low, high) e in
    let same : eqb (194 + 176 * 256) v ≡ eqb c 176 = go (eqb c 176) refl in
    only_says (eqb (194 + 176 * 256)) 6 field.word s v (v % 256 ∷ v / 256 ∷ []) (λ q. At (q + 2)) (word_says s v) p r e' ∙ rw same
  where
    go : (b : Bool) → eqb c 176 ≡ b → eqb (194 + 176 * 256) (194 + c * 256) ≡ b
    go true i = eq-eqb (194 + 176 * 256) (194 + c * 256) (omega (arith, eqb-true c 176 i))
    go false i = ne_eqb (194 + 176 * 256) (194 + c * 256) (λ h. eqb-false c 176 i (omega (arith, h)))

-- and the characters behind it
pair_then : (s : List ℕ) (c n : ℕ) (l : List ℕ) → Says (characters n) s l l (characters_judged l)
    → Says (λ t p. paired t n p) s (194 ∷ c ∷ l) (194 ∷ c ∷ l) (λ p. thence (passes (eqb c 176) 6 p (p + 2)) (characters_judged l))
unfolding onward thence passes
pair_then s c n l others p r e = go (eqb c 176) refl
  where
    go : (b : Bool) → eqb c 176 ≡ b → paired s n p ≡ answer (194 ∷ c ∷ l) (thence (passes (eqb c 176) 6 p (p + 2)) (characters_judged l))
    go true i =
        let second = eqb-true c 176 i in
        then_says description.degree (λ v t q. onward (characters n t q) (λ m u. got (194 ∷ 176 ∷ m) u)) s (194 + c * 256)
        (194 ∷ c ∷ l) (194 ∷ c ∷ []) l (λ q. passes (eqb c 176) 6 q (q + 2)) (characters_judged l)
        (passes_ends (194 ∷ c ∷ []) (eqb c 176) 6) (pair_says s c)
        (λ q u f. ap (λ (y : Read (List ℕ)). onward y (λ m v. got (194 ∷ 176 ∷ m) v)) (others q u f)
        ∙ (made-answer (λ m. 194 ∷ 176 ∷ m) l (characters_judged l q) ∙ rw second))
        p r e
    go false i = rw (pair_says s c p (l ++ r) e, i, passes, thence, onward)

-- the bytes of a cell's text, character by character
characters_says : (s l : List ℕ) → Says (characters (length l)) s l l (characters_judged l)
unfolding characters characters_judged
characters_says s [] = λ p r e. refl
characters_says s (b ∷ []) = λ p r e.
    ap (λ (y : Read ℕ). onward y (λ c q. got (c ∷ []) q)) (tested_says printable 6 s b p r e)
    ∙ made-answer (λ c. c ∷ []) b (character_judged printable b p)
characters_says s (b ∷ c ∷ l) = λ p r e. go p r e (eqb b 194) refl (characters_says s l) (characters_says s (c ∷ l))
  where
    go : (p : ℕ) (r : List ℕ) → drop p s ≡ b ∷ c ∷ l ++ r → (t : Bool) → eqb b 194 ≡ t → Says (characters (length l)) s l l (characters_judged l)
        → Says (characters (suc (length l))) s (c ∷ l) (c ∷ l) (characters_judged (c ∷ l))
        → characters (suc (suc (length l))) s p ≡ answer (b ∷ c ∷ l) (elim t as (λ z. Step) [
          | true ↦ thence (passes (eqb c 176) 6 p (p + 2)) (characters_judged l)
          | false ↦ thence (character_judged printable b p) (characters_judged (c ∷ l))
        ])
    go p r e true i two more =
        let first = eqb-true b 194 i in
        by_first s (length l) p true (rw (front s p b (c ∷ l ++ r) e).is i) ∙ rw first (pair_then s c (length l) l two p r (e ∙ rw first))
    go p r e false i two more =
        by_first s (length l) p false (rw (front s p b (c ∷ l ++ r) e).is i)
        ∙ cons_says (character printable) (characters (suc (length l))) s b (c ∷ l) (b ∷ []) (c ∷ l)
        (character_judged printable b) (characters_judged (c ∷ l)) (passes_ends (b ∷ []) (printable b) 6) (tested_says printable 6 s b) more p r e

-- the law, whatever a value's numbers are
says : {A : Type 0} (x : Format A) (a : A) → Made x a → (s : List ℕ) → Says (reads x) s a (writes x a) (judges x a)
unfolding reads writes judges Made
says byte v m s = byte_says s v
says word v m s = word_says s v
says (only good fault x) v m s = only_says good (number_of fault) (reads x) s v (writes x v) (judges x v) (says x v m s)
says zero_word v m s = zero_says s v
says (text low high good) l m s =
    then_says (text_length low high) (λ n. several n (character good)) s (length l) l (length l ∷ []) l
    (length_judged low high l) (in_turn (character_judged good) l)
    (passes_ends (length l ∷ []) (between low high (length l)) 5) (tested_says (between low high) 5 s (length l)) (text_says good s l)
says (cell_text low high) l m s =
    then_says (text_length low high) characters s (length l) l (length l ∷ []) l (length_judged low high l) (characters_judged l)
    (passes_ends (length l ∷ []) (between low high (length l)) 5) (tested_says (between low high) 5 s (length l)) (characters_says s l)
says (listed count x) as' m s =
    then_says (reads count) (λ n. several n (reads x)) s (length as') as' (writes count (length as')) (flat (map (λ a. writes x a) as'))
    (judges count (length as')) (in_turn (λ a q. judges x a q) as') (judges_ends count (length as')) (says count (length as') m.0 s)
    (several_says (reads x) (λ a. writes x a) (λ a q. judges x a q) s (λ a p. judges_ends x a p) as'
    (all_imp (Made x) (λ a. Says (reads x) s a (writes x a) (judges x a)) (λ a h. says x a h s) as' m.1))
says (give a) u m s = λ p r e. rw m
says (next of x g) u m s =
    then_says (reads x) (λ a. reads (g a)) s (of u) u (writes x (of u)) (writes (g (of u)) u) (judges x (of u)) (λ q. judges (g (of u)) u q)
    (judges_ends x (of u)) (says x (of u) m.0 s) (says (g (of u)) u m.1 s)

-- ---- the sheet of a table

width-made : (used : Bool) (w : Width) → Made (width used) w
unfolding Made width
width-made true w = (tt, (tt, refl))
width-made false w = (tt, (tt, refl))

column-made : (c : Column) → Made column c
unfolding Made column
column-made c =
    (tt, (tt, (tt, (tt, (tt, (width-made (leb 3 c.constraint) c.first, (width-made (eqb c.constraint 6) c.second, refl)))))))

cell-made : (x : Cell) → Made cell x
unfolding Made cell_by line
cell-made x = (tt, (tt, ((tt, all_of (λ l. Unit {0}) (λ l. tt) x.lines), refl)))

row_made : (columns : ℕ) (r : Row) → Made (row columns) r
unfolding Made row_by
row_made columns r = (tt, ((tt, all_of (Made cell) cell-made r.cells), refl))

pub table-made : (t : Table) → Made table t
unfolding Made table_by
table-made t =
    let rows = row_made (length t.columns) in (
      tt,
      (
        tt,
        (
          tt,
          (
            tt,
            (
              tt,
              (
                tt,
                (
                  (tt, all_of (Made column) column-made t.columns),
                  (
                    (tt, all_of (Made (row (length t.columns))) rows t.header),
                    ((tt, all_of (Made (row (length t.columns))) rows t.rows), refl),
                  ),
                ),
              ),
            ),
          ),
        ),
      ),
    )

-- nothing stands behind the fields
ended_says : (s : List ℕ) (t : Table) (y : Step) → Ends s 0 y → onward (answer t y) (λ u p. onward (ended s p) (λ v q. got u q)) ≡ answer t y
unfolding onward ended
ended_says s t (At q) h = rw (le-ltb q (length s) (omega (arith, h)), ended, onward)
ended_says s t (Refused n q) h = refl

-- what the reader says of a table's sheet is what the writer says of the table
pub sheet_says : (t : Table) → sheet (written t) ≡ answer t (judged t)
unfolding written sheet_by judged
sheet_says t = go (ltb 32768 (length (writes table t)))
  where
    go : (b : Bool)
        → elim b as (λ z. Read Table) [
          | true ↦ refused 2 32768
          | false ↦ onward (reads table (writes table t) 0) (λ u p. onward (ended (writes table t) p) (λ v q. got u q))
        ]
        ≡ answer t (elim b as (λ z. Step) [ true ↦ Refused 2 32768 | false ↦ judges table t 0 ])
    go true = refl
    go false =
        let s = writes table t in
        ap (λ (y : Read Table). onward y (λ u p. onward (ended s p) (λ v q. got u q))) (says table t (table-made t) s 0 [] (sym (append-nil s)))
        ∙ ended_says s t (judges table t 0) (judges_ends table t 0)

-- a table that keeps the limits has a sheet that is accepted, unless it is too long
pub written_accepted : (t : Table) → KeepsValue table t → length (written t) ≤ 32768 → sheet (written t) ≡ got t (length (written t))
unfolding written judged
written_accepted t k short =
    let s = writes table t in
    let fine : judged t ≡ At (0 + length s) = rw (le-ltb 32768 (length s) short, judged) (keeps-judged table t 0 k) in
    let z : 0 + length s ≡ length s = omega arith in
    sheet_says t ∙ (ap (answer t) fine ∙ ap (got t) z)

-- ---- what was read is what is written of it

-- one part behind another
joined : {d e : List ℕ} (l m f : List ℕ) → d ≡ l ++ e → e ≡ m ++ f → d ≡ (l ++ m) ++ f
joined l m f h k = h ∙ (ap (λ r. l ++ r) k ∙ sym (append_assoc l m f))

-- the bytes from p on are those of what stands there, and then those from its end on
abbrev Stood : {A : Type 0} → Format A → List ℕ → ℕ → Type 0
Stood x s p = drop p s ≡ writes x (here x s p) ++ drop (stop x s p) s

module _ (s : List ℕ) (bytes : All IsByte s) where
  byte_stood : (p : ℕ) → p + 1 ≤ length s → drop p s ≡ byte_at s p ∷ drop (p + 1) s
  byte_stood p h = let z : suc p ≡ p + 1 = omega arith in drop-cons s p 0 (omega arith) ∙ rw z

  word_stood : (p : ℕ) → p + 2 ≤ length s → drop p s ≡ word_at s p % 256 ∷ word_at s p / 256 ∷ drop (p + 2) s
  word_stood p h =
      let low = all_get_d IsByte s p 0 (omega arith) bytes in
      let a : word_at s p % 256 ≡ byte_at s p = omega arith in
      let b : word_at s p / 256 ≡ byte_at s (p + 1) = omega arith in
      let z : p + 1 + 1 ≡ p + 2 = omega arith in
      byte_stood p (omega arith) ∙ ap (λ l. byte_at s p ∷ l) (byte_stood (p + 1) (omega arith)) ∙ rw (a, b, z)

  text_stood : (p : ℕ) → line_stop s p ≤ length s → drop p s ≡ length (text_at s p) ∷ text_at s p ++ drop (line_stop s p) s
  unfolding text_at line_stop
  text_stood p h =
      let n = text-length s p h in
      byte_stood p (omega arith)
      ∙ rw n (ap (λ l. byte_at s p ∷ l) (sym (take-append-drop (byte_at s p) (drop (p + 1) s)) ∙ rw (drop-drop (byte_at s p) (p + 1) s)))

  -- n parts, each of which stood where it was
  parts_stood : {A : Type 0} (x : Format A) → ((p : ℕ) → stop x s p ≤ length s → Stood x s p) → (n p : ℕ) → past n (λ q. stop x s q) p ≤ length s
      → drop p s ≡ flat (map (λ a. writes x a) (parts n (λ q. here x s q) (λ q. stop x s q) p)) ++ drop (past n (λ q. stop x s q) p) s
  unfolding parts past flat
  parts_stood x each zero p h = refl
  parts_stood x each (suc n) p h =
      let q = stop x s p in
      let o = past-onward n (λ q. stop x s q) q (λ q. stop-onward x s q) in
      let as' = parts n (λ r. here x s r) (λ r. stop x s r) q in
      joined (writes x (here x s p)) (flat (map (λ a. writes x a) as')) (drop (past n (λ r. stop x s r) q) s) (each p (omega arith))
      (parts_stood x each n q h)

  -- the law, with the property that makes each part of a value the one that was read
  pub stood : {A : Type 0} (x : Format A) (P : A → Type 0) → Faithful x P → (p : ℕ) → stop x s p ≤ length s → Stood x s p × P (here x s p)
  unfolding stands writes Faithful
  stood byte P f p h = (byte_stood p h, f (byte_at s p))
  stood word P f p h = (word_stood p h, f (word_at s p))
  stood (only good fault x) P f p h = stood x P f p h
  stood zero_word P f p h = (word_stood p h, f (word_at s p))
  stood (text low high good) P f p h = (text_stood p h, f (text_at s p))
  stood (cell_text low high) P f p h = (text_stood p h, f (text_at s p))
  stood (listed count x) P f p h =
      let o = past-onward (here count s p) (λ q. stop x s q) (stop count s p) (λ q. stop-onward x s q) in
      let number = (stood count (λ n. Unit {0}) f.0 p (omega (arith, o, h))).0 in
      let items = parts_stood x (λ q i. (stood x (λ a. Unit {0}) f.1.0 q i).0) (here count s p) (stop count s p) h in
      let n = parts-count (here count s p) (λ q. here x s q) (λ q. stop x s q) (stop count s p) in
      let as' = here (listed count x) s p in
      let l = writes count (here count s p) in
      (rw n (joined l (flat (map (λ a. writes x a) as')) (drop (stop (listed count x) s p) s) number items), f.1.1 as')
  stood (give a) P f p h = (refl, f)
  stood (next {A = A} of x g) P f p h =
      let o = stop-onward (g (here x s p)) s (stop x s p) in
      let first = (stood x (λ a. Unit {0}) f.0 p (omega (arith, o, h))).0 in
      let rest = stood (g (here x s p)) (λ u. (of u ≡ here x s p) × P u) (f.1 (here x s p)) (stop x s p) h in
      let u = here (g (here x s p)) s (stop x s p) in
      let e : of u ≡ here x s p = rest.1.0 in
      let v = here x s p in
      (rw e (joined (writes x v) (writes (g v) u) (drop (stop (next of x g) s p) s) first rest.0), rest.1.1)

-- an accepted sheet's bytes are those of its table: no other sheet has that table
pub accepted-written : (s : List ℕ) (t : Table) (q : ℕ) → All IsByte s → sheet s ≡ got t q → s ≡ written t
unfolding written table_here end_place
accepted-written s t q bytes e =
    let places = accepted_places s t q e in
    let all = (stood s bytes table Whole (table_whole line line_whole) 0 (omega (arith, places.1))).0 in
    rw places.0 (all ∙ (ap (λ n. writes table (here table s 0) ++ drop n s) (sym places.1) ∙ rw (drop-length s, append-nil)))
