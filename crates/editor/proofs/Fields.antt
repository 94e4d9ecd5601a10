-- Tests and fields of one or two bytes, one law for each way out of the code; and what a field comes to by the description. Assumes nothing.
use Prim.Native.Nat.{ℕ, ◌+◌, ◌/◌, ◌%◌, ◌≤◌, ◌<◌}
use mathlib.Core.Path.{◌≡◌, refl, sym, ap, ◌∙◌}
use mathlib.Core.List.{List, [], ◌∷◌, map}
use mathlib.Core.Bool.{Bool, true, false, ◌&&◌}
use native.Mathlib.Omega.{arith}
use lib.Dec.{leb, eqb}
use borrow.Author.Tests.{le-leb, lt-leb, eq-eqb, ne_eqb, eqb-true, eqb-false}
use Rattle.rules.specs.Field.{between}
use Rattle.rules.specs.Description.{Fault, number_of, byte, word, only, zero_word, word_to, writes}
use Rattle.rules.specs.Format.{cell_count}
use Rattle.rules.specs.Editor.{number_at, takes}
use Rattle.rules.specs.Steps.{Step, At, Refused}
use Rattle.rules.specs.Writer.{thence, passes, judges}
use Rattle.rules.specs.Sheet.{most_columns}
use Rattle.editor.specs.Walk.{Walk}
use Rattle.editor.specs.Walk.{cap, cursor_of, moved, State, state, low, noted, entered, field_entered, byte_entered, walked, unused_place, count_fault}
use Rattle.editor.proofs.Entering.{cap_twice, noted-alike, passes-any, missing_entered}

-- the place of an unused width's fault
pub unused_next : (p v r : ℕ) → v % 256 ≡ 0 → r ≡ cap (p + 1) → r ≡ unused_place p v
unused_next p v r h e = e ∙ sym (ap (λ (b : Bool). elim b as (λ x. ℕ) [ true ↦ cap (p + 1) | false ↦ p ]) (eq-eqb (v % 256) 0 h))

pub unused_first : (p v : ℕ) → (v % 256 ≡ 0 → ⊥) → p ≡ unused_place p v
unused_first p v h = sym (ap (λ (b : Bool). elim b as (λ x. ℕ) [ true ↦ cap (p + 1) | false ↦ p ]) (ne_eqb (v % 256) 0 h))

-- ---- a field of one byte

-- nothing is entered where the number was missing
module _ (ns ts : List ℕ) (w r : Walk) (d : List ℕ) (taken : r ≡ moved (number_at ns (cursor_of w)).after w) (m : r.missing ≡ true) where
  pub byte_lacking : (good : ℕ → Bool) (n : ℕ) → state r d ≡ byte_entered good n ns (state w d)
  unfolding byte_entered
  byte_lacking good n =
      let v = (number_at ns (cursor_of w)).value in
      missing_entered (passes (good v) n w.place 0) (low v ∷ []) r d m ∙ rw taken

  pub word_lacking : (most : ℕ) → state r d ≡ walked (word_to most) ns ts (state w d)
  unfolding walked field_entered takes
  word_lacking most =
      let v = (number_at ns (cursor_of w)).value in
      missing_entered (judges (word_to most) v w.place) (map low (writes (word_to most) v)) r d m ∙ rw taken

  pub zeros_lacking : state r d ≡ walked zero_word ns ts (state w d)
  unfolding walked field_entered takes
  zeros_lacking =
      let v = (number_at ns (cursor_of w)).value in
      missing_entered (judges zero_word v w.place) (map low (writes zero_word v)) r d m ∙ rw taken

  pub count_lacking : (columns : ℕ) → state r d ≡ walked (cell_count columns) ns ts (state w d)
  unfolding walked field_entered takes
  count_lacking columns =
      let v = (number_at ns (cursor_of w)).value in
      missing_entered (judges (cell_count columns) v w.place) (map low (writes (cell_count columns) v)) r d m ∙ rw taken

-- entered with the number that was taken
pub byte_steps : (good : ℕ → Bool) (n : ℕ) (ns : List ℕ) (w : Walk) (d : List ℕ)
    → byte_entered good n ns (state w d)
    ≡ entered (passes (good (number_at ns (cursor_of w)).value) n w.place 0) (low (number_at ns (cursor_of w)).value ∷ [])
    (state (moved (number_at ns (cursor_of w)).after w) d)
unfolding byte_entered
byte_steps good n ns w d = refl

-- what it comes to, whatever the test and the fault
pub byte-walked : (good : ℕ → Bool) (fault : Fault) (ns ts : List ℕ) (s : State)
    → byte_entered good (number_of fault) ns s ≡ walked (only good fault byte) ns ts s
unfolding byte_entered walked field_entered takes judges writes thence
byte-walked good fault ns ts s =
    let g = number_at ns (cursor_of s.walk) in
    let p = s.walk.place in
    let b = good g.value in
    noted-alike (passes b (number_of fault) p 0) (passes b (number_of fault) p (p + 1)) (passes-any b (number_of fault) p 0 (p + 1))
    (low g.value ∷ []) (state (moved g.after s.walk) s.sheet)

-- ---- other fields of one number

-- an unused width: the code's test of the whole value and the definition's of its two bytes
both_zero : (v : ℕ) → eqb v 0 ≡ (eqb (v % 256) 0 && eqb (v / 256) 0)
both_zero v = go (eqb (v % 256) 0) refl (eqb (v / 256) 0) refl
  where
    go : (a : Bool) → eqb (v % 256) 0 ≡ a → (b : Bool) → eqb (v / 256) 0 ≡ b → eqb v 0 ≡ (a && b)
    go true h true k = eq-eqb v 0 (omega (arith, eqb-true (v % 256) 0 h, eqb-true (v / 256) 0 k))
    go true h false k = ne_eqb v 0 (λ e. eqb-false (v / 256) 0 k (omega (arith, e)))
    go false h b k = ne_eqb v 0 (λ e. eqb-false (v % 256) 0 h (omega (arith, e)))

bytes-noted : (a b : Bool) (p : ℕ) (w : Walk)
    → noted (passes (a && b) 8 (elim a as (λ x. ℕ) [ true ↦ cap (p + 1) | false ↦ p ]) 0) w
    ≡ noted (thence (passes a 8 p (p + 1)) (λ q. passes b 8 q (q + 1))) w
unfolding thence passes noted
bytes-noted true true p w = refl
bytes-noted true false p w = rw (cap_twice (p + 1))
bytes-noted false b p w = refl

unused-noted : (v p : ℕ) (w : Walk) → noted (passes (eqb v 0) 8 (unused_place p v) 0) w ≡ noted (judges zero_word v p) w
unfolding judges
unused-noted v p w = rw (both_zero v) (bytes-noted (eqb (v % 256) 0) (eqb (v / 256) 0) p w)

-- a cell count: the limit before the columns
count-noted : (a b : Bool) (p q : ℕ) (w : Walk) → noted (passes (a && b) (count_fault a) p 0) w ≡ noted (thence (passes a 5 p q) (passes b 7 p)) w
unfolding thence passes noted
count-noted true true p q w = refl
count-noted true false p q w = refl
count-noted false b p q w = refl

-- what the code finds of it
module _ (v columns p : ℕ) where
  abbrev judged : Step
  judged = passes (between 0 most_columns v && between 0 columns v) (count_fault (between 0 most_columns v)) p 0

  within : (high : ℕ) → v ≤ high → between 0 high v ≡ true
  within high h = rw (le-leb 0 v (omega arith), le-leb v high h)

  beyond : (high : ℕ) → high < v → between 0 high v ≡ false
  beyond high h = rw (le-leb 0 v (omega arith), lt-leb v high h)

  pub count_high : most_columns < v → Refused 5 p ≡ judged
  unfolding passes
  count_high h = rw (beyond most_columns h)

  pub count_more : v ≤ most_columns → columns < v → Refused 7 p ≡ judged
  unfolding passes
  count_more h k = rw (within most_columns h, beyond columns k)

  pub count_fine : v ≤ most_columns → v ≤ columns → At 0 ≡ judged
  unfolding passes
  count_fine h k = rw (within most_columns h, within columns k)

-- what was taken and entered is what the description says, where it is noted as the code noted it
module _ (ns ts : List ℕ) (w r u : Walk) (d e : List ℕ) (v : ℕ) (f : v ≡ (number_at ns (cursor_of w)).value) (g : r ≡ moved (number_at ns (cursor_of w)).after w) where
  pub word_entered : (b : Bool) (most : ℕ) → b ≡ leb v most
      → state u e ≡ entered (passes b 5 r.place 0) (map low (writes word v)) (state r d) → state u e ≡ walked (word_to most) ns ts (state w d)
  unfolding walked field_entered takes judges writes thence
  word_entered b most h k =
      let p = w.place in
      let n = (number_at ns (cursor_of w)).value in
      k ∙ rw (h, g, f, le-leb 0 n (omega arith))
      (noted-alike (passes (leb n most) 5 p 0) (passes (leb n most) 5 p (p + 2)) (passes-any (leb n most) 5 p 0 (p + 2))
      (map low (writes word n)) (state (moved (number_at ns (cursor_of w)).after w) d))

  pub zeros_entered : (b : Bool) (q : ℕ) → b ≡ eqb v 0 → q ≡ unused_place r.place v
      → state u e ≡ entered (passes b 8 q 0) (map low (writes word v)) (state r d) → state u e ≡ walked zero_word ns ts (state w d)
  unfolding walked field_entered takes judges writes
  zeros_entered b q h i k =
      let p = w.place in
      let n = (number_at ns (cursor_of w)).value in
      k ∙ rw (h, i, g, f)
      (noted-alike (passes (eqb n 0) 8 (unused_place p n) 0) (judges zero_word n p) (unused-noted n p)
      (map low (writes word n)) (state (moved (number_at ns (cursor_of w)).after w) d))

  pub count_entered : (a b : Bool) (m columns : ℕ) → a ≡ between 0 most_columns v → b ≡ (a && between 0 columns v) → m ≡ count_fault a
      → state u e ≡ entered (passes b m r.place 0) (v % 256 ∷ []) (state r d) → state u e ≡ walked (cell_count columns) ns ts (state w d)
  unfolding walked field_entered takes judges writes thence
  count_entered a b m columns h i j k =
      let p = w.place in
      let n = (number_at ns (cursor_of w)).value in
      let x = between 0 most_columns n in
      let y = between 0 columns n in
      k ∙ rw (j, i, h, g, f)
      (noted-alike (passes (x && y) (count_fault x) p 0) (judges (cell_count columns) n p) (count-noted x y p (p + 1))
      (low n ∷ []) (state (moved (number_at ns (cursor_of w)).after w) d))

-- the same as equations
module _ (ns ts : List ℕ) (w : Walk) (d : List ℕ) where
  abbrev given : ℕ
  given = (number_at ns (cursor_of w)).value

  abbrev behind : State
  behind = state (moved (number_at ns (cursor_of w)).after w) d

  pub word_steps : (most : ℕ) → walked (word_to most) ns ts (state w d) ≡ entered (passes (leb given most) 5 w.place 0) (map low (writes word given)) behind
  word_steps most =
      let x = entered (passes (leb given most) 5 w.place 0) (map low (writes word given)) behind in
      sym (word_entered ns ts w behind.walk x.walk d x.sheet given refl refl (leb given most) most refl refl)

  pub zeros_steps : walked zero_word ns ts (state w d) ≡ entered (passes (eqb given 0) 8 (unused_place w.place given) 0) (map low (writes word given)) behind
  zeros_steps =
      let x = entered (passes (eqb given 0) 8 (unused_place w.place given) 0) (map low (writes word given)) behind in
      sym (zeros_entered ns ts w behind.walk x.walk d x.sheet given refl refl (eqb given 0) (unused_place w.place given) refl refl refl)

  pub count_steps : (columns : ℕ) → walked (cell_count columns) ns ts (state w d)
      ≡ entered (passes (between 0 most_columns given && between 0 columns given) (count_fault (between 0 most_columns given)) w.place 0) (low given ∷ []) behind
  count_steps columns =
      let a = between 0 most_columns given in
      let x = entered (passes (a && between 0 columns given) (count_fault a) w.place 0) (low given ∷ []) behind in
      sym (count_entered ns ts w behind.walk x.walk d x.sheet given refl refl a (a && between 0 columns given) (count_fault a) columns refl refl refl refl)
