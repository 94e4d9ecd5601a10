-- What the numbers of texts, tables and sheets choose. Assumes nothing.
use Prim.Native.Nat.{ℕ, zero, suc, ◌+◌, ◌*◌, ◌-◌, ◌/◌, ◌%◌, ◌^◌, ◌≤◌, ◌<◌}
use mathlib.Core.Path.{◌≡◌, refl, ap, sym, ◌∙◌}
use mathlib.Core.List.{List, [], ◌∷◌, ◌++◌}
use native.Mathlib.Nat.{pow-suc, one-le-pow, div-one, mod-one, div-lt_iff_lt-mul, mod-lt}
use native.Mathlib.Omega.{arith}
use lib.ListN.{length, get_or, get_or-append}
use lib.Seq.{get_or-append-add}
use Rattle.std.specs.Prelude.{Some, None}
use Rattle.rules.specs.Text.{up_from, flat}
use Rattle.laws.proofs.Lists.{get_d_map, get_d-up_from}
use Rattle.small.specs.Listing.{each, choices, letters, texts, table_of, tables_with, no_table}
use Rattle.small_sheets.specs.Chosen.{Text, Place, Choice, text_is, IsTextAt, texts_is, IsPlace, ChoiceAt, IsChoice}
use Rattle.small_sheets.proofs.Choices.{each_at, choices-at, length-choices}
use Rattle.small_sheets.proofs.Tables.{of_target, of_arrangement, target-count, arrangement-count, texts-count, one-row-count}
use Rattle.small_sheets.proofs.Promised.{one-column-count, tables_are}

-- ---- texts

-- of two lists, one after the other
first_list : {A : Type 0} (l m : List A) (n k : ℕ) (d : A) → length l ≡ n → k < n → get_or (l ++ m) k d ≡ get_or l k d
first_list l m n k d e h = get_or-append l m d k (rw e h)

later_list : {A : Type 0} (l m : List A) (n k : ℕ) (d : A) → length l ≡ n → n ≤ k → get_or (l ++ m) k d ≡ get_or m (k - n) d
later_list l m n k d e h =
    let z : k ≡ length l + (k - n) = rw e (omega arith) in
    ap (λ i. get_or (l ++ m) i d) z ∙ get_or-append-add l m (k - n) d

-- each length has twice as many texts as the one before
pub letters-count : (n : ℕ) → length (choices letters n) ≡ 2 ^ n
unfolding choices
letters-count zero = refl
letters-count (suc n) = length-choices letters n ∙ rw (letters-count n) (omega (arith, pow-suc 2 n))

-- the texts of length i and more, by their lengths up to 4; j is the number among these of text k of all
abbrev longer : ℕ → ℕ → List (List ℕ)
longer i m = each (up_from i m) (λ n. choices letters n)

abbrev Found : ℕ → ℕ → ℕ → ℕ → Type 0
Found k i m j = get_or texts k [] ≡ get_or (longer i m) j []

begin : (k : ℕ) → Found k 0 5 k
unfolding texts
begin k = refl

-- past those of length i
further : (k i m j : ℕ) → 2 ^ i ≤ j → Found k i (suc m) j → Found k (suc i) m (j - 2 ^ i)
unfolding each up_from flat
further k i m j h e = e ∙ later_list (choices letters i) (longer (suc i) m) (2 ^ i) j [] (letters-count i) h

-- one of length i
found : (k i m j : ℕ) (t : Text) → j < 2 ^ i → t.length ≡ i → t.number ≡ j → Found k i (suc m) j → IsTextAt k t
unfolding text_is each up_from flat
found k i m j t h e f g =
    rw (e, f) (sym (g ∙ first_list (choices letters i) (longer (suc i) m) (2 ^ i) j [] (letters-count i) h))

module _ (k : ℕ) (t : Text) where
  pub text_0 : t.length ≡ 0 → t.number ≡ k → k < 1 → IsTextAt k t
  text_0 e f h = found k 0 4 k t h e f (begin k)

  from_1 : 1 ≤ k → Found k 1 4 (k - 1)
  from_1 h = further k 0 4 k h (begin k)

  pub text_1 : t.length ≡ 1 → t.number ≡ k - 1 → 1 ≤ k → k < 3 → IsTextAt k t
  text_1 e f h l = found k 1 3 (k - 1) t (omega arith) e f (from_1 h)

  from_2 : 3 ≤ k → Found k 2 3 (k - 1 - 2)
  from_2 h = further k 1 3 (k - 1) (omega arith) (from_1 (omega arith))

  pub text_2 : t.length ≡ 2 → t.number ≡ k - 3 → 3 ≤ k → k < 7 → IsTextAt k t
  text_2 e f h l = found k 2 2 (k - 1 - 2) t (omega arith) e (omega (arith, f)) (from_2 h)

  from_3 : 7 ≤ k → Found k 3 2 (k - 1 - 2 - 4)
  from_3 h = further k 2 2 (k - 1 - 2) (omega arith) (from_2 (omega arith))

  pub text_3 : t.length ≡ 3 → t.number ≡ k - 7 → 7 ≤ k → k < 15 → IsTextAt k t
  text_3 e f h l = found k 3 1 (k - 1 - 2 - 4) t (omega arith) e (omega (arith, f)) (from_3 h)

  from_4 : 15 ≤ k → Found k 4 1 (k - 1 - 2 - 4 - 8)
  from_4 h = further k 3 1 (k - 1 - 2 - 4) (omega arith) (from_3 (omega arith))

  pub text_4 : t.length ≡ 4 → t.number ≡ k - 15 → 15 ≤ k → k < 31 → IsTextAt k t
  text_4 e f h l = found k 4 0 (k - 1 - 2 - 4 - 8) t (omega arith) e (omega (arith, f)) (from_4 h)

-- a text of a letter more: the first letter, and the others
pub text-first : (n v : ℕ) → v < 2 ^ suc n
    → get_or (choices letters (suc n)) v [] ≡ get_or letters (v / 2 ^ n) 97 ∷ get_or (choices letters n) (v % 2 ^ n) []
text-first n v h = choices-at letters n (2 ^ n) v 97 (letters-count n) (one-le-pow n 2 (omega arith)) (omega (arith, h, pow-suc 2 n))

-- ---- rows of texts

pub row_of-one : (k : ℕ) → k < 31 → get_or (choices texts 1) k [] ≡ get_or texts k [] ∷ []
unfolding choices
row_of-one k h =
    choices-at texts 0 1 k [] refl (omega arith) (rw texts-count (omega arith))
    ∙ rw (div-one k, mod-one k)

pub row_of_two : (k : ℕ) → k < 961 → get_or (choices texts 2) k [] ≡ get_or texts (k / 31) [] ∷ get_or texts (k % 31) [] ∷ []
row_of_two k h =
    choices-at texts 1 31 k [] one-row-count (omega arith) (rw texts-count h)
    ∙ ap (λ l. get_or texts (k / 31) [] ∷ l) (row_of-one (k % 31) (omega arith))

-- ---- tables

module _ (columns rows m : ℕ) (e : rows ≡ length (choices texts columns)) (pos : 0 < rows) (h : m < 3 * (11 * rows)) where
  abbrev arrangement : ℕ
  arrangement = m / (11 * rows)

  abbrev rest : ℕ
  rest = m % (11 * rows)

  abbrev target : ℕ
  target = rest / rows

  some : 0 < 11 * rows
  some = omega (arith, pos)

  arrangement_below : arrangement < 3
  arrangement_below = (div-lt_iff_lt-mul some).1 h

  target_below : target < 11
  target_below = (div-lt_iff_lt-mul pos).1 (mod-lt m some)

  row_below : rest % rows < length (choices texts columns)
  row_below = rw (← e) (mod-lt rest pos)

  arranged : get_or (tables_with columns) m no_table ≡ get_or (of_arrangement columns arrangement) rest no_table
  unfolding tables_with up_from
  arranged =
      let z : 0 + arrangement ≡ arrangement = omega arith in
      each_at (λ a. of_arrangement columns a) (11 * rows) (λ a. arrangement-count columns a ∙ ap (λ k. 11 * k) (sym e)) (up_from 0 3) m 0 no_table some h
      ∙ ap (λ a. get_or (of_arrangement columns a) rest no_table) (get_d-up_from 0 3 arrangement 0 arrangement_below ∙ z)

  targeted : get_or (of_arrangement columns arrangement) rest no_table ≡ get_or (of_target columns arrangement target) (rest % rows) no_table
  unfolding up_from
  targeted =
      let z : 0 + target ≡ target = omega arith in
      each_at (λ w. of_target columns arrangement w) rows (λ w. target-count columns arrangement w ∙ sym e) (up_from 0 11) rest 0 no_table pos
      (mod-lt m some)
      ∙ ap (λ w. get_or (of_target columns arrangement w) (rest % rows) no_table) (get_d-up_from 0 11 target 0 target_below ∙ z)

  pub place_is : (p : Place) → p.arrangement ≡ arrangement → p.target ≡ target → p.row ≡ rest % rows → IsPlace columns m p
  place_is p e₁ e₂ e₃ = record {
    table = rw (e₁, e₂, e₃) (arranged ∙ (targeted ∙ get_d_map (λ xs. table_of arrangement target xs) (choices texts columns) (rest % rows) [] no_table row_below));
    row = rw e₃ row_below;
  }

-- ---- sheets

same-table : {a b v w : ℕ} {xs ys : List (List ℕ)} → a ≡ b → v ≡ w → xs ≡ ys → table_of a v xs ≡ table_of b w ys
same-table e f g = cc

chosen-table : (n : ℕ) (p : Place) (c : Choice) → ChoiceAt n p c
    → table_of p.arrangement p.target (get_or (choices texts n) p.row []) ≡ table_of c.arrangement c.target (texts_is c)
chosen-table n p c h = same-table (sym h.arrangement) (sym h.target) (sym h.row)

pub one_choice : (n : ℕ) (p : Place) (c : Choice) → n < 1023 → IsPlace 1 n p → ChoiceAt 1 p c → IsChoice n c
one_choice n p c l i h =
    rw tables_are (first_list (tables_with 1) (tables_with 2) 1023 n no_table one-column-count l ∙ (i.table ∙ chosen-table 1 p c h))

pub two_choice : (n : ℕ) (p : Place) (c : Choice) → 1023 ≤ n → IsPlace 2 (n - 1023) p → ChoiceAt 2 p c → IsChoice n c
two_choice n p c l i h =
    rw tables_are (later_list (tables_with 1) (tables_with 2) 1023 n no_table one-column-count l ∙ (i.table ∙ chosen-table 2 p c h))

module _ (p : Place) (c : Choice) (arrangement : c.arrangement ≡ p.arrangement) (target : c.target ≡ p.target) where
  pub chosen-one : c.second ≡ None → p.row < 31 → IsTextAt p.row c.first → ChoiceAt 1 p c
  unfolding texts_is
  chosen-one e l h = record {
    columns = rw e refl;
    arrangement = arrangement;
    target = target;
    row = rw e (ap (λ x. x ∷ []) h ∙ sym (row_of-one p.row l));
  }

  pub chosen_two : (u : Text) → c.second ≡ Some u → p.row < 961 → IsTextAt (p.row / 31) c.first → IsTextAt (p.row % 31) u → ChoiceAt 2 p c
  unfolding texts_is
  chosen_two u e l h k = record {
    columns = rw e refl;
    arrangement = arrangement;
    target = target;
    row = rw (e, h, k) (sym (row_of_two p.row l));
  }
