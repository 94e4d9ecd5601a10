-- A layout that is read from a sheet describes its table, and what is arranged by it is the table's widths. Assumes nothing.
use Prim.Native.Nat.{ℕ, zero, suc, ◌≤◌, ◌<◌}
use mathlib.Core.Path.{◌≡◌, refl, sym, ap, ◌∙◌}
use mathlib.Core.List.{List, [], map}
use mathlib.Core.Bool.{false}
use native.Mathlib.Omega.{arith}
use lib.ListN.{length, get_or, set, replicate, length-map}
use Rattle.arrayvec.specs.ArrayVec.{ArrayVec}
use Rattle.rules.specs.declared.Column.{Column}
use Rattle.rules.specs.Text.{up_from}
use Rattle.rules.specs.Sheet.{Table, most_columns, no_column, column_at, is_hidden}
use Rattle.rules.specs.Limits.{TableLimits}
use Rattle.rules.specs.Calls.{as_array}
use Rattle.rules.specs.Widths as doc
use Rattle.rules.specs.Widths.{longest_part, contents}
use Rattle.laws.proofs.Lists.{get_d_map, get_d-up_from, length-up_from, map_below}
use Rattle.style.proofs.Front.{set_padded}
use Rattle.table.specs.Held.{IsAccepted, table_of, columns_of}
use Rattle.constraint.specs.declared.Layout.{Layout}
use Rattle.constraint.specs.Widths.{in_order, column}
use Rattle.arrangement.specs.declared.Widths.{Widths}
use Rattle.arrangement.specs.declared.dynamic.Course.{Course}
use Rattle.arrangement.specs.declared.Found.{Found}
use Rattle.arrangement.specs.Arrange.{arranged}
use Rattle.arrangement.specs.Courses.{FoundIs}
use Rattle.arrangement.specs.Describes.{Describes}
use Rattle.arrangement.specs.Widths.{marked, widths_from, arranged_widths}
use Rattle.arrangement.proofs.Offers.{count_as, hidden_as}
use Rattle.arrangement.proofs.Arranged.{arranged-contents, limits_held, few_held}
use Rattle.arrangement.proofs.Placed.{map_last}

module _ (t : Table) (limits : TableLimits t) (x : ArrayVec Column) (columns : x ≡ columns_of t) where
  columns-count : length x.items ≡ length t.columns
  unfolding columns_of
  columns-count = ap (λ (y : ArrayVec Column). length y.items) columns

  -- no more columns than there can be
  pub count_fits : length x.items ≤ most_columns
  count_fits = omega (arith, columns-count, limits.columns)

  pub column-at : (j : ℕ) → get_or x.items j no_column ≡ column_at t j
  unfolding columns_of
  column-at j = ap (λ (y : ArrayVec Column). get_or y.items j no_column) columns

-- the longest lines, where the sheet's columns are no more than there can be
pub longest_read : (t : Table) → length t.columns ≤ most_columns → (ns : List ℕ) → ns ≡ map (doc.longest t) (up_from 0 most_columns)
    → (j : ℕ) → j < length t.columns → get_or ns j 0 ≡ doc.longest t j
longest_read t few ns e j h =
    rw e (get_d_map (doc.longest t) (up_from 0 most_columns) j 0 0 (omega (arith, length-up_from 0 most_columns))
    ∙ ap (doc.longest t) (get_d-up_from 0 most_columns j 0 (omega arith) ∙ omega arith))

-- entries set one after another
none_padded : {A : Type 0} (a : A) → replicate most_columns a ≡ as_array a []
unfolding as_array
none_padded a = refl

entries_none : {A : Type 0} (p : ℕ → A) → map p (up_from 0 0) ≡ []
unfolding up_from
entries_none p = refl

entries_padded : {A : Type 0} (a : A) (p : ℕ → A) (n : ℕ) → n ≤ most_columns
    → in_order (λ i xs. set xs i (p i)) n (replicate most_columns a) ≡ as_array a (map p (up_from 0 n))
unfolding in_order
entries_padded a p zero h = none_padded a ∙ ap (as_array a) (sym (entries_none p))
entries_padded {A} a p (suc n) h =
    let k : length (map p (up_from 0 n)) ≡ n = length-map (up_from 0 n) p ∙ length-up_from 0 n in
    ap (λ (xs : List A). set xs n (p n)) (entries_padded a p n (omega arith)) ∙ set_padded a n (map p (up_from 0 n)) (p n) k h
    ∙ ap (as_array a) (sym (map_last p n))

module _ (l : Layout) (t : Table) (d : Describes l t) (few : length l.columns.items ≤ most_columns) where
  -- an entry for each column
  pub entries_as : {A : Type 0} (a : A) (p q : ℕ → A) → ((j : ℕ) → j < length l.columns.items → p j ≡ q j)
      → in_order (λ i xs. set xs i (p i)) (length l.columns.items) (replicate most_columns a) ≡ as_array a (map q (doc.numbers t))
  unfolding doc.numbers
  entries_as {A} a p q h =
      let one = map_below p q 0 (length l.columns.items) (length l.columns.items) (omega arith) h in
      let all = ap (λ (n : ℕ). map q (up_from 0 n)) (count_as l t d) in
      entries_padded a p (length l.columns.items) few ∙ ap (as_array a) (one ∙ all)

  marked_as : marked l ≡ as_array false (map (λ j. is_hidden (column_at t j)) (doc.numbers t))
  marked_as = entries_as false (λ j. is_hidden (column l j)) (λ j. is_hidden (column_at t j)) (λ j h. hidden_as l t d j)

  -- what is answered
  pub widths-at : (c : Course) (w : Widths) → c ≡ arranged (longest_part t) l → w ≡ widths_from l c → w ≡ arranged_widths t
  unfolding arranged_widths
  widths-at c w e f =
      let content : c.state.widths ≡ as_array 0 (contents t) =
      ap (λ (z : Course). z.state.widths) e ∙ arranged-contents l t d few (longest_part t) (λ j a h. refl) in
      f ∙ rw (content, marked_as, count_as l t d)

-- of an accepted sheet
module _ (s : List ℕ) (accepted : IsAccepted s) where
  pub longest_held : (ns : List ℕ) → ns ≡ map (doc.longest (table_of s)) (up_from 0 most_columns)
      → (j : ℕ) → j < length (table_of s).columns → get_or ns j 0 ≡ doc.longest (table_of s) j
  longest_held = longest_read (table_of s) (limits_held s accepted).columns

  module _ (a : Found) (f : FoundIs (table_of s) a) where
    pub widths_found : (w : Widths) → w ≡ widths_from a.layout a.course → w ≡ arranged_widths (table_of s)
    widths_found w e = widths-at a.layout (table_of s) f.describes (few_held s accepted a.layout f.describes) a.course w f.course e
