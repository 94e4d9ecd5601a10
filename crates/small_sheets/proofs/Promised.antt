-- Each small sheet is accepted and of the family, is listed once, and none of the family is missing. Assumes nothing.
use Prim.Native.Nat.{ℕ, ◌<◌}
use mathlib.Core.Path.{◌≡◌, refl, ap, sym, subst, ◌∙◌}
use mathlib.Core.Logic.{◌⊎◌, inl, inr}
use mathlib.Core.List.{List, [], ◌++◌, append-nil}
use lib.ListN.{length, get_or, length-append, length-map}
use Rattle.rules.specs.Text.{flat, All}
use Rattle.rules.specs.Sheet.{Table}
use Rattle.rules.specs.Field.{Read, got, refused}
use Rattle.rules.specs.Format.{sheet, written}
use Rattle.laws.proofs.Lists.{all_places, get_d_map}
use Rattle.laws.proofs.Accepted.{accepted_limits}
use Rattle.laws.proofs.Writing.{accepted-written}
use Rattle.small.specs.Family.{InFamily}
use Rattle.small.specs.Listing.{each, tables_with, tables, sheets, no_table}
use Rattle.small.specs.Promise.{Listed, Promise}
use Rattle.small_sheets.proofs.Choices.{In, get_d_in, in_number, once_number}
use Rattle.small_sheets.proofs.Tables.{MadeWith, columns_of, tables-made, made-tables, once-tables, small-made, with-count, one-row-count, two_rows-count}
use Rattle.small_sheets.proofs.Bytes.{Good, made_good}

pub one-column-count : length (tables_with 1) ≡ 1023
one-column-count = with-count 1 ∙ rw one-row-count

pub two_columns-count : length (tables_with 2) ≡ 31713
two_columns-count = with-count 2 ∙ rw two_rows-count

-- each has so many columns
with_columns : (n : ℕ) → All (λ (t : Table). length t.columns ≡ n) (tables_with n)
with_columns n =
    all_places (λ (t : Table). length t.columns ≡ n) (tables_with n) no_table
    (λ i l. sym (columns_of n (get_or (tables_with n) i no_table) (get_d_in (tables_with n) i no_table l)))

-- those with one column, then those with two
pub tables_are : tables ≡ tables_with 1 ++ tables_with 2
unfolding tables each flat
tables_are = rw (append-nil (tables_with 2))

pub tables-count : length tables ≡ 32736
tables-count = rw tables_are (length-append (tables_with 1) (tables_with 2) ∙ rw (one-column-count, two_columns-count))

pub sheets-count : length sheets ≡ 32736
unfolding sheets
sheets-count = length-map tables written ∙ tables-count

-- sheet n is that of table n
pub sheet_of : (n : ℕ) → n < 32736 → get_or sheets n [] ≡ written (get_or tables n no_table)
unfolding sheets
sheet_of n h = get_d_map written tables n no_table [] (rw tables-count h)

number_in : (n : ℕ) → n < 32736 → In (get_or tables n no_table) tables
number_in n h = get_d_in tables n no_table (rw tables-count h)

pub table_good : (n : ℕ) → n < 32736 → Good (get_or tables n no_table)
table_good n h = go (tables-made (get_or tables n no_table) (number_in n h))
  where
    go : MadeWith 1 (get_or tables n no_table) ⊎ MadeWith 2 (get_or tables n no_table) → Good (get_or tables n no_table)
    go (inl m) = made_good 1 (get_or tables n no_table) (inl refl) m
    go (inr m) = made_good 2 (get_or tables n no_table) (inr refl) m

family-at : (n : ℕ) → n < 32736 → InFamily (get_or sheets n [])
family-at n h = rw (sheet_of n h) (table_good n h).family

-- the table of an accepted sheet
abbrev table_in : Read Table → Table
table_in (got t q) = t
table_in (refused n q) = no_table

once-at : (m n : ℕ) → m < 32736 → n < 32736 → get_or sheets m [] ≡ get_or sheets n [] → m ≡ n
once-at m n h k e =
    let one : written (get_or tables m no_table) ≡ written (get_or tables n no_table) = sym (sheet_of m h) ∙ (e ∙ sheet_of n k) in
    let read = sym (table_good m h).accepted ∙ (ap sheet one ∙ (table_good n k).accepted) in
    once_number no_table tables once-tables m n (rw tables-count h) (rw tables-count k) (ap table_in read)

complete : (s : List ℕ) → InFamily s → Listed s
complete s f =
    let t = f.table in
    let limits = accepted_limits s t f.accepted.end f.accepted.reads in
    let place = in_number no_table tables t (listed (small-made t f.small limits)) in
    let low : place.at < 32736 = rw tables-count at place.below in
    record {
      number = place.at;
      below = rw sheets-count low;
      is = sheet_of place.at low ∙ (ap written place.is ∙ sym (accepted-written s t f.accepted.end f.bytes f.accepted.reads));
    }
  where
    listed : MadeWith (length f.table.columns) f.table → In f.table tables
    listed m = go f.small.columns
      where
        go : (length f.table.columns ≡ 1) ⊎ (length f.table.columns ≡ 2) → In f.table tables
        go (inl e) = made-tables f.table (inl (subst (λ n. MadeWith n f.table) e m))
        go (inr e) = made-tables f.table (inr (subst (λ n. MadeWith n f.table) e m))

pub promise : Promise
promise = record {
  count = sheets-count;
  one_column = one-column-count;
  two_columns = two_columns-count;
  columns = with_columns;
  accepted = λ n h. family-at n (rw sheets-count at h);
  once = λ m n h k e. once-at m n (rw sheets-count at h) (rw sheets-count at k) e;
  complete = complete;
}
