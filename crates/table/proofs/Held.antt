-- The table of a sheet that is accepted stands in its bytes. Assumes nothing.
use Prim.Native.Nat.{ℕ, ◌+◌, ◌-◌, ◌*◌, ◌≤◌, ◌<◌}
use mathlib.Core.Path.{◌≡◌, ap, sym, ◌∙◌}
use mathlib.Core.List.{List}
use native.Mathlib.Omega.{arith}
use lib.ListN.{length, get_or, take, drop}
use Rattle.rules.specs.Sheet.{Table, no_column, most_columns}
use Rattle.rules.specs.declared.Column.{Column}
use Rattle.rules.specs.Field.{got}
use Rattle.rules.specs.Description as description
use Rattle.rules.specs.Format.{table_by, sheet}
use Rattle.rules.specs.Calls.{check}
use Rattle.rules.specs.declared.Checked.{Checked}
use Rattle.rules.specs.Places.{byte_at, word_at, text_at, column_here, columns_place, header_place, rows_place, style_place, line_stop, table_here}
use Rattle.laws.proofs.Accepted.{accepted, accepted_limits, accepted_places, checked-reading}
use Rattle.laws.proofs.Stands as stands
use Rattle.arrayvec.specs.ArrayVec.{ArrayVec}
use Rattle.table.proofs.Copies.{Copied, copied_done}
use Rattle.table.specs.Held.{IsAccepted, table_of, settings_of, columns_of}

-- a caller that has asked the check knows that the sheet is accepted
pub is_accepted : (s : List ℕ) (r : Checked) → r ≡ check s → r.number ≡ 0 → IsAccepted s
is_accepted s r e h = ap (λ (x : Checked). x.number) (sym e) ∙ h

-- the definition reads that table
pub record Held (s : List ℕ) : Type 0 where
  pub end : ℕ
  pub reads : sheet s ≡ got (table_of s) end

pub held : (s : List ℕ) → IsAccepted s → Held s
unfolding table_of
held s h = let r = checked-reading s h in let e = r.reads in record { end = r.end; reads = rw e }

pub table_here_lem : (s : List ℕ) → IsAccepted s → table_of s ≡ table_here s
table_here_lem s h = let r = held s h in (accepted_places s (table_of s) r.end r.reads).0

-- where the sections stand, what they count, and how long the sheet may be
pub record Room (s : List ℕ) : Type 0 where
  pub short : length s ≤ 32768
  pub indicator : byte_at s 5 ≤ 8
  pub style_at : style_place s ≡ 6 + byte_at s 5
  pub style : byte_at s (style_place s) ≡ 22
  pub columns_at : columns_place s ≡ style_place s + 23
  pub columns : byte_at s (columns_place s) ≤ most_columns
  pub header_at : header_place s ≡ columns_place s + 1 + 11 * byte_at s (columns_place s)
  pub rows : header_place s + 1 ≤ rows_place s
  pub inside : rows_place s + 1 ≤ length s

pub room : (s : List ℕ) → IsAccepted s → Room s
unfolding line_stop
room s h =
    let r = held s h in
    let t = table_of s in
    let l = accepted_limits s t r.end r.reads in
    let n = stands.column-count s t r.end r.reads in
    let i = ap (λ (u : Table). length u.indicator) (table_here_lem s h) ∙ ap length (stands.indicator-here s) in
    let style_at = stands.style-place s in
    let columns_at = stands.columns-place s t r.end r.reads in
    let header_at = stands.header-place s in
    let rows = stands.header_inside s t r.end r.reads in
    let inside = stands.rows_inside s t r.end r.reads in
    let text : length (text_at s 5) ≡ byte_at s 5 = stands.text-length s 5 (omega arith) in
    record {
      short = (accepted s t r.end r.reads).short;
      indicator = omega (arith, l.indicator);
      style_at = style_at;
      style = stands.style-count s t r.end r.reads;
      columns_at = columns_at;
      columns = omega (arith, l.columns);
      header_at = header_at;
      rows = rows;
      inside = inside;
    }

-- the header's count stands behind the columns
pub header_at : (s : List ℕ) (p n : ℕ) → IsAccepted s → p ≡ columns_place s → n ≡ byte_at s p → p + 1 + 11 * n ≡ header_place s
header_at s p n h e i = let r = room s h in let j = rw e at i in omega (arith, r.header_at)

-- what stands where, as the code reads it
pub settings-held : (s : List ℕ) → IsAccepted s → record { arrangement = byte_at s 1; target = word_at s 2; delimiter = byte_at s 4 } ≡ settings_of
    (table_of s)
unfolding settings_of table_here description.stands table_by
settings-held s h = rw (table_here_lem s h)

pub indicator-held : (s : List ℕ) → IsAccepted s → (table_of s).indicator ≡ text_at s 5
indicator-held s h = rw (table_here_lem s h) (stands.indicator-here s)

pub style-held : (s : List ℕ) → IsAccepted s → (table_of s).style ≡ text_at s (style_place s)
style-held s h = rw (table_here_lem s h) (stands.style-here s)

-- the same as the code lends them
pub indicator-lent : (s : List ℕ) (n : ℕ) → IsAccepted s → n ≡ byte_at s 5 → take (6 + n - 6) (drop 6 s) ≡ (table_of s).indicator
unfolding text_at
indicator-lent s n h e = let z : 6 + n - 6 ≡ n = omega arith in rw (z, e) (sym (indicator-held s h))

pub style-lent : (s : List ℕ) (p : ℕ) → IsAccepted s → p ≡ style_place s → take (p + 1 + 22 - (p + 1)) (drop (p + 1) s) ≡ (table_of s).style
unfolding text_at
style-lent s p h e =
    let r = room s h in
    let z : p + 1 + 22 - (p + 1) ≡ byte_at s (style_place s) = omega (arith, r.style) in
    rw z (rw e (sym (style-held s h)))

-- the columns of the table
pub columns_inside : (s : List ℕ) → IsAccepted s → length (table_of s).columns ≡ byte_at s (columns_place s)
columns_inside s h = let r = held s h in stands.column-count s (table_of s) r.end r.reads

pub columns_whole : (s : List ℕ) (n i : ℕ) (v : ArrayVec Column) → IsAccepted s → n ≡ byte_at s (columns_place s) → n ≤ i
    → Copied (table_of s).columns i v.items → v ≡ columns_of (table_of s)
unfolding columns_of
columns_whole s n i v h e k c =
    let l = columns_inside s h in
    ap (λ (xs : List Column). record { items = xs }) (copied_done (table_of s).columns i v.items (omega arith) c)

pub column_copied : (s : List ℕ) (p j : ℕ) (v : Column) → IsAccepted s → j < byte_at s (columns_place s) → p ≡ columns_place s + 1 + 11 * j → v ≡ column_here
    s p → v ≡ get_or (table_of s).columns j no_column
column_copied s p j v h l e i = let r = held s h in i ∙ rw e (sym (stands.column-at s (table_of s) r.end r.reads j l))
