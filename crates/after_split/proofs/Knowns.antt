-- What is known of an accepted sheet's rows is known of their cells and lines, and of those that are still to come. Assumes nothing.
use Prim.Native.Nat.{ℕ, zero, suc, ◌<◌}
use mathlib.Core.Path.{◌≡◌, refl}
use mathlib.Core.List.{List, []}
use mathlib.Core.Logic.{inl, inr}
use native.Mathlib.Omega.{arith}
use lib.ListN.{length}
use Rattle.rules.specs.Text.{or_else, All}
use Rattle.rules.specs.Limits.{Printable, Optional, ColumnLimits, LineLimits, CellLimits, TableLimits}
use Rattle.rules.specs.Sheet as sheet
use Rattle.rules.specs.Sheet.{Table, no_cell, no_row, no_column, column_at}
use Rattle.rules.specs.Places.{rows_place}
use Rattle.laws.proofs.Lists.{all_imp, all_get_d, all_default, all_drop}
use Rattle.laws.proofs.Characters.{rows_cells}
use Rattle.laws.proofs.Accepted.{accepted_limits}
use Rattle.content_split.specs.Cut.{Sound}
use Rattle.content_split.proofs.Sounds.{sound-all}
use Rattle.table.specs.Held.{IsAccepted, table_of}
use Rattle.table.specs.Walk.{rows_in, cells_in, lines_in, rows_end, first_line, RowIs, CellIs, RowsNext, LinesNext, CellsSkipped}
use Rattle.table.specs.declared.records.Rows.{Rows}
use Rattle.table.specs.declared.records.Cells.{Cells}
use Rattle.table.specs.declared.records.Lines.{Lines}
use Rattle.table.specs.declared.records.Row.{Row}
use Rattle.table.specs.declared.records.Cell.{Cell}
use Rattle.table.proofs.Held.{held, room}
use Rattle.table.proofs.Walks.{lines_number, cells_number, rows_number, cells_inside, lines_inside}
use Rattle.after_split.specs.Known.{LinesKnown, CellsKnown, RowsKnown}
use Rattle.after_split.specs.Trial.{otherwise}

-- a delimiter, or the one that stands in for it
or-printable : (a b : ℕ) → Optional a → Printable b → Printable (or_else a b)
or-printable zero b o p = p
or-printable (suc a) b (inl e) p = absurd (omega arith)
or-printable (suc a) b (inr h) p = h

-- ---- lines

-- the first of them can be split
pub line_sound : (s : List ℕ) (d : ℕ) (c : Lines) (l : List ℕ) → 0 < c.left → l ≡ first_line s c → LinesKnown s d c → Sound d l 0
line_sound s d c l some e k =
    rw e (sound-all d (first_line s c) k.delimiter
    (all_get_d LineLimits (lines_in s c) 0 [] (omega (arith, lines_number s c)) k.limits).characters)

pub lines_known : (s : List ℕ) (d : ℕ) (c r : Lines) → LinesNext s c r → LinesKnown s d c → LinesKnown s d r
lines_known s d c r next k = record {
  inside = omega (arith, k.inside, next.ends);
  delimiter = k.delimiter;
  limits = rw next.lines (all_drop LineLimits 1 (lines_in s c) k.limits);
}

-- ---- a row

-- the lines of cell j
pub cell_known : (s : List ℕ) (d : ℕ) (all c : Cells) (j : ℕ) (x : Cell) (e : ℕ) → CellsSkipped s all j c → (c.left ≡ 0 → ⊥) → CellIs s c x
    → e ≡ or_else x.delimiter d → CellsKnown s d all → LinesKnown s e x.lines
cell_known s d all c j x e skipped n is q k =
    let here : All CellLimits (cells_in s c) = rw skipped.cells (all_drop CellLimits j (cells_in s all) k.limits) in
    let limits = all_get_d CellLimits (cells_in s c) 0 no_cell (omega (arith, cells_number s c)) here in
    record {
      inside = lines_inside s c x (omega arith) (omega (arith, k.inside, skipped.ends)) is;
      delimiter = rw (q, is.delimiter) (or-printable _ d limits.delimiter k.delimiter);
      limits = rw is.lines limits.texts;
    }

-- ---- rows

abbrev Legible : sheet.Row → Type 0
Legible r = All CellLimits r.cells

-- the cells of the first
pub row_known : (s : List ℕ) (d : ℕ) (c : Rows) (r : Row) → 0 < c.left → RowIs s c r → RowsKnown s d c → CellsKnown s d r.cells
row_known s d c r some is k = record {
  inside = cells_inside s c r some k.inside is;
  delimiter = k.delimiter;
  limits = rw is.cells (all_get_d Legible (rows_in s c) 0 no_row (omega (arith, rows_number s c)) k.limits);
}

pub rows_known : (s : List ℕ) (d : ℕ) (c r : Rows) → RowsNext s c r → RowsKnown s d c → RowsKnown s d r
rows_known s d c r next k = record {
  inside = omega (arith, k.inside, next.ends);
  delimiter = k.delimiter;
  limits = rw next.rows (all_drop Legible 1 (rows_in s c) k.limits);
}

-- ---- the table of an accepted sheet

-- the delimiter of column j, where a cell sets none
otherwise-printable : (t : Table) (j : ℕ) → TableLimits t → Printable (otherwise t j)
otherwise-printable t j T =
    let c = all_default (λ c. Optional c.delimiter) t.columns j no_column (inl refl)
    (all_imp ColumnLimits (λ c. Optional c.delimiter) (λ c k. k.delimiter) t.columns T.each_column) in
    or-printable (column_at t j).delimiter _ c (or-printable t.delimiter 32 T.delimiter (omega arith, omega arith))

module _ (s : List ℕ) (j d : ℕ) (c : Rows) (h : IsAccepted s) (o : d ≡ otherwise (table_of s) j) where
  limits : TableLimits (table_of s)
  limits = let r = held s h in accepted_limits s (table_of s) r.end r.reads

  pub header_known : rows_in s c ≡ (table_of s).header → rows_end s c ≡ rows_place s → RowsKnown s d c
  header_known e f = record {
    inside = omega (arith, (room s h).inside);
    delimiter = rw o (otherwise-printable (table_of s) j limits);
    limits = rw e (rows_cells (table_of s).header _ limits.header_row);
  }

  pub all_known : rows_in s c ≡ (table_of s).rows → rows_end s c ≡ length s → RowsKnown s d c
  all_known e f = record {
    inside = omega arith;
    delimiter = rw o (otherwise-printable (table_of s) j limits);
    limits = rw e (rows_cells (table_of s).rows _ limits.each_row);
  }
