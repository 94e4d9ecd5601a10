-- What is known of lines, cells and rows before they are tried: they lie in the sheet, keep its limits, and where they set no delimiter a
-- printable one is given. Assumes nothing.
use Rattle.std.specs.Prelude.{ℕ, ◌≤◌, List, length}
use Rattle.rules.specs.Text.{All}
use Rattle.rules.specs.Limits.{Printable, LineLimits, CellLimits}
use Rattle.table.specs.Walk.{rows_in, cells_in, lines_in, rows_end, cells_end, lines_end}
use Rattle.table.specs.declared.records.Rows.{Rows}
use Rattle.table.specs.declared.records.Cells.{Cells}
use Rattle.table.specs.declared.records.Lines.{Lines}

pub record LinesKnown (s : List ℕ) (d : ℕ) (c : Lines) : Type 0 where
  pub inside : lines_end s c ≤ length s
  pub delimiter : Printable d
  pub limits : All LineLimits (lines_in s c)

pub record CellsKnown (s : List ℕ) (d : ℕ) (c : Cells) : Type 0 where
  pub inside : cells_end s c ≤ length s
  pub delimiter : Printable d
  pub limits : All CellLimits (cells_in s c)

pub record RowsKnown (s : List ℕ) (d : ℕ) (c : Rows) : Type 0 where
  pub inside : rows_end s c ≤ length s
  pub delimiter : Printable d
  pub limits : All (λ r. All CellLimits r.cells) (rows_in s c)
