-- What is still to come of a sheet's rows, of a row's cells and of a cell's lines. Assumes nothing.
use Rattle.std.specs.Prelude.{ℕ, ◌+◌, ◌-◌, ◌≡◌, List, [], get_or, drop}
use Rattle.rules.specs.Sheet as sheet
use Rattle.rules.specs.Sheet.{no_row, no_cell}
use Rattle.rules.specs.Places.{past, parts, text_at, line_stop, cell_here, cell_stop, row_here, row_stop}
use Rattle.table.specs.declared.records.Rows.{Rows}
use Rattle.table.specs.declared.records.Cells.{Cells}
use Rattle.table.specs.declared.records.Lines.{Lines}
use Rattle.table.specs.declared.records.Row.{Row}
use Rattle.table.specs.declared.records.Cell.{Cell}

-- the rows, cells and lines themselves
unfoldable pub rows_in : List ℕ → Rows → List sheet.Row
rows_in s c = parts c.left (row_here s) (row_stop s) c.at

unfoldable pub cells_in : List ℕ → Cells → List sheet.Cell
cells_in s c = parts c.left (cell_here s) (cell_stop s) c.at

unfoldable pub lines_in : List ℕ → Lines → List (List ℕ)
lines_in s c = parts c.left (text_at s) (line_stop s) c.at

-- where they end
unfoldable pub rows_end : List ℕ → Rows → ℕ
rows_end s c = past c.left (row_stop s) c.at

unfoldable pub cells_end : List ℕ → Cells → ℕ
cells_end s c = past c.left (cell_stop s) c.at

unfoldable pub lines_end : List ℕ → Lines → ℕ
lines_end s c = past c.left (line_stop s) c.at

-- the first of them
abbrev pub first_row : List ℕ → Rows → sheet.Row
first_row s c = get_or (rows_in s c) 0 no_row

abbrev pub first_cell : List ℕ → Cells → sheet.Cell
first_cell s c = get_or (cells_in s c) 0 no_cell

abbrev pub first_line : List ℕ → Lines → List ℕ
first_line s c = get_or (lines_in s c) 0 []

-- r is the first row of c; its cells end where the next row begins
pub record RowIs (s : List ℕ) (c : Rows) (r : Row) : Type 0 where
  pub limit : r.limit ≡ (first_row s c).limit
  pub cells : cells_in s r.cells ≡ (first_row s c).cells
  pub ends : cells_end s r.cells ≡ row_stop s c.at

-- x is the first cell of c; its lines end where the next cell begins
pub record CellIs (s : List ℕ) (c : Cells) (x : Cell) : Type 0 where
  pub delimiter : x.delimiter ≡ (first_cell s c).delimiter
  pub alignment : x.alignment ≡ (first_cell s c).alignment
  pub lines : lines_in s x.lines ≡ (first_cell s c).lines
  pub ends : lines_end s x.lines ≡ cell_stop s c.at

-- r is what comes after the first of c
pub record RowsNext (s : List ℕ) (c r : Rows) : Type 0 where
  pub rows : rows_in s r ≡ drop 1 (rows_in s c)
  pub left : r.left + 1 ≡ c.left
  pub ends : rows_end s r ≡ rows_end s c

pub record CellsNext (s : List ℕ) (c r : Cells) : Type 0 where
  pub cells : cells_in s r ≡ drop 1 (cells_in s c)
  pub left : r.left + 1 ≡ c.left
  pub ends : cells_end s r ≡ cells_end s c

-- the cells after the first n, none where there are no more
pub record CellsSkipped (s : List ℕ) (c : Cells) (n : ℕ) (r : Cells) : Type 0 where
  pub cells : cells_in s r ≡ drop n (cells_in s c)
  pub left : r.left ≡ c.left - n
  pub ends : cells_end s r ≡ cells_end s c

pub record LinesNext (s : List ℕ) (c r : Lines) : Type 0 where
  pub lines : lines_in s r ≡ drop 1 (lines_in s c)
  pub left : r.left + 1 ≡ c.left
  pub ends : lines_end s r ≡ lines_end s c
