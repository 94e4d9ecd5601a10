-- How many lines a row's cells have. Assumes nothing.
use Rattle.std.specs.Prelude.{ℕ, zero, suc, ◌+◌, max, min, List, length, get_or}
use Rattle.rules.specs.Text.{or_else}
use Rattle.rules.specs.Sheet.{Cell, no_cell}
use Rattle.rules.specs.Wrap.{wrap_lines}
use Rattle.laws.proofs.RowBytes.{pairs_of}
use Rattle.row.specs.View.{View, visible_at}
use Rattle.row.specs.declared.VisibleColumn.{VisibleColumn}

-- the lines of the cell x in a column, wrapped
unfoldable pub cell_height : Cell → VisibleColumn → ℕ
cell_height x v = length (wrap_lines v.width (or_else x.delimiter v.delimiter) x.lines)

-- the most lines of a cell in the first n visible columns
unfoldable pub height_up_to : List Cell → View → ℕ → ℕ
height_up_to xs view zero = 0
height_up_to xs view (suc n) = max (height_up_to xs view n) (cell_height (get_or xs (visible_at view n).number no_cell) (visible_at view n))

-- what f counts in the cells of the first n visible columns, added up
unfoldable pub added_up_to : (Cell → VisibleColumn → ℕ) → List Cell → View → ℕ → ℕ
added_up_to f xs view zero = 0
added_up_to f xs view (suc n) = added_up_to f xs view n + f (get_or xs (visible_at view n).number no_cell) (visible_at view n)

-- the pairs that the cell x holds
abbrev pub pairs_held : Cell → VisibleColumn → ℕ
pairs_held x v = pairs_of x.lines

-- the lines that a limit leaves, 0 being none
unfoldable pub limited : ℕ → ℕ → ℕ
limited zero h = h
limited (suc l) h = min (suc l) h
