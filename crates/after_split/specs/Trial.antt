-- The longest part of a column's lines split at an average, as a walk over the sheet finds it: line by line, row by row. Assumes nothing.
use Rattle.std.specs.Prelude.{ℕ, ◌+◌, ◌≤◌, max, ◌≡◌, List, [], ◌∷◌, map, true, false, length, get_or, ltb}
use Rattle.rules.specs.Text.{text_width, greatest, flat, or_else}
use Rattle.rules.specs.Sheet.{Cell, Row, Table, no_cell, column_at}
use Rattle.rules.specs.Widths.{trial_parts}
use Rattle.table.specs.Walk.{rows_in, cells_in, rows_end, cells_end}
use Rattle.table.specs.declared.records.Rows.{Rows}
use Rattle.table.specs.declared.records.Cells.{Cells}
use Rattle.after_split.specs.declared.Tried.{Tried}

-- of a line, and of lines one after another
unfoldable pub of_line : ℕ → ℕ → List ℕ → ℕ
of_line a d l = greatest (map text_width (trial_parts a d l))

unfoldable pub of_lines : ℕ → ℕ → List (List ℕ) → ℕ
of_lines a d ls = greatest (map text_width (flat (map (trial_parts a d) ls)))

-- of cell j of a row, d standing in where the cell sets no delimiter; 0 where the row is short
unfoldable pub of_cells : ℕ → ℕ → ℕ → List Cell → ℕ
of_cells j a d xs = elim (ltb j (length xs)) [ true ↦ of_lines a (or_else (get_or xs j no_cell).delimiter d) (get_or xs j no_cell).lines | false ↦ 0 ]

-- of some rows
unfoldable pub of_rows : ℕ → ℕ → ℕ → List Row → ℕ
of_rows j a d [] = 0
of_rows j a d (r ∷ rs) = max (of_cells j a d r.cells) (of_rows j a d rs)

-- where column j's cells set no delimiter
abbrev pub otherwise : Table → ℕ → ℕ
otherwise t j = or_else (column_at t j).delimiter (or_else t.delimiter 32)

-- m in place of the longest part n, at the average a: no longer than n, and n itself if m is shorter than a by 3 or more
pub record Enough (a n m : ℕ) : Type 0 where
  pub part : m ≤ n
  pub all : m + 3 ≤ a → m ≡ n

-- a row's cells have been walked, n being the longest part before them, and rows: to their end, if what was found is shorter than the
-- average by 3 or more
pub record RowTried (s : List ℕ) (c : Cells) (j a d n : ℕ) (r : Tried) : Type 0 where
  pub longest : Enough a (max n (of_cells j a d (cells_in s c))) r.longest
  pub ends : r.longest + 3 ≤ a → r.end ≡ cells_end s c

pub record RowsTried (s : List ℕ) (c : Rows) (j a d : ℕ) (r : Tried) : Type 0 where
  pub longest : Enough a (of_rows j a d (rows_in s c)) r.longest
  pub ends : r.longest + 3 ≤ a → r.end ≡ rows_end s c
