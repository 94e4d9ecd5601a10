-- Where the parts of an accepted sheet stand, from the bytes alone, by the format's description. Assumes nothing.
use Rattle.std.specs.Prelude.{ℕ, List, true}
use Rattle.rules.specs.Sheet.{Width, Column, Cell, Row, Table, most_columns}
use Rattle.rules.specs.Description.{here, stop, part_at}
use Rattle.rules.specs.Format.{width, column, cell, row, table}
unfoldable pub use Rattle.rules.specs.Field.{byte_at, word_at}
unfoldable pub use Rattle.rules.specs.Description.{past, parts, text_at, line_stop}

-- a column and a width of it
unfoldable pub width_here : List ℕ → ℕ → Width
width_here s p = here (width true) s p

unfoldable pub column_here : List ℕ → ℕ → Column
column_here s p = here column s p

unfoldable pub column_stop : List ℕ → ℕ → ℕ
column_stop s p = stop column s p

unfoldable pub cell_here : List ℕ → ℕ → Cell
cell_here s p = here cell s p

unfoldable pub cell_stop : List ℕ → ℕ → ℕ
cell_stop s p = stop cell s p

-- a row, whose place doesn't hang on how many cells it may have
unfoldable pub row_here : List ℕ → ℕ → Row
row_here s p = here (row most_columns) s p

unfoldable pub row_stop : List ℕ → ℕ → ℕ
row_stop s p = stop (row most_columns) s p

-- where the counts of style, columns, header and rows stand, the table's parts 5 to 8, the edition being part 0; and where the sheet ends
unfoldable pub style_place : List ℕ → ℕ
style_place s = part_at 5 table s 0

unfoldable pub columns_place : List ℕ → ℕ
columns_place s = part_at 6 table s 0

unfoldable pub header_place : List ℕ → ℕ
header_place s = part_at 7 table s 0

unfoldable pub rows_place : List ℕ → ℕ
rows_place s = part_at 8 table s 0

unfoldable pub end_place : List ℕ → ℕ
end_place s = stop table s 0

unfoldable pub table_here : List ℕ → Table
table_here s = here table s 0
