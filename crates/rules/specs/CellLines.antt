-- The cell lines of header and rows in the sheet's order, each once: what one pass over a sheet takes, a line at a step. Assumes nothing.
use Rattle.std.specs.Prelude.{ℕ, suc, List, [], ◌∷◌, ◌++◌, map, eqb}
use Rattle.rules.specs.Text.{keep, text_width, greatest, flat}
use Rattle.rules.specs.Sheet.{Cell, Row, Table, all_rows}
use Rattle.rules.specs.Widths.{lifted}

-- a line, by its text or by the place it stands at, and the column of its cell
pub record InColumn (A : Type 0) : Type 0 where
  pub column : ℕ
  pub line : A

abbrev pub in_column : {A : Type 0} → ℕ → A → InColumn A
in_column j l = record { column = j; line = l }

-- the same done to a line, whose column stays
abbrev pub on_line : {A B : Type 0} → (A → B) → InColumn A → InColumn B
on_line f l = record { column = l.column; line = f l.line }

-- the lines of a row's cells, the first of which is in column j
unfoldable pub lines_of_cells : {A : Type 0} → ℕ → List (List A) → List (InColumn A)
lines_of_cells j [] = []
lines_of_cells j (x ∷ xs) = map (in_column j) x ++ lines_of_cells (suc j) xs

-- row after row; each row begins at column 0, and one without cells has no line
abbrev pub lines_of_rows : {A : Type 0} → List (List (List A)) → List (InColumn A)
lines_of_rows rs = flat (map (λ r. lines_of_cells 0 r) rs)

-- a row's lines, cell by cell
abbrev pub row_lines : Row → List (List (List ℕ))
row_lines r = map (λ (x : Cell). x.lines) r.cells

-- "each cell line of header and rows is taken exactly once": hidden columns' lines too
unfoldable pub cell_lines : Table → List (InColumn (List ℕ))
cell_lines t = lines_of_rows (map row_lines (all_rows t))

-- what is found for column j after some lines: the greatest of their lengths in characters, an empty line's lifted to 1; 0 where none is of that column
unfoldable pub longest_of : ℕ → List (InColumn (List ℕ)) → ℕ
longest_of j ls = greatest (map (λ l. lifted (text_width l.line)) (keep (λ l. eqb l.column j) ls))
