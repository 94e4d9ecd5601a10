-- The cell lines ahead of a place in the sheet, and what a step over them takes. Assumes nothing.
use Rattle.std.specs.Prelude.{ℕ, ◌+◌, ◌-◌, ◌≤◌, ◌<◌, max, ◌≡◌, List, [], ◌∷◌, ◌++◌, map, length, get_or, Option, Some, None}
use Rattle.rules.specs.Text.{All, text_width, flat}
use Rattle.rules.specs.Sheet.{most_columns}
use Rattle.rules.specs.Widths.{lifted}
use Rattle.rules.specs.CellLines.{InColumn, in_column, lines_of_cells, lines_of_rows}
use Rattle.rules.specs.Places.{byte_at, past, parts, text_at, line_stop, cell_stop, row_stop}
use Rattle.table.specs.declared.step.Left.{Left}
use Rattle.table.specs.declared.step.Stand.{Stand}
use Rattle.table.specs.declared.step.Taken.{Taken}

-- where the lines of the cell at p stand: behind delimiter, alignment and their count
unfoldable pub lines_at : List ℕ → ℕ → List ℕ
lines_at s p = parts (byte_at s (p + 2)) (λ q. q) (line_stop s) (p + 3)

-- those of each cell of the row at p: cells stand behind the height limit and their count
unfoldable pub cells_at : List ℕ → ℕ → List (List ℕ)
cells_at s p = parts (byte_at s (p + 1)) (lines_at s) (cell_stop s) (p + 2)

-- those of each row of the section at p, header or rows, which begins with its count; and where it ends
unfoldable pub rows_at : List ℕ → ℕ → List (List (List ℕ))
rows_at s p = parts (byte_at s p) (cells_at s) (row_stop s) (p + 1)

unfoldable pub section_stop : List ℕ → ℕ → ℕ
section_stop s p = past (byte_at s p) (row_stop s) (p + 1)

-- the lines of n sections from p on; of m rows before them; of k cells before those, the first in column j
unfoldable pub in_sections : List ℕ → ℕ → ℕ → List (InColumn ℕ)
in_sections s n p = lines_of_rows (flat (parts n (rows_at s) (section_stop s) p))

unfoldable pub in_rows : List ℕ → ℕ → ℕ → ℕ → List (InColumn ℕ)
in_rows s m n p = lines_of_rows (parts m (cells_at s) (row_stop s) p) ++ in_sections s n (past m (row_stop s) p)

unfoldable pub in_cells : List ℕ → ℕ → ℕ → ℕ → ℕ → ℕ → List (InColumn ℕ)
in_cells s j k m n p = lines_of_cells j (parts k (lines_at s) (cell_stop s) p) ++ in_rows s m n (past k (cell_stop s) p)

-- the lines ahead of p, where c is left: each by its column and by the place of its length byte
unfoldable pub ahead : List ℕ → ℕ → Left → List (InColumn ℕ)
ahead s p c =
    map (in_column (c.begun - 1)) (parts c.lines (λ q. q) (line_stop s) p)
    ++ in_cells s c.begun c.cells c.rows c.sections (past c.lines (line_stop s) p)

-- where all that is left ends
unfoldable pub ahead_end : List ℕ → ℕ → Left → ℕ
ahead_end s p c = past c.sections (section_stop s) (past c.rows (row_stop s) (past c.cells (cell_stop s) (past c.lines (line_stop s) p)))

-- the cells of a row can be counted, and one whose lines are left has begun
pub record Counted (c : Left) : Type 0 where
  pub few : c.begun + c.cells ≤ 255
  pub started : 0 < c.lines → 0 < c.begun

-- all that is left is inside the sheet
pub record Ready (s : List ℕ) (p : ℕ) (c : Left) : Type 0 where
  pub inside : ahead_end s p c ≤ length s
  pub counted : Counted c

-- the same lines are ahead of r
pub record SameAhead (s : List ℕ) (p : ℕ) (c : Left) (r : Stand) : Type 0 where
  pub same : ahead s r.at r.left ≡ ahead s p c
  pub ends : ahead_end s r.at r.left ≡ ahead_end s p c
  pub counted : Counted r.left

-- a head was passed, with the same lines ahead of where it leads to, farther on; or no line is ahead
abbrev pub HeadIs : List ℕ → ℕ → Left → Option Stand → Type 0
HeadIs s p c (Some r) = SameAhead s p c r × (p < r.at)
HeadIs s p c None = ahead s p c ≡ []

-- t is the first line ahead of p: its column, its place and its end; its column, which had `before`, is lifted to the characters it has, or to 1 by an
-- empty line; and the other lines are ahead of its end
pub record Takes (s before : List ℕ) (p : ℕ) (c : Left) (t : Taken) : Type 0 where
  pub first : ahead s p c ≡ in_column t.column t.at ∷ ahead s t.end t.left
  pub onward : p ≤ t.at
  pub ends : t.end ≡ line_stop s t.at
  pub characters : t.longest ≡ max (get_or before t.column 0) (lifted (text_width (text_at s t.at)))
  pub inside : ahead_end s t.end t.left ≡ ahead_end s p c
  pub counted : Counted t.left

-- a step from the first byte of what it is given: it takes the first line ahead, or there is none
abbrev pub StepIs : List ℕ → Left → List ℕ → Option Taken → Type 0
StepIs s c before (Some t) = Takes s before 0 c t
StepIs s c before None = ahead s 0 c ≡ []

-- the lines ahead are of columns that there can be
abbrev pub AllNarrow : List (InColumn ℕ) → Type 0
AllNarrow ls = All (λ l. l.column < most_columns) ls
