-- The pass over a sheet's cell lines: steps one after another, and what they have found. Assumes nothing.
use Rattle.std.specs.Prelude.{ℕ, ◌+◌, ◌≤◌, max, ◌≡◌, List, [], ◌∷◌, ◌++◌, map, get_or, drop, set, replicate}
use Rattle.rules.specs.Text.{All, up_from}
use Rattle.rules.specs.Sheet.{Row, Table, most_columns, all_rows}
use Rattle.rules.specs.declared.Column.{Column}
use Rattle.rules.specs.Widths as widths
use Rattle.rules.specs.CellLines.{InColumn, in_column, on_line, lines_of_rows, row_lines, cell_lines}
use Rattle.rules.specs.Places.{byte_at, text_at, line_stop, header_place}
use Rattle.table.specs.Held.{table_of}
use Rattle.table.specs.Step.{ahead, Takes}
use Rattle.table.specs.declared.step.Left.{Left}
use Rattle.table.specs.declared.step.Taken.{Taken}

-- the state: where the pass stands, what is left there, and each column's longest line so far
pub record State : Type 0 where
  pub at : ℕ
  pub left : Left
  pub longest : List ℕ

-- before the first step it stands behind the header's count: the header is left, and the section of rows; no column has a line
abbrev pub start : List ℕ → State
start s = record {
  at = header_place s + 1;
  left = record { sections = 1; rows = byte_at s (header_place s); cells = 0; begun = 0; lines = 0 };
  longest = replicate most_columns 0;
}

-- after a step that took t: it stands at the end of that line
abbrev pub after : State → Taken → State
after a t = record { at = a.at + t.end; left = t.left; longest = set a.longest t.column t.longest }

-- steps one after another, each given only the rest of the sheet from where the last one stands: the lines taken, in order, and the state after them
pub data Steps (s : List ℕ) : List (InColumn ℕ) → State → Type 0 where
  none : Steps s [] (start s)
  then : (ls : List (InColumn ℕ)) (a : State) (t : Taken) → Steps s ls a → Takes (drop a.at s) a.longest 0 a.left t
      → Steps s (ls ++ (in_column t.column (a.at + t.at) ∷ [])) (after a t)

-- positions rise from p to q: each line begins where the one before it ends, or farther on
abbrev pub Rising : List ℕ → ℕ → List (InColumn ℕ) → ℕ → Type 0
Rising s p [] q = p ≤ q
Rising s p (l ∷ ls) q = (p ≤ l.line) × Rising s (line_stop s l.line) ls q

-- the whole pass: the lines that its steps take are the sheet's cell lines, each once, and what it has found is each column's longest line
pub record Passed (s : List ℕ) (r : List ℕ) : Type 0 where
  pub lines : List (InColumn ℕ)
  pub last : State
  pub steps : Steps s lines last
  pub ended : ahead (drop last.at s) 0 last.left ≡ []
  pub all_lines : map (on_line (text_at s)) lines ≡ cell_lines (table_of s)
  pub rising : Rising s (start s).at lines last.at
  pub found : r ≡ last.longest
  pub longest : r ≡ map (widths.longest (table_of s)) (up_from 0 most_columns)

-- the same table with other columns
abbrev with_columns : Table → List Column → Table
with_columns t cs = record {
  edition = t.edition;
  arrangement = t.arrangement;
  target = t.target;
  delimiter = t.delimiter;
  indicator = t.indicator;
  style = t.style;
  columns = cs;
  header = t.header;
  rows = t.rows;
}

-- what follows at the edges, for every sheet
pub record Edges : Type 0 where
  -- an empty line's step lifts its column to 1
  pub empty_line : (s before : List ℕ) (p : ℕ) (c : Left) (t : Taken) → Takes s before p c t → text_at s t.at ≡ []
      → t.longest ≡ max (get_or before t.column 0) 1
  -- which lines are taken doesn't hang on the columns: hidden ones have theirs too
  pub any_columns : (t : Table) (cs : List Column) → cell_lines (with_columns t cs) ≡ cell_lines t
  -- a row without cells has no step
  pub no_cells : (rs us : List Row) (limit : ℕ)
      → lines_of_rows (map row_lines (rs ++ (record { limit = limit; cells = [] } ∷ us))) ≡ lines_of_rows (map row_lines (rs ++ us))
  -- with no cell at all there is no step, and every length is 0
  pub no_cell_at_all : (s r : List ℕ) (passed : Passed s r) → All (λ x. x.cells ≡ []) (all_rows (table_of s))
      → (passed.lines ≡ []) × (r ≡ replicate most_columns 0)
