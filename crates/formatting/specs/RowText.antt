-- A row's text lines, by what they are drawn with. Assumes nothing.
use Rattle.std.specs.Prelude.{ℕ, ◌+◌, ◌*◌, ◌≤◌, ◌<◌, min, ◌≡◌, List, [], map, Bool, true, false, length, get_or, ltb}
use Rattle.rules.specs.Text.{All}
use Rattle.rules.specs.Limits.{Plain, most_lines, longest_line}
use Rattle.rules.specs.Sheet.{Row}
use Rattle.rules.specs.Widths.{contents}
use Rattle.rules.specs.Page.{line_of, areas, height}
use Rattle.table.specs.Held.{table_of}
use Rattle.table.specs.Walk.{rows_end, first_row}
use Rattle.table.specs.declared.records.Rows.{Rows}
use Rattle.buffer.specs.Put.{drawn}
use Rattle.row.specs.View.{View, Views}
use Rattle.row.specs.Height.{added_up_to}
use Rattle.row.specs.Open.{CellKnown, Rising, UsableAll}
use Rattle.row.specs.declared.Pending.{Pending}
use Rattle.formatting.specs.Shown.{pairs_shown}
use Rattle.formatting.specs.Stand.{StandsRow}
use Rattle.buffer.specs.declared.Edges.{Edges}
use Rattle.formatting.specs.declared.content_format.Entered.{Entered}

-- a text line of these parts
unfoldable pub styled : Edges → List (List ℕ) → List ℕ
styled y ps = line_of (drawn y.left) (drawn y.junction) (drawn y.right) ps

-- a row's lines, and how many they are
unfoldable pub row_lines : List ℕ → Edges → Row → List (List ℕ)
row_lines s y r = map (styled y) (areas (table_of s) (contents (table_of s)) r)

abbrev pub row_height : List ℕ → Row → ℕ
row_height s r = height (table_of s) (contents (table_of s)) r

-- there is a row, its texts are known, and the view shows the sheet's visible columns
pub record Drawable (s : List ℕ) (view : View) (plain : Bool) (c : Rows) : Type 0 where
  pub some : 0 < c.left
  pub ends : rows_end s c ≤ length s
  pub views : Views (table_of s) (contents (table_of s)) view
  pub rising : Rising view
  pub usable : UsableAll view
  pub known : All (CellKnown plain) (first_row s c).cells
  pub short : length s ≤ 32768

-- the table's indicator, of ASCII characters
pub record Marks (s ind : List ℕ) : Type 0 where
  pub are : ind ≡ (table_of s).indicator
  pub plain : Plain ind

-- a row's lines are neither too long nor too many
pub record Bounded (s : List ℕ) (y : Edges) (r : Row) : Type 0 where
  pub short : (k : ℕ) → k < row_height s r → length (get_or (row_lines s y r) k []) ≤ longest_line
  pub few : row_height s r ≤ most_lines

-- the most bytes that a line takes, n being those of a plain one, in so many visible columns: a cell's line shows at most 100 pairs, and
-- a line no more of them than it has columns
abbrev pub most_bytes : Bool → ℕ → ℕ → ℕ
most_bytes true n count = n
most_bytes false n count = n + min n (100 * count)

-- and each takes n bytes, its 0A included, and the pairs that it shows; if the row is said to be plain, it shows none
pub record Sized (s : List ℕ) (y : Edges) (r : Row) (plain : Bool) (view : View) (n : ℕ) : Type 0 where
  pub bounded : Bounded s y r
  pub small : n ≤ longest_line + 1
  pub each : plain ≡ true → (k : ℕ) → k < row_height s r → length (get_or (row_lines s y r) k []) + 1 ≡ n
  pub most : (k : ℕ) → k < row_height s r → length (get_or (row_lines s y r) k []) + 1 ≤ most_bytes plain n (length view)
  pub shown : (k : ℕ) → k < row_height s r
      → length (get_or (row_lines s y r) k []) + 1 ≡ n + added_up_to (pairs_shown (table_of s).indicator r.limit k 1) r.cells view (length view)

-- whether a row has line j, which is then pending
pub record StandsAt (s : List ℕ) (view : View) (r : Row) (j : ℕ) (more : Bool) (ts : List Pending) : Type 0 where
  pub has : more ≡ ltb j (row_height s r)
  pub stands : more ≡ true → StandsRow s (table_of s) (contents (table_of s)) r view j ts

pub record EnteredIs (s : List ℕ) (view : View) (r : Row) (j : ℕ) (e : Entered) (ts : List Pending) : Type 0 where
  pub limit : e.limit ≡ r.limit
  pub stands : StandsAt s view r j e.more ts
