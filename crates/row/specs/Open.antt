-- A row's cells at one of their lines. Assumes nothing.
use Rattle.std.specs.Prelude.{ℕ, ◌≤◌, ◌<◌, Bool, ◌≡◌, List, length, get_or, eqb}
use Rattle.rules.specs.Text.{All, or_else}
use Rattle.rules.specs.Limits.{Printable, Optional}
use Rattle.rules.specs.Sheet.{Cell, no_cell, most_columns}
use Rattle.rules.specs.Wrap.{wrap_lines}
use Rattle.cells.specs.Cell.{TextIs}
use Rattle.row.specs.Alignment.{aligned}
use Rattle.row.specs.View.{View, visible_at}
use Rattle.row.specs.Pending.{pending_at, Stands}
use Rattle.row.specs.declared.VisibleColumn.{VisibleColumn}
use Rattle.row.specs.declared.Pending.{Pending}

-- what is known of a cell before it is drawn: its lines are texts, without a pair where they are said to be plain
pub record CellKnown (plain : Bool) (x : Cell) : Type 0 where
  pub delimiter : Optional x.delimiter
  pub texts : All (TextIs plain) x.lines

-- a missing cell, one blank line, at its line n
abbrev pub missing : VisibleColumn → ℕ → Bool → Pending
missing v n plain = record {
  line = record {
    found = eqb n 0;
    start = 0;
    end = 0;
    columns = 0;
    cursor = record { lines = record { at = 0; left = 0 }; from = 0; plain = plain };
  };
  delimiter = v.delimiter;
  alignment = v.alignment;
}

-- the cell x in a column, at its line n
pub record OpenedAt (s : List ℕ) (x : Cell) (v : VisibleColumn) (n : ℕ) (t : Pending) : Type 0 where
  pub stands : Stands s v (wrap_lines v.width (or_else x.delimiter v.delimiter) x.lines) n t
  pub delimiter : t.delimiter ≡ or_else x.delimiter v.delimiter
  pub alignment : t.alignment ≡ aligned x.alignment v.alignment

-- each visible column's cell at its line n, missing where the row has none
pub record OpenedRow (s : List ℕ) (xs : List Cell) (view : View) (n : ℕ) (ts : List Pending) : Type 0 where
  pub size : length ts ≡ most_columns
  pub each : (i : ℕ) → i < length view → OpenedAt s (get_or xs (visible_at view i).number no_cell) (visible_at view i) n (pending_at ts i)

-- each visible column's cell is walked as plain lines are, or as lines that may have pairs
abbrev pub WalkedAll : Bool → View → List Pending → Type 0
WalkedAll plain view ts = (i : ℕ) → i < length view → (pending_at ts i).line.cursor.plain ≡ plain

-- columns stand in the sheet's order
pub record Rising (view : View) : Type 0 where
  pub most : length view ≤ most_columns
  pub order : (i k : ℕ) → i ≤ k → k < length view → (visible_at view i).number ≤ (visible_at view k).number

-- columns still to come stand in that order too, none before column n
abbrev pub RisingFrom : ℕ → View → Type 0
RisingFrom n view = (i k : ℕ) → i ≤ k → k < length view → (n ≤ (visible_at view i).number) × ((visible_at view i).number ≤ (visible_at view k).number)

-- a column has a width, and a delimiter for the cells that choose none
abbrev pub UsableAll : View → Type 0
UsableAll view = (i : ℕ) → i < length view → (0 < (visible_at view i).width) × Printable (visible_at view i).delimiter
