-- The visible columns, as lines are drawn from them. Assumes nothing.
use Rattle.std.specs.Prelude.{ℕ, ◌≤◌, ◌<◌, ◌≡◌, List, length, get_or}
use Rattle.rules.specs.Sheet.{most_columns, Table, column_at}
use Rattle.rules.specs.Text.{or_else}
use Rattle.rules.specs.Widths.{visible}
use Rattle.row.specs.Alignment.{of_code}
use Rattle.row.specs.declared.CellAlignment.TheVariants.{Left}
use Rattle.row.specs.declared.VisibleColumn.{VisibleColumn}

-- what lines are drawn from: the visible columns from left to right
abbrev pub View : Type 0
View = List VisibleColumn

-- what a list has past its end
abbrev pub no_column : VisibleColumn
no_column = record { number = 0; width = 0; left = 0; right = 0; delimiter = 0; alignment = Left }

abbrev pub visible_at : View → ℕ → VisibleColumn
visible_at view i = get_or view i no_column

-- column j of a table as it is drawn, ws being the content widths
unfoldable pub shown_of : Table → List ℕ → ℕ → VisibleColumn
shown_of t ws j = record {
  number = j;
  width = get_or ws j 0;
  left = (column_at t j).left;
  right = (column_at t j).right;
  delimiter = or_else (column_at t j).delimiter (or_else t.delimiter 32);
  alignment = of_code (or_else (column_at t j).alignment 1);
}

-- the number of visible column i
abbrev pub number_of : Table → ℕ → ℕ
number_of t i = get_or (visible t) i 0

-- a view shows a table's visible columns, from left to right
pub record Views (t : Table) (ws : List ℕ) (view : View) : Type 0 where
  pub count : length view ≡ length (visible t)
  pub most : length view ≤ most_columns
  pub each : (i : ℕ) → i < length view → visible_at view i ≡ shown_of t ws (number_of t i)
