-- A row's cells, each with the visible column that shows it. Assumes nothing.
use Rattle.std.specs.Prelude.{ℕ, ◌-◌, ◌≤◌, ◌≡◌, List, [], ◌∷◌, Bool, Option, Some, None, length, get_or}
use Rattle.rules.specs.Text.{All}
use Rattle.rules.specs.Sheet.{Cell, no_cell}
use Rattle.table.specs.Walk.{cells_in, cells_end, first_cell}
use Rattle.table.specs.declared.records.Cells.{Cells}
use Rattle.row.specs.View.{View}
use Rattle.row.specs.Open.{CellKnown}
use Rattle.row.specs.declared.VisibleColumn.{VisibleColumn}
use Rattle.row.specs.declared.visible.VisibleCells.{VisibleCells}

-- columns with their cells; the first of the cells xs is the one of column n
abbrev pub cells_by : List Cell → ℕ → View → List (VisibleColumn × Cell)
cells_by xs n [] = []
cells_by xs n (v ∷ vs) = (v, get_or xs (v.number - n) no_cell) ∷ cells_by xs n vs

-- what is still to come
abbrev pub cells_left : VisibleCells → List (VisibleColumn × Cell)
cells_left c = cells_by (cells_in c.sheet.now c.left) c.passed c.columns.now

-- what is known of all of a row's cells still to come
abbrev pub KnownLeft : Bool → VisibleCells → Type 0
KnownLeft plain c = All (CellKnown plain) (cells_in c.sheet.now c.left)

-- all columns with a row's cells are still to come
pub record Begins (s : List ℕ) (view : View) (cells : Cells) (c : VisibleCells) : Type 0 where
  pub sheet : c.sheet.now ≡ s
  pub left : cells_left c ≡ cells_by (cells_in s cells) 0 view
  pub known : (plain : Bool) → All (CellKnown plain) (cells_in s cells) → KnownLeft plain c

-- column v with the cells from its own on
pub record Gives (old : VisibleCells) (v : VisibleColumn) (cells : Cells) (new : VisibleCells) : Type 0 where
  pub next : cells_left old ≡ (v, first_cell old.sheet.now cells) ∷ cells_left new
  pub inside : cells_end old.sheet.now cells ≤ length old.sheet.now
  pub sheet : new.sheet.now ≡ old.sheet.now
  pub known : (plain : Bool) → KnownLeft plain old → All (CellKnown plain) (cells_in old.sheet.now cells)
  pub still : (plain : Bool) → KnownLeft plain old → KnownLeft plain new

-- the next of them, or none, now or later
abbrev pub GivesCells : VisibleCells → Option (VisibleColumn × Cells) → VisibleCells → Type 0
GivesCells old None new = (cells_left old ≡ []) × (cells_left new ≡ [])
GivesCells old (Some p) new = Gives old p.0 p.1 new
