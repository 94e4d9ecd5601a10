-- The table whose widths a layout gives. Assumes nothing.
use Rattle.std.specs.Prelude.{ℕ, ◌<◌, ◌≡◌, length, get_or}
use Rattle.rules.specs.Sheet.{Table}
use Rattle.rules.specs.Style.{any_left, any_right, any_junction}
use Rattle.rules.specs.Widths.{longest}
use Rattle.constraint.specs.declared.Layout.{Layout}
use Rattle.style.specs.Table.{arrangement_of, target_of}

-- all that widths depend on beside the parts of split lines is the table's; what stands past the columns is left open
pub record Describes (l : Layout) (t : Table) : Type 0 where
  pub columns : l.columns.items ≡ t.columns
  pub target : l.target ≡ target_of t.target
  pub arrangement : l.arrangement ≡ arrangement_of t.arrangement
  pub left : l.left ≡ any_left t.style
  pub right : l.right ≡ any_right t.style
  pub junction : l.junction ≡ any_junction t.style
  pub longest : (j : ℕ) → j < length t.columns → get_or l.longest j 0 ≡ longest t j
