-- `table::settings::column_at` meets its contract. Assumes nothing.
use mathlib.Core.Path.{sym}
use Rattle.laws.proofs.Stands.{column-here}
use Rattle.table.proofs.settings.column_at.Goals as goal

pub returns : goal.returns
returns c =
    rw (c.width_at-second.ensures, c.width_at-first.ensures)
    (sym (column-here _ _))
