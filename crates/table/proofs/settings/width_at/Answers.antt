-- `table::settings::width_at` meets its contract. Assumes nothing.
use mathlib.Core.Path.{sym}
use Rattle.laws.proofs.Stands.{width-here}
use Rattle.table.proofs.settings.width_at.Goals as goal

pub returns : goal.returns
returns c = rw c.word_at.ensures (sym (width-here _ _))
