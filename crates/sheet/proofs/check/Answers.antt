-- `sheet::check` meets its contract. Assumes nothing.
use mathlib.Core.Path.{◌∙◌}
use Rattle.rules.specs.Calls.{check_of}
use Rattle.sheet.proofs.check.Goals as goal

pub returns-in-Err : goal.returns-in-Err
unfolding check_of
returns-in-Err c = c.from.ensures ∙ c.in-Err.ensures.checked
