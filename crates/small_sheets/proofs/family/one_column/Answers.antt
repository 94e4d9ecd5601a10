use mathlib.Core.Path.{refl}
use Rattle.small_sheets.proofs.Numbers.{chosen-one}
use Rattle.small_sheets.proofs.family.one_column.Goals as goal

pub returns : goal.returns
returns c = chosen-one c.args.p _ refl refl refl c.requires c.text_at.ensures
