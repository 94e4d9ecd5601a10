use mathlib.Core.Path.{refl}
use Rattle.small_sheets.proofs.Numbers.{chosen_two}
use Rattle.small_sheets.proofs.family.two_columns.Goals as goal

pub returns : goal.returns
returns c = chosen_two c.args.p _ refl refl c.text_at-2.result refl c.requires c.text_at.ensures c.text_at-2.ensures
