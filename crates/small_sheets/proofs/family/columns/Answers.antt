use Rattle.small_sheets.proofs.Puts.{columns-one, columns_two}
use Rattle.small_sheets.proofs.family.columns.Goals as goal

pub returns-in-Some : goal.returns-in-Some
returns-in-Some c = columns_two c.args.c _ c.in-Some.is

pub returns-in-None : goal.returns-in-None
returns-in-None c = columns-one c.args.c c.in-None.is
