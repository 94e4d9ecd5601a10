use Rattle.std.proofs.Common.{rules}
use Rattle.style.proofs.Laws.{unit_0, unit_other}
use Rattle.style.proofs.column.WidthFromRulesWidth.from.Goals as goal

pub returns-in-0 : goal.returns-in-0
returns-in-0 c = search (rules, unit_0)

pub returns-in_default : goal.returns-in_default
returns-in_default c = search (rules, unit_other)
