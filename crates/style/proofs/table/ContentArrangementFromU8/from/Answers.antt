use Rattle.std.proofs.Common.{rules}
use Rattle.style.proofs.Laws.{code_disabled, code_full, code_dynamic}
use Rattle.style.proofs.table.ContentArrangementFromU8.from.Goals as goal

pub returns-in-0 : goal.returns-in-0
returns-in-0 c = search (rules, code_disabled)

pub returns-in-2 : goal.returns-in-2
returns-in-2 c = search (rules, code_full)

pub returns-in_default : goal.returns-in_default
returns-in_default c = search (rules, code_dynamic)
