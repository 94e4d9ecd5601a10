use Rattle.std.proofs.Common.{rules}
use Rattle.style.proofs.Laws.{code_1, code_2, code_3, code_4, code_5, code_6, code_other}
use Rattle.style.proofs.column.ColumnConstraint.of.Goals as goal

pub returns-in-1 : goal.returns-in-1
returns-in-1 c = search (rules, code_1)

pub returns-in-2 : goal.returns-in-2
returns-in-2 c = search (rules, code_2)

pub returns-in-3 : goal.returns-in-3
returns-in-3 c = search (rules, code_3)

pub returns-in-4 : goal.returns-in-4
returns-in-4 c = search (rules, code_4)

pub returns-in-5 : goal.returns-in-5
returns-in-5 c = search (rules, code_5)

pub returns-in-6 : goal.returns-in-6
returns-in-6 c = search (rules, code_6)

pub returns-in_default : goal.returns-in_default
returns-in_default c = search (rules, code_other)
