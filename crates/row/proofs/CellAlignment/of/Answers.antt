use Rattle.std.proofs.Common.{rules}
use Rattle.row.proofs.Alignment.{code_none, code_right, code_center, code_left}
use Rattle.row.proofs.CellAlignment.of.Goals as goal

pub returns-in-0 : goal.returns-in-0
returns-in-0 c other = code_none _ other c.in-0.is

pub returns-in-2 : goal.returns-in-2
returns-in-2 c other = code_right _ other c.in-2.is

pub returns-in-3 : goal.returns-in-3
returns-in-3 c other = code_center _ other c.in-3.is

pub returns-in_default : goal.returns-in_default
returns-in_default c other = search (rules, code_left)
