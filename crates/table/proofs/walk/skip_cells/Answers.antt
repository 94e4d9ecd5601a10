-- `table::walk::skip_cells` meets its contract. Assumes nothing.
use borrow.Author.Rules.{rules}
use Rattle.table.proofs.Walks.{skip-again, skip_short}
use Rattle.table.proofs.walk.skip_cells.Goals as goal

pub returns-then-c-eq0 : goal.returns-then-c-eq0
returns-then-c-eq0 c = search (rules, skip_short)

pub loop-preserved : goal.loop-preserved
loop-preserved c = search (rules, skip-again)
