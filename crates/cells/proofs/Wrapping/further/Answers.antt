use borrow.Author.Tests.{not-true}
use Rattle.cells.proofs.Laws.{moving-on, moving-ended, moving_done}
use Rattle.cells.proofs.Wrapping.further.Goals as goal

pub returns-then-not-r : goal.returns-then-not-r
returns-then-not-r c = moving-ended _ _ _ _ _ _ _ c.loop.invariant (not-true _ c.if-not-r.true)

pub loop-preserved : goal.loop-preserved
loop-preserved c = moving-on _ _ _ _ _ _ _ c.loop.invariant c.loop-test.true _ c.next_line-r.ensures

pub returns : goal.returns
returns c = moving_done _ _ _ _ _ _ _ c.loop.invariant c.loop-test.false
