use Rattle.cells.proofs.Counts.{span-most, counting_begins, counting-on, counting_done}
use Rattle.cells.proofs.Wrapping.cell_height.Goals as goal

pub loop-bytes-init : goal.loop-bytes-init
loop-bytes-init c = rw c.into_iter-bytes-iterator.ensures.into_iter_gives (counting_begins _ _ _ _ _ (span-most _ _ c.requires.0) c.requires.1)

pub loop-bytes-preserved : goal.loop-bytes-preserved
loop-bytes-preserved c =
    let h = c.line_height-n.ensures in
    counting-on _ _ _ _ _ _ c.in-Some.bytes.now _ (rw c.in-Some.ensures.steps at c.loop-bytes.invariant) _ h.0 h.1

pub returns : goal.returns
returns c = counting_done _ _ _ _ _ _ (rw c.in-None.ensures.steps.0 at c.loop-bytes.invariant)
