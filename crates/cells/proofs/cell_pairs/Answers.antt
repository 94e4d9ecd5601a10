use Rattle.cells.proofs.Counts.{span-most, pairing_begins, pairing_less, pairing-on, pairing_done}
use Rattle.cells.proofs.cell_pairs.Goals as goal

pub loop-text-init : goal.loop-text-init
loop-text-init c = rw c.into_iter-text-iterator.ensures.into_iter_gives (pairing_begins _ _ (span-most _ _ c.requires))

pub overflow_sub-n : goal.overflow_sub-n
overflow_sub-n c =
    let left = rw c.in-Some.ensures.steps at c.loop-text.invariant in
    pairing_less _ _ _ c.in-Some.text.now _ left _ (rw c.unknown.ensures.0 at c.columns.ensures)

pub loop-text-preserved : goal.loop-text-preserved
loop-text-preserved c =
    let left = rw c.in-Some.ensures.steps at c.loop-text.invariant in
    pairing-on _ _ _ c.in-Some.text.now _ left _ (rw c.unknown.ensures.0 at c.columns.ensures)

pub returns : goal.returns
returns c = pairing_done _ _ _ (rw c.in-None.ensures.steps.0 at c.loop-text.invariant)
