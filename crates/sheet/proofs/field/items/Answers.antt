-- `sheet::field::items` meets its contract. Assumes nothing.
use Rattle.std.proofs.lemmas.Result.{err_from_is_err_and}
use Rattle.sheet.proofs.Loops.{items-again, items_done, items_stopped}
use Rattle.sheet.proofs.field.items.Goals as goal

pub returns-in_err-at : goal.returns-in_err-at
returns-in_err-at g c = λ f h.
    let p = err_from_is_err_and c.from_residual.result c.from_residual.ensures.1 in
    rw (p.1, p.2) (items_stopped f h.off _ _ _ _ _ _ c.loop-test.true (c.loop.invariant f h) (h.at _ _ c.in_err-at.ensures))

pub loop-preserved : goal.loop-preserved
loop-preserved g c = λ f h. items-again f _ _ _ _ _ c.loop-test.true (c.loop.invariant f h) (h.at _ _ c.in_ok-at.ensures)

pub returns : goal.returns
returns g c = λ f h. items_done f _ _ _ _ c.loop-test.false (c.loop.invariant f h)
