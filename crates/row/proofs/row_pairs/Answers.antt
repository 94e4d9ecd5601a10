use native.Mathlib.Omega.{arith}
use lib.ListN.{length-append}
use Rattle.row.specs.Height.{pairs_held}
use Rattle.row.proofs.Heights.{adding_begins, adding-on, adding_done}
use Rattle.row.proofs.row_pairs.Goals as goal

pub loop-here-init : goal.loop-here-init
loop-here-init c =
    rw c.into_iter-here-iterator.ensures.into_iter_gives
    (adding_begins pairs_held 32768 c.args.sheet.now c.args.columns.now c.args.from c.new-here-items.result c.new-here-items.ensures)

pub loop-here-preserved : goal.loop-here-preserved
loop-here-preserved c =
    adding-on pairs_held 32768 c.args.sheet.now c.args.columns.now _ c.loop-here.here-iterator c.loop-here.sum _ c.loop-here.invariant c.next.new.self
    c.in-Some.field-0-0 c.in-Some.here c.in-Some.ensures.steps _ _ (c.open_pairs-sum.ensures.0, omega (arith, c.open_pairs-sum.ensures.1, c.requires.1.1))
    (length-append c.loop-here.yielded _)

pub returns : goal.returns
returns c =
    adding_done pairs_held 32768 c.args.sheet.now c.args.columns.now _ c.loop-here.here-iterator c.loop-here.sum _ c.loop-here.invariant
    c.in-None.ensures.steps.0
