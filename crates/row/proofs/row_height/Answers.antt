use lib.ListN.{length-append}
use Rattle.row.proofs.ByColumn.{walked-here, known-here}
use Rattle.row.proofs.Heights.{measuring_begins, measuring-on, measuring_done}
use Rattle.row.proofs.row_height.Goals as goal

pub loop-v-init : goal.loop-v-init
loop-v-init c =
    rw c.into_iter-v-iterator.ensures.into_iter_gives
    (measuring_begins c.args.plain c.args.sheet.now c.args.columns.now c.args.from c.new-v-items.result c.new-v-items.ensures c.requires.from_in_bounds.1)

pub open_height-lines-requires : goal.open_height-lines-requires
open_height-lines-requires c =
    let i = c.loop-v.invariant in
    let h = walked-here _ c.args.columns.now _ c.loop-v.v-iterator c.next.new.self _ i.walking c.in-Some.v c.in-Some.here c.in-Some.ensures.steps in
    let k = known-here _ c.args.columns.now _ c.loop-v.v-iterator c.next.new.self _ i.walking c.in-Some.v c.in-Some.here c.in-Some.ensures.steps c.args.plain
    i.known in
    record { width_nonzero = rw h.column (c.requires.rising.1 _ h.within); from_in_bounds = (h.inside, k) }

pub loop-v-preserved : goal.loop-v-preserved
loop-v-preserved c =
    measuring-on c.args.plain c.args.sheet.now c.args.columns.now _ c.loop-v.v-iterator c.next.new.self c.loop-v.most _ c.loop-v.invariant
    c.in-Some.v c.in-Some.here c.in-Some.ensures.steps _ _ _ c.open_height-lines.ensures c.max-most.ensures (length-append c.loop-v.yielded _)

pub returns : goal.returns
returns c = measuring_done c.args.plain c.args.sheet.now c.args.columns.now _ c.loop-v.v-iterator c.loop-v.most _ c.loop-v.invariant c.in-None.ensures.steps.0
