-- `accepted::AcceptedSheet::longest` meets its contract. The loop: the steps so far. Assumes nothing.
use native.Mathlib.Omega.{arith}
use Rattle.table.proofs.Held.{room}
use Rattle.table.proofs.Passes.{pass_begins, pass_inside, pass_asks, is-taken, is-ended, pass-column, pass-onward, pass-again, pass_done}
use Rattle.table.proofs.accepted.AcceptedSheet.longest.Goals as goal

pub bounds-self-header : goal.bounds-self-header
bounds-self-header c = let r = room _ c.args.self.now.accepted in omega (arith, c.header_place-header.ensures)

pub overflow_add-at : goal.overflow_add-at
overflow_add-at c = let r = room _ c.args.self.now.accepted in omega (arith, c.header_place-header.ensures)

pub loop-taken-init : goal.loop-taken-init
loop-taken-init c = pass_begins _ _ _ c.args.self.now.accepted c.header_place-header.ensures c.from-rows.ensures

pub slice_bounds-step-count : goal.slice_bounds-step-count
slice_bounds-step-count c = omega (arith, pass_inside _ _ c.loop-taken.invariant)

pub slice_bounds-step-start : goal.slice_bounds-step-start
slice_bounds-step-start c = omega (arith, pass_inside _ _ c.loop-taken.invariant)

pub step-requires : goal.step-requires
step-requires c = pass_asks _ _ c.loop-taken.invariant

pub returns : goal.returns
returns c =
    let i = c.loop-taken.invariant in
    pass_done _ _ i (is-ended _ _ i c.in_default.ensures)

pub offset_bounds-longest-taken : goal.offset_bounds-longest-taken
offset_bounds-longest-taken c =
    let i = c.loop-taken.invariant in
    omega (arith, pass-column _ _ i _ (is-taken _ _ i _ c.in-Some.ensures))

pub bounds-longest-taken : goal.bounds-longest-taken
bounds-longest-taken c =
    let i = c.loop-taken.invariant in
    pass-column _ _ i _ (is-taken _ _ i _ c.in-Some.ensures)

pub overflow_add-at-in-Some : goal.overflow_add-at-in-Some
overflow_add-at-in-Some c =
    let i = c.loop-taken.invariant in
    let o = pass-onward _ _ i _ (is-taken _ _ i _ c.in-Some.ensures) in
    omega (arith, o.1)

pub loop-taken-smaller : goal.loop-taken-smaller
loop-taken-smaller c =
    let i = c.loop-taken.invariant in
    let o = pass-onward _ _ i _ (is-taken _ _ i _ c.in-Some.ensures) in
    omega (arith, o.0, o.1)

pub loop-taken-preserved : goal.loop-taken-preserved
loop-taken-preserved c =
    let i = c.loop-taken.invariant in
    pass-again _ _ i _ (is-taken _ _ i _ c.in-Some.ensures)
