use native.Mathlib.Omega.{arith}
use mathlib.Core.Path.{refl}
use Rattle.row.proofs.ByColumn.{walked-here, known-here, walking_done}
use Rattle.row.proofs.Open.{opening_begins, opening_on}
use Rattle.row.proofs.format_row.Goals as goal

pub loop-i-init : goal.loop-i-init
loop-i-init c =
    rw (c.into_iter-i-iterator.ensures.into_iter_gives, c.enumerate-i-items.ensures.source, c.enumerate-i-items.ensures.count)
    (opening_begins c.args.plain c.args.sheet.now c.args.columns.now c.args.cells c.args.n c.args.state.now c.requires.rising.1.1 c.new.result c.new.ensures
    c.requires.cells_in_bounds.1)

pub open_cell-t-requires : goal.open_cell-t-requires
open_cell-t-requires c =
    let i = c.loop-i.invariant in
    let w = i.walking in
    let h = walked-here _ c.args.columns.now _ c.loop-i.i-iterator.iter c.next.new.self.iter _ w c.in-Some.v c.in-Some.here c.in-Some.ensures.steps.0 in
    let k = known-here _ c.args.columns.now _ c.loop-i.i-iterator.iter c.next.new.self.iter _ w c.in-Some.v c.in-Some.here c.in-Some.ensures.steps.0 c.args.plain
    i.known in
    record { width_nonzero = rw h.column (c.requires.rising.1.0 _ h.within); cells_in_bounds = (h.inside, k) }

pub bounds-state-i : goal.bounds-state-i
bounds-state-i c =
    let h = walked-here _ c.args.columns.now _ c.loop-i.i-iterator.iter c.next.new.self.iter _ c.loop-i.invariant.walking c.in-Some.v c.in-Some.here
    c.in-Some.ensures.steps.0 in
    omega (arith, h.within, c.in-Some.ensures.steps.1, c.requires.rising.0.most)

pub loop-i-preserved : goal.loop-i-preserved
loop-i-preserved c =
    rw (c.in-Some.ensures.steps.1, c.in-Some.ensures.steps.2)
    (opening_on c.args.plain c.args.sheet.now c.args.columns.now c.requires.rising.0.most _ c.args.n c.loop-i.state c.loop-i.i-iterator.iter
    c.next.new.self.iter c.loop-i.more _ c.loop-i.invariant c.in-Some.v c.in-Some.here c.in-Some.ensures.steps.0 c.open_cell-t.result _
    c.open_cell-t.ensures.0 c.open_cell-t.ensures.1 refl)

pub returns : goal.returns
returns c =
    let i = c.loop-i.invariant in
    let e = walking_done _ c.args.columns.now _ c.loop-i.i-iterator.iter _ i.walking c.in-None.ensures.steps.0.0 in
    record {
      opened = (record { size = i.size; each = λ k h. i.done k (omega (arith, h, e)) }, rw e at i.found);
      walked = λ k h. i.walked k (omega (arith, h, e));
    }
