use Rattle.std.proofs.Common.{arith, refl}
use Rattle.row.proofs.ByColumn.{rising-next, cells-next, known-next}
use Rattle.row.proofs.visible.VisibleCellsIterator.next.Goals as goal

pub invariant_of-self-clause-rising : goal.invariant_of-self-clause-rising
invariant_of-self-clause-rising c =
    let old = c.args.self.now in
    rising-next old.passed c.in_ok-v.field-0-0.now old.columns.now _ c.in_ok-v.ensures.cases.0 old.rising

pub returns-clause-steps : goal.returns-clause-steps
returns-clause-steps c =
    let old = c.args.self.now in
    let next = cells-next old.sheet.now old.left c.skip_cells-left.result old.passed c.in_ok-v.field-0-0.now old.columns.now _ c.in_ok-v.ensures.cases.0
    old.rising c.skip_cells-left.ensures.cells in
    let known = known-next old.sheet.now old.left c.skip_cells-left.result old.passed c.in_ok-v.field-0-0.now old.columns.now _
    c.in_ok-v.ensures.cases.0 old.rising c.skip_cells-left.ensures.cells in
    record { next = next; inside = omega (arith, c.skip_cells-left.ensures.ends, old.inside); sheet = refl; known = known; still = known }
