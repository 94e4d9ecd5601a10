-- `table::step::step` meets its contract. The loop: the same lines are ahead after each head. Assumes nothing.
use native.Mathlib.Omega.{arith}
use Prim.Native.Nat.{◌<◌}
use Rattle.table.proofs.Heads.{same-again, same_ready, same_inside, first_narrow}
use Rattle.table.proofs.step.step.Goals as goal

pub take_line-requires : goal.take_line-requires
take_line-requires c =
    let some : 0 < c.loop-p.p.left.lines = omega (arith, c.loop-p-test.false) in
    (same_ready _ _ _ _ c.loop-p.invariant.1.0.inside c.loop-p.invariant.0, (some, first_narrow _ _ _ c.loop-p.invariant.0 some c.loop-p.invariant.1.1))

pub loop-p-smaller : goal.loop-p-smaller
loop-p-smaller c =
    let i = c.loop-p.invariant in
    let t = c.in_ok-p.ensures in
    omega (arith, t.1, same_inside _ _ _ _ i.1.0.inside (same-again _ _ _ _ _ i.0 t.0))
