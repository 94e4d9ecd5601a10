-- The check finds this by itself; the answer names the fact that the edit `repeat_by_remaining` makes false. Assumes nothing.
use Prim.Native.Nat.{ℕ}
use mathlib.Core.Path.{refl, sym, subst}
use mathlib.Core.Bool.{not}
use native.Mathlib.Omega.{arith}
use lib.Dec.{eqb}
use Rattle.arrangement.specs.Arrange.{repeated, turn}
use Rattle.arrangement.proofs.Rounds.{Going, turn_grew, round-again}
use Rattle.arrangement.proofs.dynamic.repeat.Goals as goal

pub loop-again-preserved : goal.loop-again-preserved
loop-again-preserved g c =
    let u = c.pass.new.s in
    let f = turn g.S.Step.ended (g.S.Step.rule c.args.step.now) c.args.t.now in
    let going = c.loop-again.invariant.0 in
    let grew = turn_grew c.args.t.now (omega (arith, c.len.ensures)) c.loop-again.s going.small g.S.Step.ended (g.S.Step.rule c.args.step.now) in (
      subst (λ (d : ℕ). Going f (repeated f c.args.s.now) u (not (eqb u.decided.0 d))) (sym c.loop-again.invariant.1)
          (round-again _ _ _ _ going c.loop-again-test.true _ c.pass.ensures grew),
      refl,
    )
