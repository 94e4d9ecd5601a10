use Prim.Native.Nat.{◌+◌}
use mathlib.Core.Path.{◌≡◌}
use Rattle.arrangement.specs.Arrange.{repeated, turn}
use Rattle.arrangement.proofs.Rounds.{left, Going, weight}
use Rattle.arrangement.proofs.dynamic.repeat.Given as goal

abbrev pub invariant-loop-again : goal.invariant-loop-again
invariant-loop-again g l =
    let f = turn g.S.Step.ended (g.S.Step.rule l.step) l.t in
    Going f (repeated f l.initial.s) l.s l.again × (l.before ≡ l.s.decided.0)

abbrev pub decreases-loop-again : goal.decreases-loop-again
decreases-loop-again g l = left l.s + weight l.again
