use mathlib.Core.Path.{◌≡◌}
use Rattle.constraint.specs.Widths.{in_order, step}
use Rattle.arrangement.proofs.dynamic.pass.Given as goal

abbrev pub invariant-loop-i : goal.invariant-loop-i
invariant-loop-i g l = l.s ≡ in_order (step (g.S.Step.rule l.step) l.t) l.i l.initial.s
