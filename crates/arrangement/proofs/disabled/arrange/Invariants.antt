use mathlib.Core.Path.{◌≡◌}
use Rattle.constraint.specs.Widths.{in_order, step}
use Rattle.arrangement.specs.Arrange.{untargeted}
use Rattle.arrangement.proofs.disabled.arrange.Given as goal

abbrev pub invariant-loop-i : goal.invariant-loop-i
invariant-loop-i l = l.s ≡ in_order (step untargeted l.t) l.i l.initial.s
