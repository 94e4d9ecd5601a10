use mathlib.Core.Path.{◌≡◌}
use Rattle.constraint.specs.Widths.{in_order, column, evaluated}
use Rattle.arrangement.proofs.start.Given as goal

abbrev pub invariant-loop-i : goal.invariant-loop-i
invariant-loop-i l = l.s ≡ in_order (λ i. evaluated l.t (column l.t i) i) l.i l.initial.s
