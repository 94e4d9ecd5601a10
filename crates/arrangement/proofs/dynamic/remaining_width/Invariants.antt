use mathlib.Core.Path.{◌≡◌}
use Rattle.constraint.specs.Widths.{in_order, column}
use Rattle.arrangement.specs.Arrange.{charged, decided_width}
use Rattle.arrangement.proofs.dynamic.remaining_width.Given as goal

abbrev pub invariant-loop-i : goal.invariant-loop-i
invariant-loop-i l = l.r ≡ in_order (λ i. charged (column l.t i) (decided_width l.s i)) l.i l.initial.r
