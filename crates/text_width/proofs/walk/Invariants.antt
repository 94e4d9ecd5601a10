use Prim.Native.Nat.{◌+◌}
use mathlib.Core.Path.{◌≡◌}
use Rattle.text_width.specs.Measure.{col}
use Rattle.text_width.proofs.walk.Given as goal

abbrev pub invariant-loop-e : goal.invariant-loop-e
invariant-loop-e l = col l.text l.e + l.left ≡ col l.text l.from + l.width
