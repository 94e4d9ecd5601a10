use Prim.Native.Nat.{◌≤◌}
use mathlib.Core.Path.{◌≡◌}
use Rattle.text_width.specs.Measure.{col}
use Rattle.text_width.proofs.count_few.Given as goal

abbrev pub invariant-loop-b : goal.invariant-loop-b
invariant-loop-b l = record { few : l.n ≤ l.b-index; so : l.n ≡ col l.text l.b-index }
