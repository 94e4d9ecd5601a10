use Prim.Native.Nat.{ℕ}
use mathlib.Core.Path.{◌≡◌}
use lib.ListN.{set}
use Rattle.constraint.specs.Widths.{Tells, in_order}
use Rattle.constraint.proofs.Layout.by_column.Given as goal

abbrev pub invariant-loop-i : goal.invariant-loop-i
invariant-loop-i g l =
    (f : ℕ → _) → Tells l.self (goal.F-post g l.f) f → l.each ≡ in_order (λ i xs. set xs i (f i)) l.i l.initial.each
