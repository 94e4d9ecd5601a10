use Prim.Native.Nat.{◌≤◌}
use mathlib.Core.Path.{◌≡◌}
use Rattle.constraint.specs.Widths.{in_order}
use Rattle.sharing.specs.Share.{Sharing, sharing}
use Rattle.sharing.proofs.distribute_remaining_space.Given as goal

abbrev pub invariant-loop-i : goal.invariant-loop-i
invariant-loop-i l =
    (l.given ≤ l.i)
    × ◌≡◌ {A = Sharing} (record { state = l.s; given = l.given }) (in_order (sharing l.t l.total l.parts) l.i (record { state = l.initial.s; given = 0 }))
