use Prim.Native.Nat.{◌≤◌}
use mathlib.Core.Path.{◌≡◌}
use Rattle.constraint.specs.Widths.{in_order}
use Rattle.sharing.specs.Share.{Sharing, widening}
use Rattle.sharing.proofs.Shares.{Ahead}
use Rattle.sharing.proofs.use_full_width.Given as goal

abbrev pub invariant-loop-i : goal.invariant-loop-i
invariant-loop-i l =
    (l.given ≤ l.i) × Ahead l.i l.s
    × ◌≡◌ {A = Sharing} (record { state = l.s; given = l.given }) (in_order (widening l.t l.total l.parts) l.i (record { state = l.initial.s; given = 0 }))
