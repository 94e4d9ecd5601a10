use Prim.Native.Nat.{◌*◌, ◌≤◌}
use mathlib.Core.Path.{◌≡◌}
use Rattle.display_info.specs.Lengths.{width_up_to}
use Rattle.display_info.proofs.lengths.visible_width.Given as goal

abbrev pub invariant-loop-v : goal.invariant-loop-v
invariant-loop-v l = record { so : l.sum ≡ width_up_to l.columns l.v-index; small : l.sum ≤ 65536 * l.v-index }
