use Rattle.std.proofs.Common.{◌≡◌, ◌-◌, ◌≤◌, length}
use Rattle.small_sheets.proofs.write_sheets.Given as goal

abbrev pub invariant-loop-n : goal.invariant-loop-n
invariant-loop-n g l = (72 ≤ length l.space) × (length l.space ≡ length l.initial.space)

abbrev pub decreases-loop-n : goal.decreases-loop-n
decreases-loop-n g l = 32736 - l.n
