-- The bytes written fit the sheet, whose length is kept; each turn leaves less of the line.
use Rattle.std.proofs.Common.{◌≡◌, ◌≤◌, length}
use Rattle.refusals.proofs.decode.Given as goal

abbrev pub invariant-loop-rest : goal.invariant-loop-rest
invariant-loop-rest l = (l.size ≤ length l.sheet) × (length l.sheet ≡ length l.initial.sheet)

abbrev pub decreases-loop-rest : goal.decreases-loop-rest
decreases-loop-rest l = length l.rest
