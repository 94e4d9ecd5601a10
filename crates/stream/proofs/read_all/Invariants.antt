-- No more is read than there is room for.
use Rattle.std.proofs.Common.{◌≡◌, ◌≤◌, length}
use Rattle.stream.proofs.read_all.Given as goal

abbrev pub invariant-loop : goal.invariant-loop
invariant-loop g l = (l.done ≤ length l.space) × (length l.space ≡ length l.initial.space)
