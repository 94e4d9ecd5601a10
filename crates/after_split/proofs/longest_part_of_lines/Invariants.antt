use Rattle.after_split.proofs.Tries.{LinesSoFar}
use Rattle.after_split.proofs.longest_part_of_lines.Given as goal

abbrev pub invariant-loop-c : goal.invariant-loop-c
invariant-loop-c l = LinesSoFar l.sheet l.average l.delimiter l.before l.initial.c l.c l.longest

abbrev pub decreases-loop-c : goal.decreases-loop-c
decreases-loop-c l = l.c.left
