use Rattle.after_split.proofs.Tries.{RowsSoFar}
use Rattle.after_split.proofs.longest_part_of_rows.Given as goal

abbrev pub invariant-loop-c : goal.invariant-loop-c
invariant-loop-c l = RowsSoFar l.sheet l.column l.average l.otherwise l.initial.c l.c l.longest

abbrev pub decreases-loop-c : goal.decreases-loop-c
decreases-loop-c l = l.c.left
