use Rattle.parts.specs.Ahead.{steps_of}
use Rattle.lines.proofs.Walks.{Reaching}
use Rattle.lines.proofs.seek.Given as goal

abbrev pub invariant-loop-n : goal.invariant-loop-n
invariant-loop-n l = Reaching l.p.sheet.now l.p.info l.k l.c l.left

abbrev pub decreases-loop-n : goal.decreases-loop-n
decreases-loop-n l = steps_of l.c
