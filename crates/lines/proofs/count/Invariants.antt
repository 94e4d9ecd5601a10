use Rattle.parts.specs.Ahead.{steps_of}
use Rattle.lines.proofs.Walks.{Counting}
use Rattle.lines.proofs.count.Given as goal

abbrev pub invariant-loop-c : goal.invariant-loop-c
invariant-loop-c l = Counting l.p.sheet.now l.p.info l.c l.lines l.bytes

abbrev pub decreases-loop-c : goal.decreases-loop-c
decreases-loop-c l = steps_of l.c
