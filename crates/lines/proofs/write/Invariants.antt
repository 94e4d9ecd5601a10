use Rattle.parts.specs.Ahead.{steps_of}
use Rattle.lines.proofs.Walks.{Filling}
use Rattle.lines.proofs.write.Given as goal

abbrev pub invariant-loop-part : goal.invariant-loop-part
invariant-loop-part l = Filling l.p.sheet.now l.p.info l.initial.c l.initial.page l.page l.c l.lines l.bytes

abbrev pub decreases-loop-part : goal.decreases-loop-part
decreases-loop-part l = steps_of l.c
