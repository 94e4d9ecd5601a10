use Rattle.cells.proofs.Laws.{Seeking}
use Rattle.cells.proofs.Wrapping.first_line.Given as goal

abbrev pub invariant-loop-c : goal.invariant-loop-c
invariant-loop-c l = Seeking l.self.sheet.now l.self.width l.self.delimiter l.plain l.initial.c l.c

abbrev pub decreases-loop-c : goal.decreases-loop-c
decreases-loop-c l = l.c.left
