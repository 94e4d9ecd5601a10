use Rattle.cells.proofs.Laws.{Moving}
use Rattle.cells.proofs.Wrapping.further.Given as goal

abbrev pub invariant-loop : goal.invariant-loop
invariant-loop l = Moving l.self.sheet.now l.self.width l.self.delimiter l.n l.initial.r l.counter l.r
