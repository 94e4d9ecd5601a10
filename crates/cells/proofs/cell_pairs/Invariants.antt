use lib.ListN.{length}
use Rattle.table.specs.Walk.{lines_in}
use Rattle.cells.proofs.Counts.{Pairing}
use Rattle.cells.proofs.cell_pairs.Given as goal

abbrev pub invariant-loop-text : goal.invariant-loop-text
invariant-loop-text l =
    Pairing (length l.sheet) (lines_in l.sheet l.fn.lines) l.n (lines_in l.text-iterator.sheet.now l.text-iterator.lines)
