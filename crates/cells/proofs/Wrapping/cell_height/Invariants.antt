use lib.ListN.{length}
use Rattle.table.specs.Walk.{lines_in}
use Rattle.cells.proofs.Counts.{Counting}
use Rattle.cells.proofs.Wrapping.cell_height.Given as goal

abbrev pub invariant-loop-bytes : goal.invariant-loop-bytes
invariant-loop-bytes l =
    Counting l.self.width l.self.delimiter l.plain (length l.self.sheet.now) (lines_in l.self.sheet.now l.fn.lines) l.n
    (lines_in l.bytes-iterator.sheet.now l.bytes-iterator.lines)
