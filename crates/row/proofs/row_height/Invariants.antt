use Rattle.std.specs.Prelude.{length}
use Rattle.table.specs.Walk.{cells_in}
use Rattle.row.proofs.Heights.{Measuring}
use Rattle.row.proofs.row_height.Given as goal

abbrev pub invariant-loop-v : goal.invariant-loop-v
invariant-loop-v l = Measuring l.plain l.sheet l.columns (cells_in l.sheet l.fn.from) l.v-iterator l.most (length l.yielded)
