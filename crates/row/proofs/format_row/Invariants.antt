use Rattle.table.specs.Walk.{cells_in}
use Rattle.row.proofs.Open.{Opening}
use Rattle.row.proofs.format_row.Given as goal

abbrev pub invariant-loop-i : goal.invariant-loop-i
invariant-loop-i l = Opening l.plain l.sheet l.columns (cells_in l.sheet l.fn.cells) l.n l.state l.i-iterator.iter l.more l.i-iterator.count
