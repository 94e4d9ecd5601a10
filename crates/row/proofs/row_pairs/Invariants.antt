use Rattle.std.specs.Prelude.{length}
use Rattle.table.specs.Walk.{cells_in}
use Rattle.row.specs.Height.{pairs_held}
use Rattle.row.proofs.Heights.{Adding}
use Rattle.row.proofs.row_pairs.Given as goal

abbrev pub invariant-loop-here : goal.invariant-loop-here
invariant-loop-here l = Adding pairs_held 32768 l.sheet l.columns (cells_in l.sheet l.fn.from) l.here-iterator l.sum (length l.yielded)
