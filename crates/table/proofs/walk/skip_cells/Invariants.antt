-- `table::walk::skip_cells` meets its contract. Assumes nothing.
use Rattle.table.proofs.Walks.{Skipping}
use Rattle.table.proofs.walk.skip_cells.Given as goal

abbrev pub invariant-loop : goal.invariant-loop
invariant-loop l = Skipping l.sheet l.initial.c l.c l.n l.counter
