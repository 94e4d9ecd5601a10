-- `table::walk::row_end` meets its contract. The loop: the cells that are left end where the row does. Assumes nothing.
use Rattle.table.proofs.Walks.{Passing}
use Rattle.rules.specs.Places.{cell_stop, row_stop}
use lib.ListN.{length}
use Prim.Native.Nat.{◌≤◌}
use Rattle.table.proofs.walk.row_end.Given as goal

abbrev pub invariant-loop : goal.invariant-loop
invariant-loop l = Passing (cell_stop l.sheet) l.cells l.counter l.p (row_stop l.sheet l.at) × (row_stop l.sheet l.at ≤ length l.sheet)
