-- `table::walk::cell_end` meets its contract. The loop: the lines that are left end where the cell does. Assumes nothing.
use Rattle.table.proofs.Walks.{Passing}
use Rattle.rules.specs.Places.{line_stop, cell_stop}
use lib.ListN.{length}
use Prim.Native.Nat.{◌≤◌}
use Rattle.table.proofs.walk.cell_end.Given as goal

abbrev pub invariant-loop : goal.invariant-loop
invariant-loop l = Passing (line_stop l.sheet) l.lines l.counter l.p (cell_stop l.sheet l.at) × (cell_stop l.sheet l.at ≤ length l.sheet)
