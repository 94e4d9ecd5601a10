-- `table::walk::line_end` meets its contract. Assumes nothing.
use Rattle.rules.specs.Places.{line_stop}
use native.Mathlib.Omega.{arith}
use Rattle.table.proofs.walk.line_end.Goals as goal

pub overflow_add-result : goal.overflow_add-result
unfolding line_stop
overflow_add-result c = omega arith

pub bounds-sheet-at : goal.bounds-sheet-at
unfolding line_stop
bounds-sheet-at c = omega arith

pub overflow_add-result-2 : goal.overflow_add-result-2
unfolding line_stop
overflow_add-result-2 c = omega arith

pub returns : goal.returns
unfolding line_stop
returns c = omega arith
