-- `table::walk::row` meets its contract. Assumes nothing.
use Rattle.table.proofs.Walks.{row_room, row_is}
use native.Mathlib.Omega.{arith}
use Rattle.table.proofs.walk.row.Goals as goal

pub bounds-sheet-at : goal.bounds-sheet-at
bounds-sheet-at c = let h = row_room _ _ c.requires.0 c.requires.1 in omega arith

pub overflow_add-at : goal.overflow_add-at
overflow_add-at c = let h = row_room _ _ c.requires.0 c.requires.1 in omega arith

pub bounds-sheet-at-2 : goal.bounds-sheet-at-2
bounds-sheet-at-2 c = let h = row_room _ _ c.requires.0 c.requires.1 in omega arith

pub overflow_add-result : goal.overflow_add-result
overflow_add-result c = let h = row_room _ _ c.requires.0 c.requires.1 in omega arith

pub returns : goal.returns
returns c = row_is _ _ c.requires.0 _ _ c.from-limit.ensures c.from-left.ensures
