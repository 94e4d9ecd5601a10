-- `table::step::cell_head` meets its contract. Assumes nothing.
use native.Mathlib.Omega.{arith}
use Rattle.table.proofs.Heads.{cell_room, cell-headed}
use Rattle.table.proofs.step.cell_head.Goals as goal

pub overflow_add-at : goal.overflow_add-at
overflow_add-at c = let h = cell_room _ _ _ c.requires.0 c.requires.1.0 c.requires.1.1 in omega arith

pub bounds-rest-at : goal.bounds-rest-at
bounds-rest-at c = let h = cell_room _ _ _ c.requires.0 c.requires.1.0 c.requires.1.1 in omega arith

pub overflow_add-result : goal.overflow_add-result
overflow_add-result c = let h = cell_room _ _ _ c.requires.0 c.requires.1.0 c.requires.1.1 in omega arith

pub returns : goal.returns
returns c = (cell-headed _ _ _ c.requires.0 _ c.requires.1.0 c.requires.1.1 c.from-lines.ensures, omega arith)
