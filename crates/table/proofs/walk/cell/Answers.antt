-- `table::walk::cell` meets its contract. Assumes nothing.
use Rattle.table.proofs.Walks.{cell_room, cell_is}
use mathlib.Core.Path.{refl}
use native.Mathlib.Omega.{arith}
use Rattle.table.proofs.walk.cell.Goals as goal

pub overflow_add-at : goal.overflow_add-at
overflow_add-at c = let h = cell_room _ _ c.requires.0 c.requires.1 in omega arith

pub bounds-sheet-at : goal.bounds-sheet-at
bounds-sheet-at c = let h = cell_room _ _ c.requires.0 c.requires.1 in omega arith

pub bounds-sheet-at-2 : goal.bounds-sheet-at-2
bounds-sheet-at-2 c = let h = cell_room _ _ c.requires.0 c.requires.1 in omega arith

pub overflow_add-result : goal.overflow_add-result
overflow_add-result c = let h = cell_room _ _ c.requires.0 c.requires.1 in omega arith

pub bounds-sheet-at-3 : goal.bounds-sheet-at-3
bounds-sheet-at-3 c =
    let h = cell_room _ _ c.requires.0 c.requires.1 in
    omega arith

pub overflow_add-result-2 : goal.overflow_add-result-2
overflow_add-result-2 c =
    let h = cell_room _ _ c.requires.0 c.requires.1 in
    omega arith

pub returns : goal.returns
returns c = cell_is _ _ c.requires.0 _ _ _ refl refl c.from-left.ensures
