-- `table::walk::line` meets its contract. Assumes nothing.
use Rattle.table.proofs.Walks.{line-room, line_is}
use native.Mathlib.Omega.{arith}
use Rattle.table.proofs.walk.line.Goals as goal

pub overflow_add-start : goal.overflow_add-start
overflow_add-start c = let h = line-room _ _ c.requires.0 c.requires.1 in omega arith

pub bounds-sheet-at : goal.bounds-sheet-at
bounds-sheet-at c = let h = line-room _ _ c.requires.0 c.requires.1 in omega arith

pub overflow_add-end : goal.overflow_add-end
overflow_add-end c = let h = line-room _ _ c.requires.0 c.requires.1 in omega arith

pub slice_bounds-result-end : goal.slice_bounds-result-end
slice_bounds-result-end c = let h = line-room _ _ c.requires.0 c.requires.1 in omega arith

pub returns : goal.returns
returns c = line_is _ _ c.requires.0 _ c.from.ensures
