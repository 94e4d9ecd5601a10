-- `table::step::take_line` meets its contract. Assumes nothing.
use native.Mathlib.Omega.{arith}
use Rattle.table.proofs.Heads.{line_bytes, line_taken}
use Rattle.table.proofs.step.take_line.Goals as goal

pub overflow_add-start : goal.overflow_add-start
overflow_add-start c = let h = line_bytes _ _ _ c.requires.0 c.requires.1.0 in omega arith

pub bounds-rest-at : goal.bounds-rest-at
bounds-rest-at c = let h = line_bytes _ _ _ c.requires.0 c.requires.1.0 in omega arith

pub overflow_add-end : goal.overflow_add-end
overflow_add-end c =
    let h = line_bytes _ _ _ c.requires.0 c.requires.1.0 in
    omega (arith, c.from.ensures)

pub slice_bounds-longer-end : goal.slice_bounds-longer-end
slice_bounds-longer-end c =
    let h = line_bytes _ _ _ c.requires.0 c.requires.1.0 in
    omega (arith, c.from.ensures)

pub returns : goal.returns
returns c = line_taken _ _ _ c.requires.0 _ _ _ c.requires.1.0 c.from.ensures c.longer-found.ensures
