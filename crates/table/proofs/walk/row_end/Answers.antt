-- `table::walk::row_end` meets its contract. The loop: the cells that are left end where the row does. Assumes nothing.
use Rattle.table.proofs.Walks.{row_begin, passing-again, passing_done, passing_inside}
use Rattle.laws.proofs.Stands.{row-onward, cells-onward}
use native.Mathlib.Omega.{arith}
use Rattle.table.proofs.walk.row_end.Goals as goal

pub overflow_add-at : goal.overflow_add-at
overflow_add-at c = let h = row-onward c.args.sheet.now c.args.at in omega arith

pub bounds-sheet-at : goal.bounds-sheet-at
bounds-sheet-at c = let h = row-onward c.args.sheet.now c.args.at in omega arith

pub overflow_add-p : goal.overflow_add-p
overflow_add-p c = let h = row-onward c.args.sheet.now c.args.at in omega arith

pub loop-init : goal.loop-init
loop-init c = (row_begin _ _ _ c.from-cells.ensures, c.requires)

pub cell_end-p-requires : goal.cell_end-p-requires
cell_end-p-requires c =
    let h = passing_inside _ _ _ _ _ (cells-onward _) c.loop-test.true c.loop.invariant.0 in
    omega (arith, c.loop.invariant.1)

pub loop-preserved : goal.loop-preserved
loop-preserved c = (
  passing-again _ _ _ _ _ _ c.loop-test.true c.loop.invariant.0 c.cell_end-p.ensures,
  c.loop.invariant.1,
)

pub returns : goal.returns
returns c = passing_done _ _ _ _ _ c.loop-test.false c.loop.invariant.0
