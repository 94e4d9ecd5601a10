-- `table::walk::cell_end` meets its contract. The loop: the lines that are left end where the cell does. Assumes nothing.
use Rattle.table.proofs.Walks.{cell_begin, passing-again, passing_done, passing_inside}
use Rattle.laws.proofs.Stands.{cell-onward, lines-onward}
use native.Mathlib.Omega.{arith}
use Rattle.table.proofs.walk.cell_end.Goals as goal

pub overflow_add-at : goal.overflow_add-at
overflow_add-at c = let h = cell-onward c.args.sheet.now c.args.at in omega arith

pub bounds-sheet-at : goal.bounds-sheet-at
bounds-sheet-at c = let h = cell-onward c.args.sheet.now c.args.at in omega arith

pub overflow_add-p : goal.overflow_add-p
overflow_add-p c = let h = cell-onward c.args.sheet.now c.args.at in omega arith

pub loop-init : goal.loop-init
loop-init c = (cell_begin _ _ _ c.from-lines.ensures, c.requires)

pub line_end-p-requires : goal.line_end-p-requires
line_end-p-requires c =
    let h = passing_inside _ _ _ _ _ (lines-onward _) c.loop-test.true c.loop.invariant.0 in
    omega (arith, c.loop.invariant.1)

pub loop-preserved : goal.loop-preserved
loop-preserved c = (
  passing-again _ _ _ _ _ _ c.loop-test.true c.loop.invariant.0 c.line_end-p.ensures,
  c.loop.invariant.1,
)

pub returns : goal.returns
returns c = passing_done _ _ _ _ _ c.loop-test.false c.loop.invariant.0
