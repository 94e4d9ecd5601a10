-- `table::step::row_head` meets its contract. Assumes nothing.
use Prim.Native.Nat.{◌+◌}
use native.Mathlib.Omega.{arith}
use Rattle.table.proofs.Heads.{row_room, row-headed}
use Rattle.table.proofs.step.row_head.Goals as goal

pub overflow_add-at : goal.overflow_add-at
overflow_add-at c = let h = row_room _ _ _ c.requires.0 c.requires.1.0 c.requires.1.1.0 c.requires.1.1.1 in omega arith

pub bounds-rest-at : goal.bounds-rest-at
bounds-rest-at c =
    let h = row_room _ _ _ c.requires.0 c.requires.1.0 c.requires.1.1.0 c.requires.1.1.1 in
    omega arith

pub overflow_add-result : goal.overflow_add-result
overflow_add-result c =
    let h = row_room _ _ _ c.requires.0 c.requires.1.0 c.requires.1.1.0 c.requires.1.1.1 in
    omega arith

pub returns : goal.returns
returns c = (row-headed _ _ _ c.requires.0 _ c.requires.1.0 c.requires.1.1.0 c.requires.1.1.1 c.from-cells.ensures (omega (arith, c.from-cells.ensures, (c.type_inv.rest (c.args.at + 1)).fits)), omega arith)
