-- `table::step::section_head` meets its contract. Assumes nothing.
use native.Mathlib.Omega.{arith}
use Rattle.table.proofs.Heads.{section-room, section-headed}
use Rattle.table.proofs.step.section_head.Goals as goal

pub bounds-rest-at : goal.bounds-rest-at
bounds-rest-at c =
    let h = section-room _ _ _ c.requires.0 c.requires.1.0 c.requires.1.1.0 c.requires.1.1.1.0 c.requires.1.1.1.1 in
    omega arith

pub overflow_add-result : goal.overflow_add-result
overflow_add-result c =
    let h = section-room _ _ _ c.requires.0 c.requires.1.0 c.requires.1.1.0 c.requires.1.1.1.0 c.requires.1.1.1.1 in
    omega arith

pub returns : goal.returns
returns c = (
  section-headed _ _ _ c.requires.0 _ c.requires.1.0 c.requires.1.1.0 c.requires.1.1.1.0 c.requires.1.1.1.1 c.from-rows.ensures,
  omega arith,
)
