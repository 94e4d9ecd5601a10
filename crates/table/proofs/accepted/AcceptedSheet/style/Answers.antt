use native.Mathlib.Omega.{arith}
use mathlib.Core.Path.{◌∙◌}
use Rattle.table.proofs.Held.{room, style-lent}
use Rattle.table.proofs.accepted.AcceptedSheet.style.Goals as goal

pub overflow_add-first : goal.overflow_add-first
overflow_add-first c = let r = room _ c.args.self.now.accepted in omega (arith, c.style_place-first.ensures)

pub overflow_add-first-2 : goal.overflow_add-first-2
overflow_add-first-2 c = let r = room _ c.args.self.now.accepted in omega (arith, c.style_place-first.ensures)

pub slice_bounds-copy_from_slice-end-2 : goal.slice_bounds-copy_from_slice-end-2
slice_bounds-copy_from_slice-end-2 c = let r = room _ c.args.self.now.accepted in omega (arith, c.style_place-first.ensures)

pub returns : goal.returns
returns c = c.copy_from_slice.ensures.after ∙ style-lent _ _ c.args.self.now.accepted c.style_place-first.ensures
