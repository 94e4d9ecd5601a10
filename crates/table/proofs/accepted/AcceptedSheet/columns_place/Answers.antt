-- `accepted::AcceptedSheet::columns_place` meets its contract. Assumes nothing.
use native.Mathlib.Omega.{arith}
use Rattle.table.proofs.Held.{room}
use Rattle.table.proofs.accepted.AcceptedSheet.columns_place.Goals as goal

pub overflow_add-result : goal.overflow_add-result
overflow_add-result c = let r = room _ c.args.self.now.accepted in omega (arith, c.style_place.ensures)

pub returns : goal.returns
returns c = let r = room _ c.args.self.now.accepted in omega (arith, c.style_place.ensures)
