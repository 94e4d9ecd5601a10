-- `accepted::AcceptedSheet::header` meets its contract. Assumes nothing.
use native.Mathlib.Omega.{arith}
use Rattle.table.proofs.Held.{room}
use Rattle.table.proofs.Walks.{header_is}
use Rattle.table.proofs.accepted.AcceptedSheet.header.Goals as goal

pub bounds-self-place : goal.bounds-self-place
bounds-self-place c = let r = room _ c.args.self.now.accepted in omega (arith, c.header_place-place.ensures)

pub overflow_add-result : goal.overflow_add-result
overflow_add-result c = let r = room _ c.args.self.now.accepted in omega (arith, c.header_place-place.ensures)

pub returns : goal.returns
returns c = header_is _ _ _ c.args.self.now.accepted c.header_place-place.ensures c.from-left.ensures
