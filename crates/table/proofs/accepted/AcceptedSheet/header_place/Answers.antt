-- `accepted::AcceptedSheet::header_place` meets its contract. Assumes nothing.
use native.Mathlib.Omega.{arith}
use Rattle.table.proofs.Held.{room, header_at}
use Rattle.table.proofs.accepted.AcceptedSheet.header_place.Goals as goal

pub overflow_add-result : goal.overflow_add-result
overflow_add-result c = let r = room _ c.args.self.now.accepted in omega (arith, c.columns_place-columns.ensures)

pub bounds-self-columns : goal.bounds-self-columns
bounds-self-columns c = let r = room _ c.args.self.now.accepted in omega (arith, c.columns_place-columns.ensures)

pub overflow_add-result-2 : goal.overflow_add-result-2
overflow_add-result-2 c = let r = room _ c.args.self.now.accepted in omega (arith, c.columns_place-columns.ensures, c.from.ensures)

pub returns : goal.returns
returns c = header_at _ _ _ c.args.self.now.accepted c.columns_place-columns.ensures c.from.ensures
