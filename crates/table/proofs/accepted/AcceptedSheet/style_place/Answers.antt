-- `accepted::AcceptedSheet::style_place` meets its contract. Assumes nothing.
use native.Mathlib.Omega.{arith}
use Rattle.table.proofs.Held.{room}
use Rattle.table.proofs.accepted.AcceptedSheet.style_place.Goals as goal

pub bounds-self-5 : goal.bounds-self-5
bounds-self-5 c = let r = room _ c.args.self.now.accepted in omega arith

pub returns : goal.returns
returns c = let r = room _ c.args.self.now.accepted in omega (arith, c.from.ensures, r.style_at)
