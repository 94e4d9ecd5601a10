-- `accepted::AcceptedSheet::settings` meets its contract. Assumes nothing.
use native.Mathlib.Omega.{arith}
use Rattle.table.proofs.Held.{room, settings-held}
use Rattle.table.proofs.accepted.AcceptedSheet.settings.Goals as goal

pub bounds-self-1 : goal.bounds-self-1
bounds-self-1 c = let r = room _ c.args.self.now.accepted in omega arith

pub word_at-requires : goal.word_at-requires
word_at-requires c = let r = room _ c.args.self.now.accepted in omega arith

pub bounds-self-4 : goal.bounds-self-4
bounds-self-4 c = let r = room _ c.args.self.now.accepted in omega arith

pub returns : goal.returns
returns c = rw c.word_at.ensures (settings-held _ c.args.self.now.accepted)
