use native.Mathlib.Omega.{arith}
use Rattle.table.proofs.Held.{room, indicator-lent}
use Rattle.table.proofs.accepted.AcceptedSheet.indicator.Goals as goal

pub bounds-self-5 : goal.bounds-self-5
bounds-self-5 c = let r = room _ c.args.self.now.accepted in omega arith

pub slice_bounds-result-end : goal.slice_bounds-result-end
slice_bounds-result-end c = let r = room _ c.args.self.now.accepted in omega (arith, c.from-end.ensures)

pub returns : goal.returns
returns c = indicator-lent _ _ c.args.self.now.accepted c.from-end.ensures
