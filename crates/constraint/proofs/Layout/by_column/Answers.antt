use Rattle.std.proofs.Common.{arith}
use Rattle.constraint.proofs.Layout.by_column.Goals as goal

pub returns : goal.returns
returns g c = λ f h. grind (arith, c.loop-i.invariant f h)
