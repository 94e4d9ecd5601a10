use native.Mathlib.Omega.{arith}
use Rattle.table.proofs.Heads.{line_shorter, line-counted}
use Rattle.table.proofs.step.longer.Goals as goal

pub returns-then-max-from : goal.returns-then-max-from
returns-then-max-from c = line_shorter _ c.args.line.now (omega (arith, c.if-max-from.true, c.max.ensures, c.from.ensures))

pub overflow_cast-max : goal.overflow_cast-max
overflow_cast-max c = omega (arith, c.max-2.ensures, (line-counted c.args.line.now _ (rw c.unknown.ensures.0 at c.columns-characters.ensures)).1, c.requires)

pub returns : goal.returns
returns c = omega (arith, c.max-3.ensures, c.max-2.ensures, (line-counted c.args.line.now _ (rw c.unknown.ensures.0 at c.columns-characters.ensures)).0)
