use native.Mathlib.Omega.{arith}
use Rattle.after_split.proofs.Trials.{line_bytes}
use Rattle.after_split.proofs.longer.Goals as goal

pub returns-then-line-longest : goal.returns-then-line-longest
returns-then-line-longest c = omega (arith, c.if-line-longest.true, line_bytes c.args.average c.args.delimiter c.args.line.now)
