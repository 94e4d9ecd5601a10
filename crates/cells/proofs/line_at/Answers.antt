use mathlib.Core.Path.{sym, ap}
use mathlib.Core.List.{[]}
use native.Mathlib.Omega.{arith}
use lib.ListN.{get_or}
use Rattle.cells.proofs.Laws.{lines_none}
use Rattle.cells.proofs.line_at.Goals as goal

pub returns-then-lines-eq0 : goal.returns-then-lines-eq0
returns-then-lines-eq0 c = sym (ap (λ ls. get_or ls 0 []) (lines_none c.args.sheet.now c.args.lines (omega (arith, c.if-lines-eq0.true))))
