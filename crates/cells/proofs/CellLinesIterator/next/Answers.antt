use native.Mathlib.Omega.{arith}
use mathlib.Core.Path.{ap}
use borrow.Author.Rules.{rules}
use lib.ListN.{length}
use Rattle.cells.proofs.Laws.{lines_none, lines_on}
use Rattle.cells.proofs.CellLinesIterator.next.Goals as goal

pub returns-then-self-eq0-clause-steps : goal.returns-then-self-eq0-clause-steps
returns-then-self-eq0-clause-steps c =
    let e = lines_none _ c.args.self.now.lines (omega (arith, c.if-self-eq0.true)) in
    (e, e)

pub returns-clause-steps : goal.returns-clause-steps
returns-clause-steps c = lines_on _ _ (omega (arith, c.if-self-eq0.false)) _ c.line-text.ensures _ c.next_line-self.ensures

pub returns-clause-goes : goal.returns-clause-goes
returns-clause-goes c =
    let shorter = ap length (lines_on _ _ (omega (arith, c.if-self-eq0.false)) _ c.line-text.ensures _ c.next_line-self.ensures) in
    search rules
