-- `editor::walk::put_word` meets its contract. Assumes nothing.
use borrow.Author.Rules.{rules}
use Rattle.rules.specs.Description.{writes}
use native.Mathlib.Omega.{arith}
use Rattle.editor.proofs.Entering.{word-put, stamped-past, stamped_short}
use Rattle.editor.proofs.walk.put_word.Goals as goal

pub returns-then-sheet-at : goal.returns-then-sheet-at
unfolding writes
returns-then-sheet-at c = search (rules, stamped-past)

pub returns-then-sheet-at-lt2 : goal.returns-then-sheet-at-lt2
unfolding writes
returns-then-sheet-at-lt2 c = stamped_short _ _ _ _ c.if-sheet-at.false (omega (arith, c.if-sheet-at-lt2.true))

pub returns : goal.returns
unfolding writes
returns c = word-put _ _ _ (omega (arith, c.ranges.value)) c.if-sheet-at-lt2.false c.if-sheet-at.false
