use borrow.Author.Rules.{rules}
use native.Mathlib.Omega.{arith}
use Rattle.content_split.proofs.Back.{fills_whole, ends-tight, ends_wrap, ends_fill}
use Rattle.content_split.proofs.SplitText.straddled.Goals as goal

pub returns-then-end-start : goal.returns-then-end-start
returns-then-end-start c = search (rules, fills_whole)

pub returns-then-long : goal.returns-then-long
returns-then-long c =
    ends_fill _ _ _ c.requires.1 c.requires.0 c.last_before-end.ensures c.if-end-start.false c.columns-free.ensures c.if-free-gt2.true
    c.long_piece-long.ensures c.if-long.true

pub returns-else-long : goal.returns-else-long
returns-else-long c =
    ends_wrap _ _ _ c.requires.1 c.requires.0 c.last_before-end.ensures c.if-end-start.false c.columns-free.ensures c.if-free-gt2.true
    c.long_piece-long.ensures c.if-long.false

pub returns-else-free-gt2 : goal.returns-else-free-gt2
returns-else-free-gt2 c = ends-tight _ _ _ c.requires.1 c.requires.0 c.last_before-end.ensures c.if-end-start.false c.columns-free.ensures (omega arith)
