use native.Mathlib.Omega.{arith}
use Rattle.formatting.proofs.Area.{line_bytes, shorten_whole, shorten-plain, shorten-counted}
use Rattle.formatting.proofs.content_format.shorten.Goals as goal

pub returns-then-line-width : goal.returns-then-line-width
returns-then-line-width c = shorten_whole c.args.text.now c.args.line c.args.width c.requires c.if-line-width.true

pub returns-then-line-start : goal.returns-then-line-start
returns-then-line-start c = shorten-plain c.args.text.now c.args.line c.args.width c.requires c.if-line-width.false c.if-line-start.true

pub reach-place-requires : goal.reach-place-requires
reach-place-requires c =
    let k = line_bytes c.args.text.now c.args.line c.args.width c.requires in
    rw c.unknown.ensures.0
    (omega (arith, c.requires.order, c.requires.within), omega (arith, k, c.requires.order, c.requires.within, c.if-line-width.false))

pub returns : goal.returns
returns c =
    shorten-counted c.args.text.now c.args.line c.args.width c.requires c.if-line-width.false _ _
    (rw c.unknown.ensures.0 at c.reach-place.ensures)
