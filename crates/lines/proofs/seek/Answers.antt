use native.Mathlib.Omega.{arith}
use mathlib.Core.Path.{ap, ◌∙◌}
use lib.ListN.{length}
use Rattle.parts.proofs.Bands.{lines_few}
use Rattle.lines.proofs.Walks.{reaching_begins, reaching_found, reaching-on}
use Rattle.lines.proofs.seek.Goals as goal

pub loop-n-init : goal.loop-n-init
loop-n-init c =
    reaching_begins c.args.p.now.sheet.now c.args.p.now.info c.args.p.now.opened c.args.k _
    c.first-c.ensures

pub further-cursor-requires : goal.further-cursor-requires
further-cursor-requires c =
    omega (
      arith,
      c.if-left-n.true,
      c.lines-n.ensures ∙ ap length c.at.ensures.lines,
      c.loop-n.invariant.start,
      lines_few c.args.p.now.sheet.now c.args.p.now.info
          c.args.p.now.opened c.loop-n.c c.loop-n.invariant.at.rows,
    )

pub returns-then-left-n : goal.returns-then-left-n
returns-then-left-n c =
    reaching_found _ _ c.args.k c.loop-n.c c.loop-n.left c.loop-n.invariant _
    (c.lines-n.ensures ∙ ap length c.at.ensures.lines) c.if-left-n.true _ c.further-cursor.ensures

pub loop-n-preserved : goal.loop-n-preserved
loop-n-preserved c =
    reaching-on _ _ c.args.k c.loop-n.c c.loop-n.left c.loop-n.invariant _
    (c.lines-n.ensures ∙ ap length c.at.ensures.lines) c.if-left-n.false _ c.next-c.ensures
