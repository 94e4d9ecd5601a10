use borrow.Author.Tests.{not-true, not-false}
use native.Mathlib.Omega.{arith}
use mathlib.Core.Path.{refl, sym, ◌∙◌}
use lib.ListN.{length-drop}
use Rattle.parts.specs.Ahead.{part_lines}
use Rattle.parts.proofs.Bands.{lines_few, part_few}
use Rattle.lines.proofs.Walks.{filling_begins, filling-room, filling-lines, filling_bytes}
use Rattle.lines.proofs.Walks.{filling-on, filling_stops, filling_done}
use Rattle.lines.proofs.write.Goals as goal

pub loop-part-init : goal.loop-part-init
loop-part-init c =
    filling_begins c.args.p.now.sheet.now c.args.p.now.info c.args.from c.args.page.now
    c.requires.0

pub slice_bounds-draw-count : goal.slice_bounds-draw-count
slice_bounds-draw-count c =
    filling-room c.args.p.now.sheet.now c.args.p.now.info c.args.from c.args.page.now c.loop-part.page c.loop-part.c c.loop-part.lines
    c.loop-part.bytes c.loop-part.invariant

pub slice_bounds-draw-start : goal.slice_bounds-draw-start
slice_bounds-draw-start c =
    filling-room c.args.p.now.sheet.now c.args.p.now.info c.args.from c.args.page.now c.loop-part.page c.loop-part.c c.loop-part.lines
    c.loop-part.bytes c.loop-part.invariant

pub overflow_add-lines : goal.overflow_add-lines
overflow_add-lines c =
    omega (
      arith,
      filling-lines c.args.p.now.sheet.now c.args.p.now.info c.args.from c.args.page.now c.loop-part.page c.loop-part.c
          c.loop-part.lines c.loop-part.bytes c.loop-part.invariant c.draw-drawn.new.page _ c.draw-drawn.result (rw c.at-part.ensures.lines at c.draw-drawn.ensures) refl,
      c.requires.1,
    )

pub overflow_add-bytes : goal.overflow_add-bytes
overflow_add-bytes c =
    omega (
      arith,
      filling_bytes c.args.p.now.sheet.now c.args.p.now.info c.args.from c.args.page.now c.loop-part.page c.loop-part.c
          c.loop-part.lines c.loop-part.bytes c.loop-part.invariant c.draw-drawn.new.page _ c.draw-drawn.result (rw c.at-part.ensures.lines at c.draw-drawn.ensures) refl,
      c.well_formed,
    )

pub further-next-requires : goal.further-next-requires
further-next-requires c =
    omega (
      arith,
      part_few _ _ _ _ (rw c.at-part.ensures.lines at c.draw-drawn.ensures),
      length-drop c.loop-part.c.line (part_lines c.args.p.now.sheet.now c.args.p.now.info c.loop-part.c),
      c.loop-part.invariant.stands.within,
      lines_few c.args.p.now.sheet.now c.args.p.now.info c.args.p.now.opened c.loop-part.c c.loop-part.invariant.stands.rows,
    )

pub returns-then-not-drawn : goal.returns-then-not-drawn
returns-then-not-drawn c =
    filling_stops c.args.p.now.sheet.now c.args.p.now.info c.args.from c.args.page.now c.loop-part.page c.loop-part.c c.loop-part.lines
    c.loop-part.bytes c.loop-part.invariant c.draw-drawn.new.page _ c.draw-drawn.result (rw c.at-part.ensures.lines at c.draw-drawn.ensures) refl (not-true c.draw-drawn.result.whole c.if-not-drawn.true) _
    c.further-next.ensures

pub loop-part-preserved : goal.loop-part-preserved
loop-part-preserved c =
    filling-on c.args.p.now.sheet.now c.args.p.now.info c.args.from c.args.page.now c.loop-part.page c.loop-part.c c.loop-part.lines
    c.loop-part.bytes c.loop-part.invariant c.draw-drawn.new.page _ c.draw-drawn.result (rw c.at-part.ensures.lines at c.draw-drawn.ensures) refl (not-false c.draw-drawn.result.whole c.if-not-drawn.false) _
    c.next-c.ensures

pub returns : goal.returns
returns c =
    filling_done c.args.p.now.sheet.now c.args.p.now.info c.args.from c.args.page.now c.loop-part.page c.loop-part.c c.loop-part.lines
    c.loop-part.bytes c.loop-part.invariant (sym c.is_end.ensures ∙ c.loop-part-test.false)
