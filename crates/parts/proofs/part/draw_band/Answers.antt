use native.Mathlib.Omega.{arith}
use Prim.Native.Nat.{◌<◌}
use mathlib.Core.Path.{refl, ap}
use lib.ListN.{length, length-drop}
use Rattle.table.specs.Walk.{first_row}
use Rattle.buffer.proofs.Laws.{lent}
use Rattle.formatting.specs.RowText.{row_lines}
use Rattle.formatting.proofs.Parts.{part_room, part_length}
use Rattle.formatting.proofs.RowText.{lines-count}
use Rattle.parts.proofs.Bands.{band-empty, band_sized, band-cut, band_whole, part_few, rule_few}
use Rattle.parts.proofs.part.draw_band.Goals as goal

pub returns-then-here-eq0 : goal.returns-then-here-eq0
returns-then-here-eq0 c =
    rw c.nothing.ensures (band-empty c.args.p.now.sheet.now c.args.p.now.info.columns.items c.args.style
    c.args.here c.args.first c.args.page.now c.if-here-eq0.true)

pub draw-text-requires : goal.draw-text-requires
draw-text-requires c =
    let R = c.row_of-row.ensures in
    let some : 0 < c.args.here.left = omega (arith, c.if-here-eq0.false) in
    rw (R.sheet, R.columns, R.rows, R.plain) (record {
      marks = c.indicator.ensures;
      sized = band_sized c.args.p.now.sheet.now c.args.p.now.info.columns.items c.args.style c.args.here _ _ c.requires.known.1 some;
    })

pub returns-then-not-text : goal.returns-then-not-text
returns-then-not-text c =
    band-cut c.args.p.now.sheet.now c.args.p.now.info.columns.items c.args.style c.args.here c.args.first
    (omega (arith, c.if-here-eq0.false)) c.requires.first_in_bounds
    _ _ _ (rw (c.row_of-row.ensures.sheet, c.row_of-row.ensures.rows) at c.draw-text.ensures) c.if-not-text.true

pub slice_bounds-draw_rule-count : goal.slice_bounds-draw_rule-count
slice_bounds-draw_rule-count c = part_room _ _ _ _ (rw (c.row_of-row.ensures.sheet, c.row_of-row.ensures.rows) at c.draw-text.ensures)

pub slice_bounds-draw_rule-start : goal.slice_bounds-draw_rule-start
slice_bounds-draw_rule-start c = part_room _ _ _ _ (rw (c.row_of-row.ensures.sheet, c.row_of-row.ensures.rows) at c.draw-text.ensures)

pub overflow_add-result : goal.overflow_add-result
overflow_add-result c =
    let some : 0 < c.args.here.left = omega (
      arith,
      c.if-here-eq0.false,
    ) in
    let Z = band_sized c.args.p.now.sheet.now c.args.p.now.info.columns.items c.args.style c.args.here _ _
    c.requires.known.1 some in
    omega (
      arith,
      part_few _ _ _ _ (rw (c.row_of-row.ensures.sheet, c.row_of-row.ensures.rows) at c.draw-text.ensures),
      length-drop c.args.first (row_lines c.args.p.now.sheet.now c.args.style.lines (first_row c.args.p.now.sheet.now c.args.here)),
      lines-count c.args.p.now.sheet.now c.args.style.lines (first_row c.args.p.now.sheet.now c.args.here),
      Z.bounded.few,
      part_few _ _ _ _ (rw c.row_of-row.ensures.columns at c.draw_rule-drawn.ensures),
      rule_few c.args.p.now.info.columns.items c.args.style.rule,
    )

pub overflow_add-result-2 : goal.overflow_add-result-2
overflow_add-result-2 c =
    omega (
      arith,
      part_room _ _ _ _ (rw (c.row_of-row.ensures.sheet, c.row_of-row.ensures.rows) at c.draw-text.ensures),
      part_length _ _ _ _ (rw (c.row_of-row.ensures.sheet, c.row_of-row.ensures.rows) at c.draw-text.ensures),
      part_room _ _ _ _ c.draw_rule-drawn.ensures,
      c.draw_rule-drawn.auto.page,
      ap length (lent c.draw-text.new.page c.draw-text.result.bytes),
      length-drop c.draw-text.result.bytes c.draw-text.new.page,
      c.well_formed,
    )

pub returns : goal.returns
returns c =
    let some : 0 < c.args.here.left = omega (
      arith,
      c.if-here-eq0.false,
    ) in
    band_whole c.args.p.now.sheet.now c.args.p.now.info.columns.items c.args.style c.args.here c.args.first some
    c.requires.first_in_bounds
    _ _ _ _ c.draw-text.result c.draw_rule-drawn.result (rw (c.row_of-row.ensures.sheet, c.row_of-row.ensures.rows) at c.draw-text.ensures)
    c.if-not-text.false (rw c.row_of-row.ensures.columns at c.draw_rule-drawn.ensures)
    refl
