use native.Mathlib.Omega.{arith}
use Prim.Native.Nat.{◌-◌, ◌≤◌}
use mathlib.Core.Path.{refl, sym, ap, ◌∙◌}
use lib.ListN.{length, length-drop}
use Rattle.table.specs.Walk.{first_row}
use Rattle.buffer.proofs.Laws.{lent}
use Rattle.formatting.specs.Line.{line_bytes}
use Rattle.formatting.proofs.RowText.{running_begins, running-length, running-room, running-on, running-full, running_ends}
use Rattle.formatting.proofs.RowText.{stands_measurable, line-some, too_long, short_enough}
use Rattle.formatting.proofs.content_format.DrawableRow.draw.Goals as goal
use Rattle.formatting.proofs.content_format.DrawableRow.draw.Goals.{then-room-most+else-not-fits, else-room-most}

pub loop-more-init : goal.loop-more-init
loop-more-init c =
    let e = c.enter-entered.ensures.entered in
    running_begins c.args.self.now.sheet.now c.args.self.now.columns.now c.args.style (first_row c.args.self.now.sheet.now c.args.self.now.here) c.args.first
    c.args.self.now.drawable.views c.args.page.now _ _ e.stands

pub overflow_sub-room : goal.overflow_sub-room
overflow_sub-room c =
    let e = c.enter-entered.ensures.entered in
    let r = first_row c.args.self.now.sheet.now c.args.self.now.here in
    running-room c.args.self.now.sheet.now c.args.self.now.columns.now c.args.style r c.args.first c.args.self.now.drawable.views c.args.page.now c.loop-more.page
    c.loop-more.state c.loop-more.more c.loop-more.at c.loop-more.line c.loop-more.invariant

pub returns-then-not-fits : goal.returns-then-not-fits
returns-then-not-fits c =
    let e = c.enter-entered.ensures.entered in
    let r = first_row c.args.self.now.sheet.now c.args.self.now.here in
    let t = c.loop-more-test.true in
    let m = stands_measurable c.args.self.now.sheet.now c.args.self.now.columns.now r c.args.self.now.drawable.views c.loop-more.line c.loop-more.more
    c.loop-more.state c.loop-more.invariant.stands t c.args.indicator.now c.requires.marks c.args.style _ e.limit
    c.is_last-last.result c.is_last-last.ensures c.args.self.now.plain c.args.size c.requires.sized in
    running-full c.args.self.now.sheet.now c.args.self.now.columns.now c.args.style r c.args.first c.args.self.now.drawable.views c.args.page.now c.loop-more.page
    c.loop-more.state c.loop-more.more c.loop-more.at c.loop-more.line c.loop-more.invariant t c.args.indicator.now c.requires.marks _ e.limit c.is_last-last.result c.is_last-last.ensures
    (too_long c.args.self.now.plain c.args.size _ _ (length c.args.self.now.columns.now) _
    (omega (arith, c.if-room-most.true, c.most_bytes-most.ensures))
    m.each m.shown (sym c.fits_after_all-fits.ensures ∙ c.if-not-fits.true))

pub write_line-l-requires : goal.write_line-l-requires
write_line-l-requires c =
    let e = c.enter-entered.ensures.entered in
    let r = first_row c.args.self.now.sheet.now c.args.self.now.here in
    let t = c.loop-more-test.true in
    let m = stands_measurable c.args.self.now.sheet.now c.args.self.now.columns.now r c.args.self.now.drawable.views c.loop-more.line c.loop-more.more
    c.loop-more.state c.loop-more.invariant.stands t c.args.indicator.now c.requires.marks c.args.style _ e.limit
    c.is_last-last.result c.is_last-last.ensures c.args.self.now.plain c.args.size c.requires.sized in
    let w : length (line_bytes c.args.self.now.sheet.now c.args.self.now.columns.now c.args.indicator.now
    c.args.style c.loop-more.state c.is_last-last.result)
    ≤ length c.loop-more.page - c.loop-more.at =
    elim c.if-room-most.branch [
      | then-room-most+else-not-fits w ↦ short_enough c.args.self.now.plain _ _ _ m.shown (sym w.fits_after_all-fits.ensures ∙ w.if-not-fits.false)
      | else-room-most w ↦ omega (arith, w.if-room-most.false, c.most_bytes-most.ensures, m.most)
    ] in
    record {
      ready_all = (m.ready, m.indicator);
      last_in_bounds = omega (arith, w, ap length (lent c.loop-more.page c.loop-more.at), length-drop c.loop-more.at c.loop-more.page);
    }

pub overflow_add-at : goal.overflow_add-at
overflow_add-at c =
    let e = c.enter-entered.ensures.entered in
    let r = first_row c.args.self.now.sheet.now c.args.self.now.here in
    let t = c.loop-more-test.true in
    let m = stands_measurable c.args.self.now.sheet.now c.args.self.now.columns.now r c.args.self.now.drawable.views c.loop-more.line c.loop-more.more
    c.loop-more.state c.loop-more.invariant.stands t c.args.indicator.now c.requires.marks c.args.style _ e.limit
    c.is_last-last.result c.is_last-last.ensures c.args.self.now.plain c.args.size c.requires.sized in
    let w : length (line_bytes c.args.self.now.sheet.now c.args.self.now.columns.now c.args.indicator.now
    c.args.style c.loop-more.state c.is_last-last.result)
    ≤ length c.loop-more.page - c.loop-more.at =
    elim c.if-room-most.branch [
      | then-room-most+else-not-fits w ↦ short_enough c.args.self.now.plain _ _ _ m.shown (sym w.fits_after_all-fits.ensures ∙ w.if-not-fits.false)
      | else-room-most w ↦ omega (arith, w.if-room-most.false, c.most_bytes-most.ensures, m.most)
    ] in
    omega (
      arith,
      c.write_line-l.ensures.written,
      w,
      running-room c.args.self.now.sheet.now c.args.self.now.columns.now c.args.style r c.args.first c.args.self.now.drawable.views c.args.page.now c.loop-more.page
          c.loop-more.state c.loop-more.more c.loop-more.at c.loop-more.line c.loop-more.invariant,
      running-length c.args.self.now.sheet.now c.args.self.now.columns.now c.args.style r c.args.first c.args.self.now.drawable.views c.args.page.now c.loop-more.page
          c.loop-more.state c.loop-more.more c.loop-more.at c.loop-more.line c.loop-more.invariant,
      c.well_formed,
    )

pub loop-more-smaller : goal.loop-more-smaller
loop-more-smaller c =
    let e = c.enter-entered.ensures.entered in
    let r = first_row c.args.self.now.sheet.now c.args.self.now.here in
    let t = c.loop-more-test.true in
    let m = stands_measurable c.args.self.now.sheet.now c.args.self.now.columns.now r c.args.self.now.drawable.views c.loop-more.line c.loop-more.more
    c.loop-more.state c.loop-more.invariant.stands t c.args.indicator.now c.requires.marks c.args.style _ e.limit
    c.is_last-last.result c.is_last-last.ensures c.args.self.now.plain c.args.size c.requires.sized in
    let w : length (line_bytes c.args.self.now.sheet.now c.args.self.now.columns.now c.args.indicator.now
    c.args.style c.loop-more.state c.is_last-last.result)
    ≤ length c.loop-more.page - c.loop-more.at =
    elim c.if-room-most.branch [
      | then-room-most+else-not-fits w ↦ short_enough c.args.self.now.plain _ _ _ m.shown (sym w.fits_after_all-fits.ensures ∙ w.if-not-fits.false)
      | else-room-most w ↦ omega (arith, w.if-room-most.false, c.most_bytes-most.ensures, m.most)
    ] in
    omega (
      arith,
      c.write_line-l.ensures.written,
      w,
      line-some c.args.self.now.sheet.now c.args.self.now.columns.now r c.args.self.now.drawable.views c.loop-more.line c.loop-more.more c.loop-more.state
          c.loop-more.invariant.stands t c.args.indicator.now c.requires.marks c.args.style _ e.limit c.is_last-last.result c.is_last-last.ensures,
      running-room c.args.self.now.sheet.now c.args.self.now.columns.now c.args.style r c.args.first c.args.self.now.drawable.views c.args.page.now c.loop-more.page
          c.loop-more.state c.loop-more.more c.loop-more.at c.loop-more.line c.loop-more.invariant,
      running-length c.args.self.now.sheet.now c.args.self.now.columns.now c.args.style r c.args.first c.args.self.now.drawable.views c.args.page.now c.loop-more.page
          c.loop-more.state c.loop-more.more c.loop-more.at c.loop-more.line c.loop-more.invariant,
    )

pub loop-more-preserved : goal.loop-more-preserved
loop-more-preserved c =
    let e = c.enter-entered.ensures.entered in
    let t = c.loop-more-test.true in
    let q = first_row c.args.self.now.sheet.now c.args.self.now.here in
    let m = stands_measurable c.args.self.now.sheet.now c.args.self.now.columns.now q c.args.self.now.drawable.views c.loop-more.line c.loop-more.more c.loop-more.state
    c.loop-more.invariant.stands t c.args.indicator.now c.requires.marks c.args.style _ e.limit c.is_last-last.result c.is_last-last.ensures c.args.self.now.plain c.args.size c.requires.sized in
    let w : length (line_bytes c.args.self.now.sheet.now c.args.self.now.columns.now c.args.indicator.now
    c.args.style c.loop-more.state c.is_last-last.result)
    ≤ length c.loop-more.page - c.loop-more.at =
    elim c.if-room-most.branch [
      | then-room-most+else-not-fits w ↦ short_enough c.args.self.now.plain _ _ _ m.shown (sym w.fits_after_all-fits.ensures ∙ w.if-not-fits.false)
      | else-room-most w ↦ omega (arith, w.if-room-most.false, c.most_bytes-most.ensures, m.most)
    ] in
    running-on c.args.self.now.sheet.now c.args.self.now.columns.now c.args.style q c.args.first c.args.self.now.drawable.views c.args.page.now c.loop-more.page
    c.loop-more.state c.loop-more.more c.loop-more.at c.loop-more.line c.loop-more.invariant t c.args.indicator.now c.requires.marks _ e.limit c.is_last-last.result
    c.is_last-last.ensures w _ c.write_line-l.new.page _ c.write_line-l.result.more c.has_line-more.result c.write_line-l.result.written c.write_line-l.ensures.page_after refl c.write_line-l.ensures.written c.write_line-l.ensures.after_all.0
    c.write_line-l.ensures.after_all.1 c.has_line-more.ensures

pub returns : goal.returns
returns c =
    let e = c.enter-entered.ensures.entered in
    let r = first_row c.args.self.now.sheet.now c.args.self.now.here in
    running_ends c.args.self.now.sheet.now c.args.self.now.columns.now c.args.style r c.args.first c.args.self.now.drawable.views c.args.page.now c.loop-more.page
    c.loop-more.state c.loop-more.more c.loop-more.at c.loop-more.line c.loop-more.invariant c.loop-more-test.false
