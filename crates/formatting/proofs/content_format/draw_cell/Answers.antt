use native.Mathlib.Omega.{arith}
use mathlib.Core.Path.{ap, ◌∙◌}
use lib.ListN.{length}
use Prim.Native.Nat.{◌+◌}
use Rattle.buffer.specs.Put.{put_at}
use Rattle.formatting.specs.Area.{area_in}
use Rattle.formatting.proofs.Area.{shown_is, shown_columns, shown_spare}
use Rattle.formatting.proofs.content_format.draw_cell.Goals as goal

pub overflow_sub-width-3 : goal.overflow_sub-width-3
overflow_sub-width-3 c =
    let x = shown_columns c.args.sheet.now c.args.v.width c.args.t c.requires.in_sheet.0 _ c.line_at-text.ensures c.args.indicator.now c.requires.in_sheet.1 c.args.cut c.marks_shown-m.result
    c.marks_shown-m.ensures.0 c.marks_shown-m.ensures.1.1 c.marks_shown-m.ensures.1.0 c.shorten-shown.result c.shorten-shown.ensures in
    omega (arith, x.1)

pub align_line-requires : goal.align_line-requires
align_line-requires c =
    let x = shown_is c.args.sheet.now c.args.v.width c.args.t c.requires.in_sheet.0 _ c.line_at-text.ensures c.args.indicator.now c.requires.in_sheet.1 c.args.cut c.marks_shown-m.result
    c.marks_shown-m.ensures.0 c.marks_shown-m.ensures.1.1 c.marks_shown-m.ensures.1.0 c.shorten-shown.result c.shorten-shown.ensures in
    let y = shown_spare c.args.sheet.now c.args.v.width c.args.t c.requires.in_sheet.0 _ c.line_at-text.ensures c.args.indicator.now c.requires.in_sheet.1 c.args.cut c.marks_shown-m.result
    c.marks_shown-m.ensures.0 c.marks_shown-m.ensures.1.1 c.marks_shown-m.ensures.1.0 c.shorten-shown.result c.shorten-shown.ensures in
    record {
      spare = rw x y;
      marks_in_bounds = rw x c.requires.t_in_bounds;
    }

pub returns : goal.returns
returns c =
    let x = shown_is c.args.sheet.now c.args.v.width c.args.t c.requires.in_sheet.0 _ c.line_at-text.ensures c.args.indicator.now c.requires.in_sheet.1 c.args.cut c.marks_shown-m.result
    c.marks_shown-m.ensures.0 c.marks_shown-m.ensures.1.1 c.marks_shown-m.ensures.1.0 c.shorten-shown.result c.shorten-shown.ensures in
    record {
      value = c.align_line.ensures.value ∙ ap (λ l. c.args.at + length (area_in c.args.v c.args.t.alignment l)) x;
      page_after = c.align_line.ensures.page_after ∙ ap (λ l. put_at c.args.page.now c.args.at (area_in c.args.v c.args.t.alignment l)) x;
    }
