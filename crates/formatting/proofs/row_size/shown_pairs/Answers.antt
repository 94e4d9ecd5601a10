use native.Mathlib.Omega.{arith}
use mathlib.Core.Path.{ap}
use lib.ListN.{length}
use Rattle.formatting.proofs.Area.{line_in, shown_columns, shown_bytes, shown_inside}
use Rattle.formatting.proofs.Shown.{line-most, shown_less}
use Rattle.formatting.proofs.row_size.shown_pairs.Goals as goal

pub overflow_sub-result-2 : goal.overflow_sub-result-2
overflow_sub-result-2 c = shown_less _ c.args.t.line _ c.shorten-shown.result (line_in c.args.sheet.now c.args.v.width c.args.t c.requires.0.line _ c.line_at-text.ensures) c.shorten-shown.ensures

pub returns : goal.returns
returns c =
    let x = shown_columns c.args.sheet.now c.args.v.width c.args.t c.requires.0.line _ c.line_at-text.ensures c.args.indicator.now c.requires.1.0 c.args.cut c.marks_shown-m.result
    c.marks_shown-m.ensures.0 c.marks_shown-m.ensures.1.1 c.marks_shown-m.ensures.1.0 c.shorten-shown.result c.shorten-shown.ensures in
    let y = shown_bytes c.args.sheet.now c.args.v.width c.args.t c.requires.0.line _ c.line_at-text.ensures c.args.indicator.now c.requires.1.0 c.args.cut c.marks_shown-m.result
    c.marks_shown-m.ensures.0 c.marks_shown-m.ensures.1.1 c.marks_shown-m.ensures.1.0 c.shorten-shown.result c.shorten-shown.ensures in
    let z = shown_inside c.args.sheet.now c.args.v.width c.args.t c.requires.0.line _ c.line_at-text.ensures c.args.indicator.now c.requires.1.0 c.args.cut c.marks_shown-m.result
    c.marks_shown-m.ensures.0 c.marks_shown-m.ensures.1.1 c.marks_shown-m.ensures.1.0 c.shorten-shown.result c.shorten-shown.ensures in
    let l = line-most c.args.sheet.now c.args.t.line.cursor.lines c.requires.0.line.ends in
    (omega (arith, x.0, y), omega (arith, z, ap length c.line_at-text.ensures, l, c.requires.1.1))
