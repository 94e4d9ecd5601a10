use mathlib.Core.Path.{ap, ◌∙◌}
use mathlib.Core.List.{List}
use lib.ListN.{length, get_or}
use Rattle.rules.specs.Sheet.{no_column}
use Rattle.rules.specs.declared.Column.{Column}
use native.Mathlib.Omega.{arith}
use Rattle.table.specs.Held.{table_of}
use Rattle.arrangement.proofs.Layouts.{count_fits, column-at}
use Rattle.display_info.proofs.Opening.{limits_of, showing_begin, showing-on, showing_done, columns-count, width_is, delimiter_is}
use Rattle.display_info.proofs.Opening.{view_rising, view_usable, view_narrow}
use Rattle.display_info.proofs.show_columns.Goals as goal

pub loop-j-init : goal.loop-j-init
loop-j-init c = showing_begin _ _ c.requires.fresh

pub offset_bounds-widths-j : goal.offset_bounds-widths-j
offset_bounds-widths-j c = omega (arith, count_fits _ (limits_of _ c.args.sheet.now.accepted) _ c.columns-found.ensures)

pub bounds-widths-j : goal.bounds-widths-j
bounds-widths-j c = omega (arith, count_fits _ (limits_of _ c.args.sheet.now.accepted) _ c.columns-found.ensures)

pub show_column-requires : goal.show_column-requires
show_column-requires c = omega (arith, count_fits _ (limits_of _ c.args.sheet.now.accepted) _ c.columns-found.ensures, c.loop-j.invariant.few, c.loop-j-test.true)

pub loop-j-preserved : goal.loop-j-preserved
loop-j-preserved c =
    let t = table_of c.args.sheet.now.bytes.now in
    let T = limits_of _ c.args.sheet.now.accepted in
    let e = c.columns-found.ensures in
    let h = c.loop-j-test.true in
    let lent = c.deref-c-items.ensures.0 in
    let column = ap (λ (l : List Column). get_or l c.loop-j.j no_column) lent ∙ column-at t T _ e c.loop-j.j in
    showing-on t c.loop-j.j _ c.loop-j.invariant _ _ _ _ column
    (width_is t _ c.loop-j.j c.requires.arranged (omega (arith, h, columns-count t _ e, ap length lent)))
    (delimiter_is t c.settings-head.result _ c.settings-head.ensures (c.unwrap_or-delimiter.ensures ∙ c.set.ensures 32))
    c.show_column.ensures

pub returns : goal.returns
returns c =
    let T = limits_of _ c.args.sheet.now.accepted in
    let W = showing_done _ _ _ T (omega (arith, columns-count _ _ c.columns-found.ensures, ap length c.deref-c-items.ensures.0, c.loop-j.auto.j-end, c.loop-j-test.false)) c.loop-j.invariant in
    (W, (view_rising _ _ T W, (view_usable _ _ T W, view_narrow _ _ T W)))
