use native.Mathlib.Omega.{arith}
use mathlib.Core.Path.{sym}
use Rattle.borders.proofs.Rule.{rule-length, rule_whole, ruling_begins, ruling_done, ruling-room, ruling-on}
use Rattle.borders.proofs.draw_line.Goals as goal

pub draw_edge-at-requires : goal.draw_edge-at-requires
draw_edge-at-requires c = omega (arith, c.requires.style_in_bounds, rule-length c.args.columns.now c.args.style)

pub loop-i-init : goal.loop-i-init
loop-i-init c = ruling_begins c.args.columns.now c.args.style c.draw_edge-at.new.dst c.draw_edge-at.result

pub draw_fill-at-requires-clause-right_in_bounds : goal.draw_fill-at-requires-clause-right_in_bounds
draw_fill-at-requires-clause-right_in_bounds c =
    rw c.joins_before-junction.ensures
    (ruling-room c.args.columns.now c.args.style c.draw_edge-at.new.dst c.draw_edge-at.result c.loop-i.page c.loop-i.at c.loop-i.i c.loop-i.invariant
    c.loop-i-test.true
    (omega (arith, c.requires.style_in_bounds, c.draw_edge-at.ensures.value, c.draw_edge-at.auto.dst, rule-length c.args.columns.now c.args.style)))

pub loop-i-preserved : goal.loop-i-preserved
loop-i-preserved c =
    let j = c.joins_before-junction.ensures in
    ruling-on c.args.columns.now c.args.style c.draw_edge-at.new.dst c.draw_edge-at.result c.loop-i.page c.loop-i.at c.loop-i.i c.loop-i.invariant
    c.loop-i-test.true c.draw_fill-at.new.page c.draw_fill-at.result
    (omega (arith, c.requires.style_in_bounds, c.draw_edge-at.ensures.value, c.draw_edge-at.auto.dst, rule-length c.args.columns.now c.args.style))
    (rw j at c.draw_fill-at.ensures.value) (rw j at c.draw_fill-at.ensures.page_after) c.draw_fill-at.auto.page

pub draw_edge-e-requires : goal.draw_edge-e-requires
draw_edge-e-requires c =
    let D = ruling_done c.args.columns.now c.args.style c.draw_edge-at.new.dst c.draw_edge-at.result c.loop-i.page c.loop-i.at c.loop-i.i c.loop-i.invariant
    c.loop-i-test.false in
    omega (
      arith,
      D.place,
      D.size,
      c.requires.style_in_bounds,
      c.draw_edge-at.ensures.value,
      c.draw_edge-at.auto.dst,
      rule-length c.args.columns.now c.args.style,
    )

pub bounds-page-e : goal.bounds-page-e
bounds-page-e c =
    let D = ruling_done c.args.columns.now c.args.style c.draw_edge-at.new.dst c.draw_edge-at.result c.loop-i.page c.loop-i.at c.loop-i.i c.loop-i.invariant
    c.loop-i-test.false in
    omega (
      arith,
      D.place,
      D.size,
      c.requires.style_in_bounds,
      c.draw_edge-at.ensures.value,
      c.draw_edge-at.auto.dst,
      c.draw_edge-e.ensures.value,
      c.draw_edge-e.auto.dst,
      rule-length c.args.columns.now c.args.style,
    )

pub overflow_add-result : goal.overflow_add-result
overflow_add-result c =
    let D = ruling_done c.args.columns.now c.args.style c.draw_edge-at.new.dst c.draw_edge-at.result c.loop-i.page c.loop-i.at c.loop-i.i c.loop-i.invariant
    c.loop-i-test.false in
    omega (
      arith,
      c.well_formed,
      D.place,
      D.size,
      c.requires.style_in_bounds,
      c.draw_edge-at.ensures.value,
      c.draw_edge-at.auto.dst,
      c.draw_edge-e.ensures.value,
      rule-length c.args.columns.now c.args.style,
    )

pub returns : goal.returns
returns c =
    let z = rule-length c.args.columns.now c.args.style in
    let D = ruling_done c.args.columns.now c.args.style c.draw_edge-at.new.dst c.draw_edge-at.result c.loop-i.page c.loop-i.at c.loop-i.i c.loop-i.invariant
    c.loop-i-test.false in record {
      value = omega (arith, D.place, c.draw_edge-at.ensures.value, c.draw_edge-e.ensures.value, z);
      page_after = rule_whole c.args.columns.now c.args.style c.args.page.now c.draw_edge-at.new.dst c.loop-i.page c.draw_edge-e.new.dst
          c.draw_edge-at.result c.loop-i.at c.draw_edge-e.result c.draw_edge-at.ensures.dst_after D.text c.draw_edge-e.ensures.dst_after
          (omega (arith, c.draw_edge-at.ensures.value)) (sym D.place) (sym c.draw_edge-e.ensures.value)
          (omega (
            arith,
            D.place,
            D.size,
            c.requires.style_in_bounds,
            c.draw_edge-at.ensures.value,
            c.draw_edge-at.auto.dst,
            c.draw_edge-e.ensures.value,
            c.draw_edge-e.auto.dst,
            z,
          ));
    }
