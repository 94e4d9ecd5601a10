use native.Mathlib.Omega.{arith}
use mathlib.Core.Path.{refl, sym}
use Rattle.formatting.proofs.Line.{line-length, line_whole, drawing_begins, drawing_done, passing_done, column_ready, drawing-room, drawing-on}
use Rattle.formatting.proofs.content_format.write_line.Goals as goal

pub draw_edge-at-requires : goal.draw_edge-at-requires
draw_edge-at-requires c =
    omega (
      arith,
      c.requires.last_in_bounds,
      line-length c.args.sheet.now c.args.columns.now c.args.indicator.now c.args.style c.args.state.now c.args.last,
    )

pub loop-i-init : goal.loop-i-init
loop-i-init c =
    drawing_begins c.args.sheet.now c.args.columns.now c.args.indicator.now c.args.style c.args.state.now c.args.last c.draw_edge-at.new.dst
    c.draw_edge-at.result c.requires.ready_all.0

pub draw_column-d-requires : goal.draw_column-d-requires
draw_column-d-requires c =
    let R = c.requires.ready_all.0 in
    let D = c.loop-i.invariant in
    let h = c.loop-i-test.true in
    record {
      ready = (
        column_ready c.args.sheet.now c.args.columns.now c.args.indicator.now c.args.style c.args.state.now c.args.last c.draw_edge-at.new.dst
            c.draw_edge-at.result R c.loop-i.page c.loop-i.state c.loop-i.more c.loop-i.at c.loop-i.i D h,
        c.requires.ready_all.1,
      );
      last_in_bounds = rw c.joins_before-junction.ensures
          (drawing-room c.args.sheet.now c.args.columns.now c.args.indicator.now c.args.style c.args.state.now c.args.last c.draw_edge-at.new.dst
          c.draw_edge-at.result R c.loop-i.page c.loop-i.state c.loop-i.more c.loop-i.at c.loop-i.i D h
          (omega (
            arith,
            c.requires.last_in_bounds,
            c.draw_edge-at.ensures.value,
            c.draw_edge-at.auto.dst,
            line-length c.args.sheet.now c.args.columns.now c.args.indicator.now c.args.style c.args.state.now c.args.last,
          )));
    }

pub loop-i-preserved : goal.loop-i-preserved
loop-i-preserved c =
    let j = c.joins_before-junction.ensures in
    drawing-on c.args.sheet.now c.args.columns.now c.args.indicator.now c.args.style c.args.state.now c.args.last c.draw_edge-at.new.dst
    c.draw_edge-at.result c.requires.ready_all.0 c.loop-i.page c.loop-i.state c.loop-i.more c.loop-i.at c.loop-i.i c.loop-i.invariant
    c.loop-i-test.true c.draw_column-d.new.page c.draw_column-d.result.pending c.draw_column-d.result.at _
    (omega (
      arith,
      c.requires.last_in_bounds,
      c.draw_edge-at.ensures.value,
      c.draw_edge-at.auto.dst,
      line-length c.args.sheet.now c.args.columns.now c.args.indicator.now c.args.style c.args.state.now c.args.last,
    ))
    (rw j at c.draw_column-d.ensures.place.0) c.draw_column-d.ensures.place.1 (rw j at c.draw_column-d.ensures.page_after)
    c.draw_column-d.auto.page refl

pub draw_edge-e-requires : goal.draw_edge-e-requires
draw_edge-e-requires c =
    let D = drawing_done c.args.sheet.now c.args.columns.now c.args.indicator.now c.args.style c.args.state.now c.args.last c.draw_edge-at.new.dst
    c.draw_edge-at.result c.requires.ready_all.0 c.loop-i.page c.loop-i.state c.loop-i.more c.loop-i.at c.loop-i.i c.loop-i.invariant
    c.loop-i-test.false in
    omega (
      arith,
      D.place,
      D.size,
      c.requires.last_in_bounds,
      c.draw_edge-at.ensures.value,
      c.draw_edge-at.auto.dst,
      line-length c.args.sheet.now c.args.columns.now c.args.indicator.now c.args.style c.args.state.now c.args.last,
    )

pub bounds-page-e : goal.bounds-page-e
bounds-page-e c =
    let D = drawing_done c.args.sheet.now c.args.columns.now c.args.indicator.now c.args.style c.args.state.now c.args.last c.draw_edge-at.new.dst
    c.draw_edge-at.result c.requires.ready_all.0 c.loop-i.page c.loop-i.state c.loop-i.more c.loop-i.at c.loop-i.i c.loop-i.invariant
    c.loop-i-test.false in
    omega (
      arith,
      D.place,
      D.size,
      c.requires.last_in_bounds,
      c.draw_edge-at.ensures.value,
      c.draw_edge-at.auto.dst,
      c.draw_edge-e.ensures.value,
      c.draw_edge-e.auto.dst,
      line-length c.args.sheet.now c.args.columns.now c.args.indicator.now c.args.style c.args.state.now c.args.last,
    )

pub overflow_add-result : goal.overflow_add-result
overflow_add-result c =
    let D = drawing_done c.args.sheet.now c.args.columns.now c.args.indicator.now c.args.style c.args.state.now c.args.last c.draw_edge-at.new.dst
    c.draw_edge-at.result c.requires.ready_all.0 c.loop-i.page c.loop-i.state c.loop-i.more c.loop-i.at c.loop-i.i c.loop-i.invariant
    c.loop-i-test.false in
    omega (
      arith,
      c.well_formed,
      D.place,
      D.size,
      c.requires.last_in_bounds,
      c.draw_edge-at.ensures.value,
      c.draw_edge-at.auto.dst,
      c.draw_edge-e.ensures.value,
      line-length c.args.sheet.now c.args.columns.now c.args.indicator.now c.args.style c.args.state.now c.args.last,
    )

pub returns : goal.returns
returns c =
    let z = line-length c.args.sheet.now c.args.columns.now c.args.indicator.now c.args.style c.args.state.now c.args.last in
    let D = drawing_done c.args.sheet.now c.args.columns.now c.args.indicator.now c.args.style c.args.state.now c.args.last c.draw_edge-at.new.dst
    c.draw_edge-at.result c.requires.ready_all.0 c.loop-i.page c.loop-i.state c.loop-i.more c.loop-i.at c.loop-i.i c.loop-i.invariant
    c.loop-i-test.false in
    record {
      written = omega (arith, D.place, c.draw_edge-at.ensures.value, c.draw_edge-e.ensures.value, z);
      after_all = passing_done c.args.sheet.now c.args.columns.now c.args.state.now c.loop-i.state c.loop-i.more c.loop-i.i
          c.loop-i-test.false c.loop-i.invariant.passing;
      page_after = line_whole c.args.sheet.now c.args.columns.now c.args.indicator.now c.args.style c.args.state.now c.args.last
          c.args.page.now c.draw_edge-at.new.dst c.loop-i.page c.draw_edge-e.new.dst c.draw_edge-at.result c.loop-i.at c.draw_edge-e.result
          c.draw_edge-at.ensures.dst_after D.text c.draw_edge-e.ensures.dst_after (omega (arith, c.draw_edge-at.ensures.value)) (sym D.place)
          (sym c.draw_edge-e.ensures.value)
          (omega (
            arith,
            D.place,
            D.size,
            c.requires.last_in_bounds,
            c.draw_edge-at.ensures.value,
            c.draw_edge-at.auto.dst,
            c.draw_edge-e.ensures.value,
            c.draw_edge-e.auto.dst,
            z,
          ));
    }
