use lib.ListN.{length-append}
use Rattle.row.proofs.ByColumn.{walked-here, known-here}
use Rattle.row.proofs.Heights.{adding_begins, adding-on, adding_done}
use Rattle.table.proofs.Walks.{cells_inside}
use Rattle.formatting.proofs.content_format.DrawableRow.shown.Goals as goal

pub new-v-items-requires : goal.new-v-items-requires
new-v-items-requires c =
    let d = c.args.self.now.drawable in
    (d.rising, cells_inside c.args.self.now.sheet.now c.args.self.now.here c.row-r.result d.some d.ends c.row-r.ensures)

pub loop-v-init : goal.loop-v-init
loop-v-init c =
    let e = c.row-r.ensures.cells in
    let k = rw (← e) at c.args.self.now.drawable.known in
    rw (c.into_iter-v-iterator.ensures.into_iter_gives, ← e) (
      adding_begins _ _ c.args.self.now.sheet.now c.args.self.now.columns.now c.row-r.result.cells c.new-v-items.result c.new-v-items.ensures,
      c.new-v-items.ensures.known c.args.self.now.plain k,
    )

pub cell_shown-sum-requires : goal.cell_shown-sum-requires
cell_shown-sum-requires c =
    let d = c.args.self.now.drawable in
    let i = c.loop-v.invariant in
    let h = walked-here _ c.args.self.now.columns.now _ c.loop-v.v-iterator c.next.new.self _ i.0.walking c.in-Some.v c.in-Some.here c.in-Some.ensures.steps in
    let k = known-here _ c.args.self.now.columns.now _ c.loop-v.v-iterator c.next.new.self _ i.0.walking c.in-Some.v c.in-Some.here c.in-Some.ensures.steps c.args.self.now.plain i.1 in
    record {
      width_nonzero = (rw h.column (d.usable _ h.within), (c.requires.0, d.short));
      cells_in_bounds = (h.inside, k);
      first_le_end = c.requires.1;
    }

pub loop-v-preserved : goal.loop-v-preserved
loop-v-preserved c =
    let i = c.loop-v.invariant in (
      adding-on _ _ c.args.self.now.sheet.now c.args.self.now.columns.now _ c.loop-v.v-iterator c.loop-v.sum _ i.0 c.next.new.self c.in-Some.v c.in-Some.here
          c.in-Some.ensures.steps _ _ c.cell_shown-sum.ensures (length-append c.loop-v.yielded _),
      c.in-Some.ensures.steps.still c.args.self.now.plain i.1,
    )

pub returns : goal.returns
returns c =
    let r = c.row-r.ensures in
    let d = adding_done _ _ c.args.self.now.sheet.now c.args.self.now.columns.now _ c.loop-v.v-iterator c.loop-v.sum _ c.loop-v.invariant.0 c.in-None.ensures.steps.0 in
    rw r.limit at d
