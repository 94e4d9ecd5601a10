use Rattle.cells.proofs.Laws.{first_known, seeking_found, seeking-on, seeking_done}
use Rattle.cells.proofs.Wrapping.first_line.Goals as goal

pub invariant_of-text : goal.invariant_of-text
invariant_of-text c = record { known = rw c.line.ensures (first_known _ _ _ c.loop-c-test.true c.loop-c.invariant.texts).plain }

pub first_part-part-requires : goal.first_part-part-requires
first_part-part-requires c = rw c.line.ensures (first_known _ _ _ c.loop-c-test.true c.loop-c.invariant.texts).text

pub returns-then-r : goal.returns-then-r
returns-then-r c =
    seeking_found _ _ _ _ c.args.self.now.usable.0 _ _ c.loop-c.invariant c.loop-c-test.true _ c.line.ensures c.first_part-part.result
    c.first_part-part.ensures _ c.take_part-r.ensures c.if-r.true

pub loop-c-preserved : goal.loop-c-preserved
loop-c-preserved c =
    seeking-on _ _ _ _ c.args.self.now.usable.0 _ _ c.loop-c.invariant c.loop-c-test.true _ c.line.ensures c.first_part-part.result
    c.first_part-part.ensures _ c.take_part-r.ensures c.if-r.false _ c.next_line-c.ensures

pub returns : goal.returns
returns c = seeking_done _ _ _ _ c.args.self.now.usable.0 _ _ c.loop-c.invariant c.loop-c-test.false _ c.no_line.ensures
