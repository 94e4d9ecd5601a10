use native.Mathlib.Omega.{arith}
use Rattle.text_width.proofs.Measure.{counted-none, counted-on, counted-all}
use Rattle.text_width.proofs.count_few.Goals as goal

pub loop-b-init : goal.loop-b-init
loop-b-init c = record { few = omega arith; so = counted-none c.args.text.now }

pub loop-b-preserved : goal.loop-b-preserved
loop-b-preserved c = record {
  few = omega (arith, c.loop-b.invariant.few, c.width_of-n.ensures.1);
  so = counted-on c.args.text.now c.loop-b.b-index _ _ c.loop-b.invariant.so c.loop-b-test.true c.width_of-n.ensures.0;
}

pub returns : goal.returns
returns c = counted-all c.args.text.now _ _ c.loop-b-test.false c.loop-b.invariant.so
