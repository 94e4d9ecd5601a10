use native.Mathlib.Omega.{arith}
use Rattle.display_info.proofs.Measures.{width-none, width-on}
use Rattle.display_info.proofs.lengths.visible_width.Goals as goal

pub loop-v-init : goal.loop-v-init
loop-v-init c = record { so = width-none c.args.columns.now; small = omega arith }

pub loop-v-preserved : goal.loop-v-preserved
loop-v-preserved c = record {
  so = width-on c.args.columns.now c.loop-v.v-index c.loop-v.sum c.loop-v.invariant.so;
  small = omega (arith, c.requires.each c.loop-v.v-index c.loop-v-test.true, c.loop-v.invariant.small);
}
