use native.Mathlib.Omega.{arith}
use mathlib.Core.Path.{◌∙◌}
use Rattle.laws.proofs.Text.{width-le}
use Rattle.std.specs.Slice.Iter.{chunks_rest}
use Rattle.text_width.proofs.Measure.{counted-part}
use Rattle.text_width.proofs.count.Goals as goal

pub overflow_add-n : goal.overflow_add-n
overflow_add-n c =
    let part = counted-part c.loop-few.n c.from-n.result _ _ _ _ c.loop-few.invariant.3 c.in-Some.ensures.steps.1.0 (c.from-n.ensures ∙ c.count_few.ensures) in
    omega (arith, part, width-le c.args.text.now, c.well_formed)

pub loop-few-preserved : goal.loop-few-preserved
loop-few-preserved c =
    let s = c.in-Some.ensures.steps in
    let part = counted-part c.loop-few.n c.from-n.result _ _ _ _ c.loop-few.invariant.3 s.1.0 (c.from-n.ensures ∙ c.count_few.ensures) in
    let size = s.0 ∙ c.loop-few.invariant.2 in
    (omega (arith, size), tt, size, part)

pub returns : goal.returns
returns c = omega (arith, c.loop-few.invariant.3, width-le (chunks_rest c.loop-few.few-iterator), c.in-None.ensures.steps.1.0)
