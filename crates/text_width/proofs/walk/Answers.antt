use mathlib.Core.Path.{◌∙◌}
use Rattle.text_width.proofs.Measure.{walked_on, walked_there}
use Rattle.text_width.proofs.walk.Goals as goal

pub returns-then-left-one : goal.returns-then-left-one
returns-then-left-one c =
    walked_there _ c.loop-e.auto.e c.loop-e.invariant c.loop-e-test.true (c.from-one.ensures ∙ c.width_of.ensures.0) c.if-left-one.true

pub loop-e-preserved : goal.loop-e-preserved
loop-e-preserved c =
    walked_on _ _ _ _ _ _ c.loop-e.invariant c.loop-e-test.true (c.from-one.ensures ∙ c.width_of.ensures.0) c.if-left-one.false
