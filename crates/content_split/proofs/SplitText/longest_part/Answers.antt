use native.Mathlib.Omega.{arith}
use mathlib.Core.Path.{◌∙◌}
use Rattle.content_split.proofs.Found.{longest-on, longest-none}
use Rattle.content_split.proofs.SplitText.longest_part.Goals as goal

pub loop-part-preserved : goal.loop-part-preserved
loop-part-preserved c =
    let g = c.in-Some.ensures.steps in
    let i = c.loop-part.invariant in
    (g.0 ∙ i.0, omega (arith, i.1, longest-on c.loop-part.part-iterator c.next.new.self c.in-Some.part g, rw (← i.0) at c.columns.ensures, c.max-longest.ensures))

pub returns : goal.returns
returns c = omega (arith, c.loop-part.invariant.1, longest-none c.in-None.ensures.steps.0)
