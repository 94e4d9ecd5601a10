use native.Mathlib.Omega.{arith}
use mathlib.Core.Logic.{inl}
use mathlib.Core.Path.{◌∙◌}
use Rattle.content_split.proofs.Found.{counted_all}
use Rattle.content_split.proofs.SplitText.count_parts.Goals as goal

pub count-requires-clause-fits : goal.count-requires-clause-fits
count-requires-clause-fits c = inl (omega (arith, c.well_formed))

pub returns : goal.returns
returns c =
    let r = c.count.ensures.ran in
    r.2 ∙ counted_all r.0 _ r.1 ∙ rw (c.parts.ensures.0, c.parts.ensures.1)
