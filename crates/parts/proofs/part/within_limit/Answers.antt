use mathlib.Core.Path.{◌∙◌}
use Rattle.parts.proofs.Bands.{limited-none, limited-some}
use Rattle.parts.proofs.part.within_limit.Goals as goal

pub returns-then-limit-eq0 : goal.returns-then-limit-eq0
returns-then-limit-eq0 c = limited-none _ _ c.if-limit-eq0.true

pub returns : goal.returns
returns c = c.min.ensures ∙ limited-some _ _ c.if-limit-eq0.false
