use Rattle.rules.specs.Reasons.{reasons_of}
use Rattle.rules.proofs.ReasonedFromRefusal.from.Goals as goal

pub returns : goal.returns
unfolding reasons_of
returns c = rw c.from.ensures
