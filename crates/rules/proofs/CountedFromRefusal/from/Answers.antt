use Rattle.rules.specs.Calls.{count_of}
use Rattle.rules.proofs.CountedFromRefusal.from.Goals as goal

pub returns : goal.returns
unfolding count_of
returns c = rw c.from.ensures
