use Rattle.rules.specs.Calls.{check_of}
use Rattle.rules.proofs.CheckedFromRefusal.from.Goals as goal

pub returns : goal.returns
unfolding check_of
returns c = rw c.from.ensures
