use Rattle.rules.specs.Calls.{measure_of}
use Rattle.rules.proofs.MeasuredFromRefusal.from.Goals as goal

pub returns : goal.returns
unfolding measure_of
returns c = rw c.from.ensures
