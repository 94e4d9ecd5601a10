-- `table::step::step` meets its contract. The loop: the same lines are ahead after each head. Assumes nothing.
use Prim.Native.Nat.{◌-◌}
use lib.ListN.{length}
use Rattle.table.specs.Step.{ahead, Ready, SameAhead, AllNarrow}
use Rattle.table.proofs.step.step.Given as goal

abbrev pub invariant-loop-p : goal.invariant-loop-p
invariant-loop-p l = SameAhead l.rest 0 l.initial.p.left l.p × (Ready l.rest 0 l.initial.p.left × AllNarrow (ahead l.rest 0 l.initial.p.left))

abbrev pub decreases-loop-p : goal.decreases-loop-p
decreases-loop-p l = length l.rest - l.p.at
