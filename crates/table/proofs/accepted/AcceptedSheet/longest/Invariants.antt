-- `accepted::AcceptedSheet::longest` meets its contract. The loop: the steps so far. Assumes nothing.
use Prim.Native.Nat.{◌-◌}
use lib.ListN.{length}
use Rattle.table.proofs.Passes.{Passing}
use Rattle.table.proofs.accepted.AcceptedSheet.longest.Given as goal

abbrev pub invariant-loop-taken : goal.invariant-loop-taken
invariant-loop-taken l = Passing l.self.bytes.now (record { at = l.at; left = l.left; longest = l.longest })

abbrev pub decreases-loop-taken : goal.decreases-loop-taken
decreases-loop-taken l = length l.self.bytes.now - l.at
