use Rattle.small_sheets.proofs.Puts.{Putting}
use Rattle.small_sheets.proofs.family.put_text.Given as goal

abbrev pub invariant-loop-left : goal.invariant-loop-left
invariant-loop-left l = Putting l.initial.sheet l.at l.initial.left l.initial.number l.sheet l.left l.number l.place

abbrev pub decreases-loop-left : goal.decreases-loop-left
decreases-loop-left l = l.left
