-- `sheet::text::next_bad` meets its contract. The loop: all bytes before this one are printable. Assumes nothing.
use Rattle.sheet.proofs.Pairs.{Passed}
use Rattle.sheet.proofs.text.next_bad.Given as goal

abbrev pub invariant-loop-i : goal.invariant-loop-i
invariant-loop-i l = Passed l.sheet l.from l.i
