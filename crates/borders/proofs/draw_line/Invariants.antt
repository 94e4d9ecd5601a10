use Rattle.borders.proofs.Rule.{Ruling}
use Rattle.borders.proofs.draw_line.Given as goal

abbrev pub invariant-loop-i : goal.invariant-loop-i
invariant-loop-i l = Ruling l.columns l.style l.initial.page l.initial.at l.page l.at l.i
