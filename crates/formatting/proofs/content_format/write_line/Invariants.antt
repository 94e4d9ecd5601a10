use Rattle.formatting.proofs.Line.{Drawing}
use Rattle.formatting.proofs.content_format.write_line.Given as goal

abbrev pub invariant-loop-i : goal.invariant-loop-i
invariant-loop-i l = Drawing l.sheet l.columns l.indicator l.style l.initial.state l.last l.initial.page l.initial.at l.page l.state l.more l.at l.i
