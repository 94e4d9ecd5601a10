use Rattle.after_split.proofs.Knowns.{line_sound}
use Rattle.after_split.proofs.Tries.{saves-some, lines-again, lines_done}
use Rattle.after_split.proofs.longest_part_of_lines.Goals as goal

pub longer-longest-requires : goal.longer-longest-requires
longer-longest-requires c = (
  saves-some _ _ _ c.saves_too_little.ensures c.if-saves_too_little.false,
  line_sound _ _ _ _ c.loop-c-test.true c.line-line.ensures c.loop-c.invariant.known,
)

pub loop-c-preserved : goal.loop-c-preserved
loop-c-preserved c = lines-again _ _ _ _ _ _ _ _ _ _ c.loop-c-test.true c.line-line.ensures c.longer-longest.ensures c.next_line-c.ensures c.loop-c.invariant

pub returns : goal.returns
returns c = lines_done _ _ _ _ _ _ _ c.loop-c-test.false c.loop-c.invariant
