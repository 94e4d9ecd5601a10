use Rattle.parts.proofs.Parts.{after_last, after_more}
use Rattle.parts.proofs.cursor.after_row.Goals as goal

pub returns-then-here-le1 : goal.returns-then-here-le1
returns-then-here-le1 c = rw c.start.ensures (after_last _ _ c.requires c.if-here-le1.true)

pub returns : goal.returns
returns c = rw c.start-2.ensures (after_more _ _ _ c.requires c.next_row.ensures)
