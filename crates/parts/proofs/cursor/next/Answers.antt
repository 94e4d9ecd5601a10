use Rattle.parts.proofs.Parts.{next_top, next_header, next-body, next_bottom, next_end}
use Rattle.parts.proofs.cursor.next.Goals as goal

pub returns-in-Top : goal.returns-in-Top
returns-in-Top c = rw c.start.ensures (next_top _ c.args.c c.requires c.in-Top.is)

pub returns-in-Header : goal.returns-in-Header
returns-in-Header c = rw c.start-in-Header.ensures (next_header _ c.args.c c.requires c.in-Header.is)

pub returns-in-Body : goal.returns-in-Body
returns-in-Body c = next-body _ c.args.c c.requires _ c.in-Body.is c.after_row.ensures

pub returns-in-Bottom : goal.returns-in-Bottom
returns-in-Bottom c = rw c.start-in-Bottom.ensures (next_bottom _ c.args.c c.requires c.in-Bottom.is)

pub returns-in-End : goal.returns-in-End
returns-in-End c = rw c.start-in-End.ensures (next_end _ c.args.c c.requires c.in-End.is)
