use Rattle.parts.proofs.Parts.{part_top, part_header, part_body, part_bottom, part_end}
use Rattle.parts.proofs.part.PagePart.at.Goals as goal

pub returns-in-Top : goal.returns-in-Top
returns-in-Top c = part_top _ _ c.args.p.now.opened _ c.in-Top.is

pub returns-in-Header : goal.returns-in-Header
returns-in-Header c = part_header _ _ c.args.p.now.opened _ c.in-Header.is

pub returns-in-Body : goal.returns-in-Body
returns-in-Body c = part_body _ _ c.args.p.now.opened _ c.requires _ c.in-Body.is c.body_style.ensures

pub returns-in-Bottom : goal.returns-in-Bottom
returns-in-Bottom c = part_bottom _ _ c.args.p.now.opened _ c.in-Bottom.is

pub returns-in-End : goal.returns-in-End
returns-in-End c = part_end _ _ c.args.p.now.opened _ c.in-End.is
