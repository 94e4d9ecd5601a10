use Rattle.display_info.proofs.Opening.{marks_of}
use Rattle.display_info.proofs.Page.indicator.Goals as goal

pub returns : goal.returns
returns c = marks_of _ _ c.args.self.now.opened.passes c.indicator.ensures
