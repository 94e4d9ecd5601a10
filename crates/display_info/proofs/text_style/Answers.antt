use Rattle.formatting.specs.Stand.{text_style_of}
use Rattle.display_info.proofs.text_style.Goals as goal

pub returns : goal.returns
unfolding text_style_of
returns c = rw (c.edges.ensures, c.requires.1.0, c.requires.1.1.0, c.requires.1.1.1)
