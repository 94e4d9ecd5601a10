use Rattle.borders.specs.Rule.{rule_style_of}
use Rattle.display_info.proofs.rule_style.Goals as goal

pub returns : goal.returns
unfolding rule_style_of
returns c = rw (c.edges.ensures, c.glyph.ensures, c.requires.1.0, c.requires.1.1)
