use mathlib.Core.Path.{ap, ◌∙◌}
use Rattle.rules.specs.Text.{text_width}
use Rattle.text_width.proofs.Measure.{plain_columns, lent_slice}
use Rattle.text_width.proofs.Text.columns.Goals as goal

pub returns-then-self : goal.returns-then-self
returns-then-self c =
    plain_columns c.args.self.now.plain c.args.self.now.bytes.now c.args.from c.args.to c.if-self.true c.requires.0 c.requires.1
    c.args.self.now.known

pub returns : goal.returns
returns c = c.count.ensures ∙ ap text_width (lent_slice c.args.from c.args.to c.args.self.now.bytes.now)
