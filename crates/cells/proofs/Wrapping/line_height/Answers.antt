use mathlib.Core.Path.{sym, ◌∙◌}
use Rattle.content_split.proofs.Sounds.{sound-all}
use Rattle.cells.proofs.Counts.{line_long, line_short}
use Rattle.cells.proofs.Wrapping.line_height.Goals as goal

pub returns-then-line_fits : goal.returns-then-line_fits
returns-then-line_fits c = line_short _ _ c.args.self.now.usable.0 c.args.text.bytes.now (sym c.line_fits.ensures ∙ c.if-line_fits.true)

pub count_parts-requires : goal.count_parts-requires
count_parts-requires c =
    let s = c.split.ensures in
    rw (s.0, s.1.1) (sound-all _ _ c.args.self.now.usable.1 c.requires)

pub returns : goal.returns
returns c =
    let s = c.split.ensures in
    line_long _ _ c.args.self.now.usable.0 c.args.text.bytes.now _ (sym c.line_fits.ensures ∙ c.if-line_fits.false)
    (rw (s.0, s.1.0, s.1.1) at c.count_parts.ensures)
