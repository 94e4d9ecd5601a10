use mathlib.Core.Path.{sym, ◌∙◌}
use native.Mathlib.Omega.{arith}
use Rattle.content_split.proofs.Sounds.{sound-all}
use Rattle.cells.proofs.Laws.{whole-head, long-head}
use Rattle.cells.proofs.Wrapping.first_part.Goals as goal

pub returns-then-line_fits : goal.returns-then-line_fits
returns-then-line_fits c = whole-head _ _ c.args.self.now.usable.0 c.args.text.bytes.now (sym c.line_fits.ensures ∙ c.if-line_fits.true)

pub next_part-requires : goal.next_part-requires
next_part-requires c =
    let s = c.split.ensures in
    rw (s.0, s.1.1) (omega arith, sound-all _ _ c.args.self.now.usable.1 c.requires)

pub returns : goal.returns
returns c =
    let s = c.split.ensures in
    long-head c.args.self.now.width c.args.self.now.delimiter c.args.self.now.usable.0 c.args.text.bytes.now
    (sym c.line_fits.ensures ∙ c.if-line_fits.false) c.next_part.result (rw (s.0, s.1.0, s.1.1) at c.next_part.ensures)
