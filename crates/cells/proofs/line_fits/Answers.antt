use Rattle.cells.proofs.Laws.{fits_short}
use Rattle.cells.proofs.line_fits.Goals as goal

pub returns-then-text-width : goal.returns-then-text-width
returns-then-text-width c = fits_short c.args.width c.args.text.bytes.now c.if-text-width.true
