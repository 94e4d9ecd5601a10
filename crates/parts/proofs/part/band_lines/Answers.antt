use native.Mathlib.Omega.{arith}
use Rattle.parts.proofs.Parts.{row-height_few}
use Rattle.parts.proofs.Bands.{band-none, band-some, rule_count, rule_few}
use Rattle.parts.proofs.part.band_lines.Goals as goal

pub returns-then-here-eq0 : goal.returns-then-here-eq0
returns-then-here-eq0 c = band-none _ _ _ _ c.if-here-eq0.true

pub overflow_add-result : goal.overflow_add-result
overflow_add-result c =
    omega (
      arith,
      row-height_few _ _ c.requires (omega (arith, c.if-here-eq0.false)),
      (rw (c.row_of.ensures.sheet, c.row_of.ensures.rows) at c.row_lines.ensures),
      rule_count c.args.p.now.info.columns.items c.args.style.rule,
      rule_few c.args.p.now.info.columns.items c.args.style.rule,
      (rw c.is_some.ensures at c.from.ensures),
    )

pub returns : goal.returns
returns c = band-some _ _ _ _ _ _ c.if-here-eq0.false (rw (c.row_of.ensures.sheet, c.row_of.ensures.rows) at c.row_lines.ensures) (rw c.is_some.ensures at c.from.ensures)
