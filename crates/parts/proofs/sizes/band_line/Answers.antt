use native.Mathlib.Omega.{arith}
use mathlib.Core.Path.{◌≡◌}
use Prim.Native.Nat.{◌+◌, ◌-◌}
use Rattle.parts.proofs.Bands.{bytes_few, band_there, line-shown, line_rule, line_plain}
use Rattle.parts.proofs.sizes.band_line.Goals as goal

pub returns-then-p : goal.returns-then-p
returns-then-p c =
    let some = band_there c.args.p.now.sheet.now c.args.p.now.info.columns.items c.args.style c.args.here c.args.n c.requires.n_in_bounds in
    line_plain c.args.p.now.sheet.now c.args.p.now.info.columns.items c.args.style c.args.here c.args.p.now.info.plain c.args.size c.requires.known.1 some c.if-p.true c.args.n c.requires.n_in_bounds

pub row_of-row-requires : goal.row_of-row-requires
row_of-row-requires c =
    (c.requires.known.0, band_there c.args.p.now.sheet.now c.args.p.now.info.columns.items c.args.style c.args.here c.args.n c.requires.n_in_bounds)

pub shown-requires : goal.shown-requires
shown-requires c =
    let some = band_there c.args.p.now.sheet.now c.args.p.now.info.columns.items c.args.style c.args.here c.args.n c.requires.n_in_bounds in (
      c.indicator.ensures.plain,
      (
        omega arith,
        omega (
          arith,
          c.requires.n_in_bounds,
          bytes_few c.args.p.now.sheet.now c.args.p.now.info.columns.items c.args.style c.args.here c.args.p.now.info.plain
              c.args.size c.requires.known.1 some,
        ),
      ),
    )

pub returns-then-n-row_lines : goal.returns-then-n-row_lines
returns-then-n-row_lines c =
    let some = band_there c.args.p.now.sheet.now c.args.p.now.info.columns.items c.args.style c.args.here c.args.n c.requires.n_in_bounds in
    let z : c.args.n + 1 - c.args.n ≡ 1 = omega arith in
    line-shown c.args.p.now.sheet.now c.args.p.now.info.columns.items c.args.style c.args.here c.args.p.now.info.plain c.args.size c.requires.known.1 some c.args.n _
    (omega (arith, (rw (c.row_of-row.ensures.sheet, c.row_of-row.ensures.rows) at c.row_lines.ensures), c.if-n-row_lines.true))
    (rw (c.indicator.ensures.are, z, c.row_of-row.ensures.sheet, c.row_of-row.ensures.columns, c.row_of-row.ensures.rows) at c.shown.ensures.0)

pub returns : goal.returns
returns c =
    let some = band_there c.args.p.now.sheet.now c.args.p.now.info.columns.items c.args.style c.args.here c.args.n c.requires.n_in_bounds in
    line_rule c.args.p.now.sheet.now c.args.p.now.info.columns.items c.args.style c.args.here c.args.p.now.info.plain c.args.size c.requires.known.1 some c.args.n
    (omega (arith, (rw (c.row_of-row.ensures.sheet, c.row_of-row.ensures.rows) at c.row_lines.ensures), c.if-n-row_lines.false)) c.requires.n_in_bounds
