use mathlib.Core.Path.{◌∙◌}
use native.Mathlib.Omega.{arith}
use Prim.Native.Nat.{◌<◌}
use Rattle.table.proofs.Walks.{lines_inside}
use Rattle.row.proofs.Open.{cell_known, texts-here, delimiter-here}
use Rattle.row.proofs.Heights.{height-missing, height-here}
use Rattle.row.proofs.open_height.Goals as goal

pub returns-then-from-eq0 : goal.returns-then-from-eq0
returns-then-from-eq0 c = height-missing c.args.sheet.now c.args.from c.args.v c.if-from-eq0.true

pub invariant_of-cell : goal.invariant_of-cell
invariant_of-cell c =
    let some : 0 < c.args.from.left = omega (arith, c.if-from-eq0.false) in
    let k = cell_known c.args.plain c.args.sheet.now c.args.from some c.requires.from_in_bounds.1 in
    record {
      usable = (
        c.requires.width_nonzero.0,
        delimiter-here _ c.args.sheet.now c.args.from c.cell-x.result c.cell-x.ensures k c.args.v _ c.requires.width_nonzero.1
            (c.unwrap_or-delimiter.ensures ∙ c.set.ensures c.args.v.delimiter),
      );
    }

pub cell_height-requires : goal.cell_height-requires
cell_height-requires c =
    let some : 0 < c.args.from.left = omega (arith, c.if-from-eq0.false) in
    let k = cell_known c.args.plain c.args.sheet.now c.args.from some c.requires.from_in_bounds.1 in (
      lines_inside c.args.sheet.now c.args.from c.cell-x.result some c.requires.from_in_bounds.0 c.cell-x.ensures,
      texts-here _ c.args.sheet.now c.args.from c.cell-x.result c.cell-x.ensures k,
    )

pub returns : goal.returns
returns c =
    height-here c.args.sheet.now c.args.from c.cell-x.result c.cell-x.ensures c.args.v _ _ (c.unwrap_or-delimiter.ensures ∙ c.set.ensures c.args.v.delimiter)
    c.cell_height.ensures
