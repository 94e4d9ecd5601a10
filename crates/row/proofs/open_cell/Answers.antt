use native.Mathlib.Omega.{arith}
use Prim.Native.Nat.{◌<◌}
use mathlib.Core.Path.{◌∙◌, refl}
use Rattle.table.proofs.Walks.{lines_inside}
use Rattle.row.proofs.Open.{cell_known, texts-here, delimiter-here, opened-missing, opened-cell}
use Rattle.row.proofs.open_cell.Goals as goal

pub returns-then-cells-eq0 : goal.returns-then-cells-eq0
returns-then-cells-eq0 c =
    rw c.missing_cell.ensures (
      opened-missing c.args.sheet.now c.args.cells c.args.v c.args.n c.args.plain c.requires.width_nonzero.0 c.requires.width_nonzero.1 c.if-cells-eq0.true,
      refl,
    )

pub invariant_of-cell : goal.invariant_of-cell
invariant_of-cell c =
    let some : 0 < c.args.cells.left = omega (arith, c.if-cells-eq0.false) in
    let k = cell_known c.args.plain c.args.sheet.now c.args.cells some c.requires.cells_in_bounds.1 in
    record {
      usable = (
        c.requires.width_nonzero.0,
        delimiter-here _ c.args.sheet.now c.args.cells c.cell-x.result c.cell-x.ensures k c.args.v _ c.requires.width_nonzero.1
            (c.unwrap_or-delimiter.ensures ∙ c.set.ensures c.args.v.delimiter),
      );
    }

pub first_line-first-requires : goal.first_line-first-requires
first_line-first-requires c =
    let some : 0 < c.args.cells.left = omega (arith, c.if-cells-eq0.false) in
    let k = cell_known c.args.plain c.args.sheet.now c.args.cells some c.requires.cells_in_bounds.1 in (
      lines_inside c.args.sheet.now c.args.cells c.cell-x.result some c.requires.cells_in_bounds.0 c.cell-x.ensures,
      texts-here _ c.args.sheet.now c.args.cells c.cell-x.result c.cell-x.ensures k,
    )

pub returns : goal.returns
returns c =
    let some : 0 < c.args.cells.left = omega (arith, c.if-cells-eq0.false) in
    let k = cell_known c.args.plain c.args.sheet.now c.args.cells some c.requires.cells_in_bounds.1 in
    opened-cell c.args.sheet.now c.args.cells c.cell-x.result c.cell-x.ensures c.args.v c.args.n c.args.plain c.requires.width_nonzero.0
    c.first_line-first.result _
    (delimiter-here _ c.args.sheet.now c.args.cells c.cell-x.result c.cell-x.ensures k c.args.v _ c.requires.width_nonzero.1
    (c.unwrap_or-delimiter.ensures ∙ c.set.ensures c.args.v.delimiter))
    (c.unwrap_or-delimiter.ensures ∙ c.set.ensures c.args.v.delimiter) (c.unwrap_or-alignment.ensures ∙ c.of.ensures c.args.v.alignment) c.first_line-first.ensures c.further-line.ensures
