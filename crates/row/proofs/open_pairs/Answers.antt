use native.Mathlib.Omega.{arith}
use mathlib.Core.Path.{ap, ◌∙◌}
use Prim.Native.Nat.{◌<◌}
use Rattle.laws.proofs.RowBytes.{pairs_of}
use Rattle.table.proofs.Walks.{lines_inside}
use Rattle.row.proofs.Heights.{pairs-missing}
use Rattle.row.proofs.open_pairs.Goals as goal

pub returns-then-from-eq0 : goal.returns-then-from-eq0
returns-then-from-eq0 c = pairs-missing c.args.sheet.now c.args.from c.if-from-eq0.true

pub cell_pairs-requires : goal.cell_pairs-requires
cell_pairs-requires c =
    let some : 0 < c.args.from.left = omega (arith, c.if-from-eq0.false) in
    lines_inside c.args.sheet.now c.args.from c.cell-x.result some c.requires c.cell-x.ensures

pub returns : goal.returns
returns c = (c.cell_pairs.ensures.0 ∙ ap pairs_of c.cell-x.ensures.lines, c.cell_pairs.ensures.1)
