use Rattle.table.proofs.Walks.{cells_inside}
use Rattle.parts.proofs.Bands.{row-lines_are}
use Rattle.parts.proofs.part.row_lines.Goals as goal

pub row_height-most-requires : goal.row_height-most-requires
row_height-most-requires c =
    record {
      rising = (c.args.row.now.drawable.rising, c.args.row.now.drawable.usable);
      from_in_bounds = (cells_inside c.args.row.now.sheet.now c.args.row.now.here c.row-r.result c.args.row.now.drawable.some c.args.row.now.drawable.ends c.row-r.ensures, rw c.row-r.ensures.cells c.args.row.now.drawable.known);
    }

pub returns : goal.returns
returns c =
    row-lines_are _ _ _ _ _ _ _ c.args.row.now.drawable c.row-r.ensures
    c.row_height-most.ensures c.within_limit.ensures
