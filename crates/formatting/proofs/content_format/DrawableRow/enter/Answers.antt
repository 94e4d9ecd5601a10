use Rattle.table.specs.Walk.{first_row}
use Rattle.table.proofs.Walks.{cells_inside}
use Rattle.formatting.proofs.RowText.{enters}
use Rattle.formatting.proofs.content_format.DrawableRow.enter.Goals as goal

pub format_row-found-requires : goal.format_row-found-requires
format_row-found-requires c = let D = c.args.self.now.drawable in
    record {
      rising = (D.rising, (D.usable, c.requires));
      cells_in_bounds = (cells_inside c.args.self.now.sheet.now c.args.self.now.here c.row-r.result D.some D.ends c.row-r.ensures, rw c.row-r.ensures.cells D.known);
    }

pub returns-clause-entered : goal.returns-clause-entered
returns-clause-entered c =
    let D = c.args.self.now.drawable in
    record {
      limit = c.row-r.ensures.limit;
      stands = enters c.args.self.now.sheet.now c.args.self.now.columns.now (first_row c.args.self.now.sheet.now c.args.self.now.here) D.views c.args.n
          c.format_row-found.new.state c.format_row-found.result c.has_line.result _ (rw c.row-r.ensures.cells at c.format_row-found.ensures.opened.0) c.format_row-found.ensures.opened.1
          c.row-r.ensures.limit c.has_line.ensures;
    }
