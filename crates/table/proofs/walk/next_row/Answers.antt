-- `table::walk::next_row` meets its contract. Assumes nothing.
use Rattle.table.proofs.Walks.{row_whole, rows_next}
use Rattle.table.proofs.walk.next_row.Goals as goal

pub row_end-at-requires : goal.row_end-at-requires
row_end-at-requires c = row_whole _ _ c.requires.0 c.requires.1

pub returns : goal.returns
returns c = rows_next _ _ c.requires.0 _ c.row_end-at.ensures
