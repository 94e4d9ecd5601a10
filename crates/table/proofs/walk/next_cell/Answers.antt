-- `table::walk::next_cell` meets its contract. Assumes nothing.
use Rattle.table.proofs.Walks.{cell_whole, cells_next}
use Rattle.table.proofs.Walks.{cells_next}
use Rattle.table.proofs.walk.next_cell.Goals as goal

pub cell_end-at-requires : goal.cell_end-at-requires
cell_end-at-requires c = cell_whole _ _ c.requires.0 c.requires.1

pub returns : goal.returns
returns c = cells_next _ _ c.requires.0 _ c.cell_end-at.ensures
