-- `table::walk::next_line` meets its contract. Assumes nothing.
use Rattle.table.proofs.Walks.{line_whole, lines_next}
use Rattle.table.proofs.Walks.{lines_next}
use Rattle.table.proofs.walk.next_line.Goals as goal

pub line_end-at-requires : goal.line_end-at-requires
line_end-at-requires c = line_whole _ _ c.requires.0 c.requires.1

pub returns : goal.returns
returns c = lines_next _ _ c.requires.0 _ c.line_end-at.ensures
