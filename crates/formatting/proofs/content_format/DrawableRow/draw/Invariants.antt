use Prim.Native.Nat.{◌-◌}
use lib.ListN.{length}
use Rattle.table.specs.Walk.{first_row}
use Rattle.formatting.proofs.RowText.{Running}
use Rattle.formatting.proofs.content_format.DrawableRow.draw.Given as goal

abbrev pub invariant-loop-more : goal.invariant-loop-more
invariant-loop-more l = Running l.self.sheet.now l.self.columns.now l.style (first_row l.self.sheet.now l.self.here) l.first l.initial.page l.page l.state l.more l.at l.line

abbrev pub decreases-loop-more : goal.decreases-loop-more
decreases-loop-more l = length l.initial.page - l.at
