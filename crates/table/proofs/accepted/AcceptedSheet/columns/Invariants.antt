use Rattle.table.specs.Held.{table_of}
use Rattle.table.proofs.Copies.{Copied}
use Rattle.table.proofs.accepted.AcceptedSheet.columns.Given as goal

abbrev pub invariant-loop-i : goal.invariant-loop-i
invariant-loop-i l = Copied (table_of l.self.bytes.now).columns l.i l.columns.items
