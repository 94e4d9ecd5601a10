use Rattle.table.specs.Held.{table_of}
use Rattle.display_info.proofs.Opening.{Showing}
use Rattle.display_info.proofs.show_columns.Given as goal

abbrev pub invariant-loop-j : goal.invariant-loop-j
invariant-loop-j l = Showing (table_of l.sheet.bytes.now) l.j l.columns.items
