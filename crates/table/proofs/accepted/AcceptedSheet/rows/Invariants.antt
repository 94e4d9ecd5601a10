-- What is left of the header ends where the rows' count stands.
use Rattle.table.specs.Walk.{rows_end}
use Rattle.rules.specs.Places.{rows_place}
use mathlib.Core.Path.{◌≡◌}
use Rattle.table.proofs.accepted.AcceptedSheet.rows.Given as goal

abbrev pub invariant-loop-c : goal.invariant-loop-c
invariant-loop-c l = rows_end l.self.bytes.now l.c ≡ rows_place l.self.bytes.now

abbrev pub decreases-loop-c : goal.decreases-loop-c
decreases-loop-c l = l.c.left
