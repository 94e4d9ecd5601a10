-- `sheet::text::bytes` meets its contract. The loop: what is left of the bytes comes to what all of them do. Assumes nothing.
use Prim.Native.Nat.{◌-◌, min}
use mathlib.Core.Path.{◌≡◌}
use lib.ListN.{length}
use Rattle.sheet.specs.Steps.{bytes_from}
use Rattle.sheet.proofs.Pairs.{Left}
use Rattle.sheet.proofs.text.bytes.Given as goal

abbrev pub invariant-loop-i : goal.invariant-loop-i
invariant-loop-i l = (l.inside ≡ min (length l.sheet) l.end) × Left l.pairs l.sheet l.inside l.end l.i (bytes_from l.pairs l.sheet l.end l.from)

abbrev pub decreases-loop-i : goal.decreases-loop-i
decreases-loop-i l = l.end - l.i
