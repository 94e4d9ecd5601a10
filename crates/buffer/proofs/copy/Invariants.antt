use mathlib.Core.Path.{◌≡◌}
use lib.ListN.{take}
use Rattle.buffer.specs.Put.{put_at}
use Rattle.buffer.proofs.copy.Given as goal

abbrev pub invariant-loop-i : goal.invariant-loop-i
invariant-loop-i l = l.dst ≡ put_at l.initial.dst l.at (take l.i l.src)
