-- `editor::text::pairs` meets its contract. The loop: what is left to judge comes to what there was. Assumes nothing.
use Prim.Native.Nat.{◌-◌}
use lib.ListN.{length}
use Rattle.editor.proofs.Texts.{Judged}
use Rattle.editor.proofs.text.pairs.Given as goal

abbrev pub invariant-loop-i : goal.invariant-loop-i
invariant-loop-i l = Judged l.part l.i

abbrev pub decreases-loop-i : goal.decreases-loop-i
decreases-loop-i l = length l.part - l.i
