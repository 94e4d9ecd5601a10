-- `editor::text::characters` meets its contract. The loop: what is left to judge comes to what there was. Assumes nothing.
use Rattle.editor.proofs.Texts.{Passed}
use Rattle.editor.proofs.text.characters.Given as goal

abbrev pub invariant-loop-i : goal.invariant-loop-i
invariant-loop-i l = Passed l.zero l.part l.i
