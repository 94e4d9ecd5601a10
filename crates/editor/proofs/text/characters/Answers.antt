-- `editor::text::characters` meets its contract. Assumes nothing.
use Rattle.editor.proofs.Texts.{passed_bad}
use Rattle.editor.proofs.text.characters.Goals as goal

pub returns-then-not-letter : goal.returns-then-not-letter
returns-then-not-letter c = passed_bad _ _ _ _ c.loop-i-test.true c.letter.ensures c.if-not-letter.true c.loop-i.invariant
