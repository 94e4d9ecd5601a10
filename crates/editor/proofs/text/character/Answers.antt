-- `editor::text::character` meets its contract. Assumes nothing.
use Rattle.editor.proofs.Texts.{character_plain, character_other, character_last, character_half, character_pair}
use Rattle.editor.proofs.text.character.Goals as goal
use Rattle.editor.proofs.text.character.Goals.{else-part-at-via-then-part-at+then-part-at-ge2+else-part-at-2}
use Rattle.editor.proofs.text.character.Goals.{else-part-at-via-then-part-at+else-part-at-ge2, else-part-at-via-else-part-at}

pub returns-then-is_printable : goal.returns-then-is_printable
returns-then-is_printable c = character_plain c.args.part.now _ _ c.requires c.is_printable.ensures c.if-is_printable.true

pub returns-then-part-at-2 : goal.returns-then-part-at-2
returns-then-part-at-2 c = character_pair c.args.part.now _ c.requires c.if-part-at-ge2.true c.if-part-at.true c.if-part-at-2.true

pub returns : goal.returns
returns c =
    elim c.else-part-at.branch [
      | else-part-at-via-then-part-at+then-part-at-ge2+else-part-at-2 w ↦
          character_half c.args.part.now _ c.requires w.if-part-at-ge2.true w.if-part-at.true w.if-part-at-2.false
      | else-part-at-via-then-part-at+else-part-at-ge2 w ↦
          character_last c.args.part.now _ _ c.requires c.is_printable.ensures c.if-is_printable.false w.if-part-at-ge2.false
      | else-part-at-via-else-part-at w ↦
          character_other c.args.part.now _ _ c.requires c.is_printable.ensures c.if-is_printable.false w.if-part-at.false
    ]
