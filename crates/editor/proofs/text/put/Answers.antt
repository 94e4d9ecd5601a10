-- `editor::text::put` meets its contract. Assumes nothing.
use native.Mathlib.Omega.{arith}
use Rattle.editor.proofs.Texts.{text_put}
use Rattle.editor.proofs.text.put.Goals as goal

pub returns : goal.returns
returns c =
    text_put c.args.sheet.now c.copy.new.dst c.args.part.now _
    (λ i. omega (arith, c.shared_slice_known-1.given i)) c.if-sheet-at-2.false c.if-sheet-at.false c.copy.ensures.dst_after
