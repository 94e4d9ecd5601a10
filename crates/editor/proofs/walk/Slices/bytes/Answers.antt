-- `editor::walk::Slices::bytes` meets its contract. Assumes nothing.
use mathlib.Core.Path.{refl}
use native.Mathlib.Omega.{arith}
use Rattle.editor.proofs.Taking.{bytes_past, bytes_short, bytes_there}
use Rattle.editor.proofs.walk.Slices.bytes.Goals as goal
use Rattle.editor.proofs.walk.Slices.bytes.Goals.{then-self-from-via-then-self-from, then-self-from-via-else-self-from+then-self-from-2}

pub returns-then-self-from : goal.returns-then-self-from
returns-then-self-from c =
    elim c.then-self-from.branch [
      | then-self-from-via-then-self-from w ↦ bytes_past _ _ _ w.if-self-from.true
      | then-self-from-via-else-self-from+then-self-from-2 w ↦
          bytes_short _ _ _ w.if-self-from.false (omega (arith, w.if-self-from-2.true, c.from-size.ensures))
    ]

pub returns : goal.returns
returns c =
    rw c.from-size.ensures
    (bytes_there _ _ _ refl c.if-self-from.false (omega (arith, c.if-self-from-2.false, c.from-size.ensures)))
