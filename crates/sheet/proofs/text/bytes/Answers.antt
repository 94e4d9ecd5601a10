-- `sheet::text::bytes` meets its contract. Assumes nothing.
use native.Mathlib.Omega.{arith}
use Rattle.sheet.proofs.Pairs.{left_begin, left_next, left_done}
use Rattle.sheet.proofs.text.bytes.Goals as goal

pub loop-i-init : goal.loop-i-init
loop-i-init c = (c.requires.1, left_begin _ _ _ _ c.requires.1 _ _ c.next_bad-i.ensures)

pub loop-i-preserved : goal.loop-i-preserved
loop-i-preserved c =
    let inv = c.loop-i.invariant in
    (inv.0, (left_next _ _ _ _ inv.0 _ _ inv.1 _ c.in_ok-next.ensures _ c.rare_bad-i.ensures).1)

pub returns : goal.returns
returns c = let inv = c.loop-i.invariant in left_done _ _ _ _ inv.0 _ _ inv.1 (omega arith)
