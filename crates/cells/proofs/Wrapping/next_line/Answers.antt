use native.Mathlib.Omega.{arith}
use Prim.Native.Nat.{◌<◌}
use Rattle.content_split.proofs.Sounds.{sound_text}
use Rattle.cells.proofs.Laws.{first_known, next-ended, next_found, next_further}
use Rattle.cells.proofs.Wrapping.next_line.Goals as goal

pub returns-then-lines-eq0 : goal.returns-then-lines-eq0
returns-then-lines-eq0 c = next-ended _ _ _ c.args.self.now.usable.0 _ c.requires c.if-lines-eq0.true _ c.no_line.ensures

pub invariant_of-text : goal.invariant_of-text
invariant_of-text c =
    let some : 0 < c.args.c.lines.left = omega (arith, c.if-lines-eq0.false) in
    record { known = rw c.line.ensures (first_known _ _ _ some c.requires.texts).plain }

pub next_part-part-requires : goal.next_part-part-requires
next_part-part-requires c =
    let some : 0 < c.args.c.lines.left = omega (arith, c.if-lines-eq0.false) in
    let t = first_known _ _ _ some c.requires.texts in
    let s = c.split.ensures in
    rw (s.0, s.1.1, c.line.ensures) (c.requires.from, sound_text _ _ _ c.args.self.now.usable.1 t.text c.requires.begins)

pub returns-then-r : goal.returns-then-r
returns-then-r c =
    let s = c.split.ensures in
    next_found _ _ _ c.args.self.now.usable.0 _ c.requires _ c.line.ensures c.next_part-part.result (rw (s.0, s.1.0, s.1.1) at c.next_part-part.ensures) _
    c.take_part-r.ensures c.if-r.true

pub returns : goal.returns
returns c =
    let s = c.split.ensures in
    rw
    (next_further _ _ _ c.args.self.now.usable.0 _ c.requires _ c.line.ensures c.next_part-part.result (rw (s.0, s.1.0, s.1.1) at c.next_part-part.ensures) _
    c.take_part-r.ensures c.if-r.false _ c.next_line-others.ensures)
    c.first_line.ensures
