-- `accepted::AcceptedSheet::rows` meets its contract. The loop: what is left of the header ends where the rows' count stands. Assumes nothing.
use Rattle.table.proofs.Walks.{rows_are, rows_none, rows-room}
use Rattle.table.proofs.Walks.{rows_are, rows_none}
use Rattle.table.proofs.Held.{room}
use mathlib.Core.Path.{sym, ◌∙◌}
use native.Mathlib.Omega.{arith}
use Rattle.table.proofs.accepted.AcceptedSheet.rows.Goals as goal

pub next_row-c-requires : goal.next_row-c-requires
next_row-c-requires c = (c.loop-c-test.true, let r = room _ c.args.self.now.accepted in omega (arith, c.loop-c.invariant))

pub bounds-self-place : goal.bounds-self-place
bounds-self-place c = let h = rows-room c.args.self.now.bytes.now c.loop-c.c c.args.self.now.accepted c.loop-c.invariant c.loop-c-test.false in omega arith

pub overflow_add-result : goal.overflow_add-result
overflow_add-result c =
    let h = rows-room c.args.self.now.bytes.now c.loop-c.c c.args.self.now.accepted c.loop-c.invariant c.loop-c-test.false in
    omega arith

pub returns : goal.returns
returns c = rows_are _ _ _ c.args.self.now.accepted (sym (rows_none _ _ c.loop-c-test.false) ∙ c.loop-c.invariant) c.from-left.ensures
