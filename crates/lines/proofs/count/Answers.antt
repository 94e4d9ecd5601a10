use native.Mathlib.Omega.{arith}
use mathlib.Core.Path.{sym, ap, ◌∙◌}
use lib.ListN.{length}
use Rattle.rules.specs.Page.{closed}
use Rattle.parts.proofs.Bands.{total-lines, total_bytes}
use Rattle.lines.proofs.Walks.{counting_begins, counting-room, counting-on, counting_done}
use Rattle.lines.proofs.count.Goals as goal

pub loop-c-init : goal.loop-c-init
loop-c-init c =
    counting_begins c.args.p.now.sheet.now c.args.p.now.info c.args.p.now.opened _
    c.first-c.ensures

pub overflow_add-lines : goal.overflow_add-lines
overflow_add-lines c =
    let r = counting-room c.args.p.now.sheet.now c.args.p.now.info c.loop-c.c _ _ c.loop-c.invariant _ _ (c.lines-n.ensures ∙ ap length c.at-part.ensures.lines) (c.bytes-more.ensures ∙ ap (λ ls. length (closed ls)) c.at-part.ensures.lines) in
    omega (arith, r.0, total-lines c.args.p.now.sheet.now c.args.p.now.info c.args.p.now.opened)

pub overflow_add-bytes : goal.overflow_add-bytes
overflow_add-bytes c =
    let r = counting-room c.args.p.now.sheet.now c.args.p.now.info c.loop-c.c _ _ c.loop-c.invariant _ _ (c.lines-n.ensures ∙ ap length c.at-part.ensures.lines) (c.bytes-more.ensures ∙ ap (λ ls. length (closed ls)) c.at-part.ensures.lines) in
    omega (arith, r.1, total_bytes c.args.p.now.sheet.now c.args.p.now.info c.args.p.now.opened)

pub loop-c-preserved : goal.loop-c-preserved
loop-c-preserved c = counting-on _ _ c.loop-c.c _ _ c.loop-c.invariant _ _ (c.lines-n.ensures ∙ ap length c.at-part.ensures.lines) (c.bytes-more.ensures ∙ ap (λ ls. length (closed ls)) c.at-part.ensures.lines) _ c.next-c.ensures

pub returns : goal.returns
returns c =
    counting_done _ _ c.loop-c.c _ _ c.loop-c.invariant
    (sym c.is_end.ensures ∙ c.loop-c-test.false)
