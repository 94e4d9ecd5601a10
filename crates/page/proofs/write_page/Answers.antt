-- `page::write_page` meets its contract. Assumes nothing.
use mathlib.Core.Path.{sym, ap}
use native.Mathlib.Omega.{arith}
use Rattle.std.proofs.lemmas.Result.{err_from_is_err_and}
use Rattle.rules.specs.Calls.{Written}
use Rattle.parts.proofs.Parts.{first-at, first-ahead}
use Rattle.page.proofs.Answers.{accepted, plain_table, page_refused, count-all, lines-bound-first, page_short, page-written}
use Rattle.page.proofs.write_page.Goals as goal

pub returns-in_err-examined : goal.returns-in_err-examined
returns-in_err-examined c =
    let p = err_from_is_err_and c.from_residual.result c.from_residual.ensures.1 in
    let e = page_refused _ _ c.in_err-examined.ensures.checked c.args.page.now in
    record { value = rw (p.1, p.2) (sym (ap (λ (w : Written). w.answer) e)); page_after = sym (ap (λ (w : Written). w.buffer) e) }

pub open-p-requires : goal.open-p-requires
open-p-requires c = let e = c.in_ok-examined.ensures in plain_table _ _ e

pub returns-then-page-totals : goal.returns-then-page-totals
returns-then-page-totals c =
    let h = accepted _ _ c.in_ok-examined.ensures in
    let o = c.open-p.ensures in
    let t = count-all _ h _ o.all_rows _ (rw o.same_sheet at c.count-totals.ensures) in
    let e = page_short _ h c.args.page.now _ t.1 c.if-page-totals.true in
    record { value = sym (ap (λ (w : Written). w.answer) e); page_after = sym (ap (λ (w : Written). w.buffer) e) }

pub write-wrote-requires : goal.write-wrote-requires
write-wrote-requires c =
    let o = c.open-p.ensures in
    let O = rw o.same_sheet at c.open-p.result.opened in
    let h = accepted _ _ c.in_ok-examined.ensures in
    rw (o.same_sheet, c.first.ensures) (first-at _ _ O, lines-bound-first _ h _ o.all_rows O)

pub returns : goal.returns
returns c =
    let o = c.open-p.ensures in
    let h = accepted _ _ c.in_ok-examined.ensures in
    let t = count-all _ h _ o.all_rows _ (rw o.same_sheet at c.count-totals.ensures) in
    let e = page-written _ h _ o.all_rows c.args.page.now _ c.write-wrote.result (first-ahead _ _ (rw o.same_sheet at c.open-p.result.opened))
    (rw (o.same_sheet, c.first.ensures) at c.write-wrote.ensures) (omega (arith, t.1, c.if-page-totals.false)) in
    record { value = sym (ap (λ (x : Written). x.answer) e); page_after = sym (ap (λ (x : Written). x.buffer) e) }
