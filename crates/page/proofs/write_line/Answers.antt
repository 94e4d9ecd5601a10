-- `page::write_line` meets its contract. Assumes nothing.
use mathlib.Core.Path.{sym, ap}
use lib.ListN.{take}
use lib.Seq.{length-take-le}
use Rattle.std.proofs.lemmas.Result.{err_from_is_err_and}
use Rattle.rules.specs.Page.{line_at}
use Rattle.rules.specs.Calls.{Written}
use Rattle.table.specs.Held.{table_of}
use Rattle.page.proofs.Answers.{accepted, plain_table, line_refused, line_turned, found_here, lines-bound, line-written, line-answer, prefix_back}
use Rattle.page.proofs.write_line.Goals as goal

pub returns-in_err-examined : goal.returns-in_err-examined
returns-in_err-examined c =
    let p = err_from_is_err_and c.from_residual.result c.from_residual.ensures.1 in
    let e = line_refused _ _ c.in_err-examined.ensures.checked c.args.line c.args.page.now in
    record { value = rw (p.1, p.2) (sym (ap (λ (w : Written). w.answer) e)); page_after = sym (ap (λ (w : Written). w.buffer) e) }

pub open-p-requires : goal.open-p-requires
open-p-requires c = let e = c.in_ok-examined.ensures in plain_table _ _ e

pub returns-in_err-found : goal.returns-in_err-found
returns-in_err-found c =
    let p = err_from_is_err_and c.from_residual-in_err-found.result c.from_residual-in_err-found.ensures.1 in
    let h = accepted _ _ c.in_ok-examined.ensures in
    let e = line_turned _ h _ c.open-p.ensures.all_rows c.args.line c.args.page.now _ (rw c.open-p.ensures.same_sheet at c.in_err-found.ensures.0) in
    record { value = rw (p.1, p.2) (sym (ap (λ (w : Written). w.answer) e)); page_after = sym (ap (λ (w : Written). w.buffer) e) }

pub write-drawn-requires : goal.write-drawn-requires
write-drawn-requires c =
    let h = accepted _ _ c.in_ok-examined.ensures in
    let o = c.open-p.ensures in
    let f = rw c.open-p.ensures.same_sheet at c.in_ok-found.ensures in
    rw o.same_sheet (f.at, lines-bound _ h _ o.all_rows _ c.args.line f.lines)

pub returns : goal.returns
returns c =
    let h = accepted _ _ c.in_ok-examined.ensures in
    let o = c.open-p.ensures.all_rows in
    let f = rw c.open-p.ensures.same_sheet at c.in_ok-found.ensures in
    let k = c.args.line in
    let b = c.args.page.now in
    let n = c.in_ok-found.found.size in
    let t = found_here _ h _ o k b _ f in
    let l = line-written _ h _ o k b _ f (take n b) _ c.write-drawn.result (length-take-le n b t.1.1) (rw c.open-p.ensures.same_sheet at c.write-drawn.ensures) in
    let e = line-answer _ h _ o k b _ f c.write-drawn.result.bytes _ l.0
    (prefix_back (line_at (table_of c.args.sheet.now) k) b _ n (sym t.1.0) t.1.1 l.1) in
    record { value = sym (ap (λ (x : Written). x.answer) e); page_after = sym (ap (λ (x : Written). x.buffer) e) }
