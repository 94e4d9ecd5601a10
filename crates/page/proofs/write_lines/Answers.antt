-- `page::write_lines` meets its contract. Assumes nothing.
use mathlib.Core.Path.{sym, ap}
use native.Mathlib.Omega.{arith}
use Rattle.std.proofs.lemmas.Result.{err_from_is_err_and}
use Rattle.page.specs.Several.{Several}
use Rattle.page.proofs.Answers.{accepted, plain_table, lines_refused, lines_turned, lines-bound, lines-answer, lines_few, k_small}
use Rattle.page.proofs.write_lines.Goals as goal

pub returns-in_err-examined : goal.returns-in_err-examined
returns-in_err-examined c =
    let p = err_from_is_err_and c.from_residual.result c.from_residual.ensures.1 in
    let e = lines_refused _ _ c.in_err-examined.ensures.checked c.args.line c.args.page.now in
    record { value = rw (p.1, p.2) (sym (ap (λ (w : Several). w.answer) e)); page_after = sym (ap (λ (w : Several). w.buffer) e); few = rw (p.1) tt }

pub open-p-requires : goal.open-p-requires
open-p-requires c = let e = c.in_ok-examined.ensures in plain_table _ _ e

pub returns-in_err-found : goal.returns-in_err-found
returns-in_err-found c =
    let p = err_from_is_err_and c.from_residual-in_err-found.result c.from_residual-in_err-found.ensures.1 in
    let h = accepted _ _ c.in_ok-examined.ensures in
    let e = lines_turned _ h _ c.open-p.ensures.all_rows c.args.line c.args.page.now _ (rw c.open-p.ensures.same_sheet at c.in_err-found.ensures.0) in
    record { value = rw (p.1, p.2) (sym (ap (λ (w : Several). w.answer) e)); page_after = sym (ap (λ (w : Several). w.buffer) e); few = rw (p.1) tt }

pub write-wrote-requires : goal.write-wrote-requires
write-wrote-requires c =
    let h = accepted _ _ c.in_ok-examined.ensures in
    let o = c.open-p.ensures in
    let f = rw c.open-p.ensures.same_sheet at c.in_ok-found.ensures in
    rw o.same_sheet (f.at, lines-bound _ h _ o.all_rows _ c.args.line f.lines)

pub returns : goal.returns
returns c =
    let h = accepted _ _ c.in_ok-examined.ensures in
    let o = c.open-p.ensures in
    let f = rw c.open-p.ensures.same_sheet at c.in_ok-found.ensures in
    let e = lines-answer _ h _ o.all_rows c.args.line c.args.page.now _ f _ c.write-wrote.result (rw c.open-p.ensures.same_sheet at c.write-wrote.ensures) in
    record {
      value = sym (ap (λ (w : Several). w.answer) e);
      page_after = sym (ap (λ (w : Several). w.buffer) e);
      few = omega (
        arith,
        k_small _ h _ o.all_rows c.args.line c.args.page.now _ f,
        lines_few _ h _ o.all_rows _ c.args.line c.write-wrote.result f.lines (rw c.open-p.ensures.same_sheet at c.write-wrote.ensures),
      );
    }
