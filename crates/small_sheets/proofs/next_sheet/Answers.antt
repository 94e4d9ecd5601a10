use mathlib.Core.Path.{refl, sym, ap, ◌∙◌}
use Rattle.rules.specs.declared.Printed.{Printed}
use Rattle.rules.specs.Calls.{Written, printed_of}
use Rattle.small_sheets.proofs.Answers.{sheet_fits, sheet_printed, printed_all}
use Rattle.small_sheets.proofs.next_sheet.Goals as goal

pub unwrap-requires : goal.unwrap-requires
unwrap-requires c =
    let e = sheet_printed c.args.n c.args.space.now c.requires.n_bound c.requires.in_bounds in
    rw (printed_all c.write_sheet.result _ (c.write_sheet.ensures.value ∙ ap (λ (w : Written). w.answer) e)) refl

pub returns-clause-value : goal.returns-clause-value
returns-clause-value c =
    let e = sheet_printed c.args.n c.args.space.now c.requires.n_bound c.requires.in_bounds in
    let answer = sym (ap printed_of c.unwrap.ensures) ∙ (c.write_sheet.ensures.value ∙ ap (λ (w : Written). w.answer) e) in
    let size = ap (λ (p : Printed). p.written) answer in
    (size, rw size (sheet_fits c.args.n c.requires.n_bound))

pub returns-clause-space_after : goal.returns-clause-space_after
returns-clause-space_after c =
    c.write_sheet.ensures.sheet_after
    ∙ ap (λ (w : Written). w.buffer) (sheet_printed c.args.n c.args.space.now c.requires.n_bound c.requires.in_bounds)
