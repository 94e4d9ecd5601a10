-- `writer::write` meets its contract. Assumes nothing.
use mathlib.Core.Path.{refl}
use Rattle.std.proofs.lemmas.Result.{err_from_is_err_and}
use Rattle.editor.specs.Walk.{lacking_of}
use Rattle.rules.proofs.Refusals.{number_some}
use Rattle.writer.proofs.Answers.{call_refused, call_missing, call_saved}
use Rattle.writer.proofs.write.Goals as goal

pub returns-in_err-walked : goal.returns-in_err-walked
returns-in_err-walked c =
    let p = err_from_is_err_and c.from_residual.result c.from_residual.ensures.1 in
    let r = call_missing c.args.table.now.numbers.now c.args.table.now.text.now c.args.sheet.now (lacking_of c.in_err-walked.field-0.0) c.in_err-walked.ensures refl in
    record { value = rw (p.1, p.2.0, p.2.1) r.0; sheet_after = r.1 }

pub returns-in_err-decide : goal.returns-in_err-decide
returns-in_err-decide c =
    let p = err_from_is_err_and c.from_residual-in_err-decide.result c.from_residual-in_err-decide.ensures.1 in
    let r = call_refused c.args.table.now.numbers.now c.args.table.now.text.now c.args.sheet.now _ _ c.in_ok-walked.ensures c.in_err-decide.ensures (number_some _) in
    record { value = rw (p.1, p.2) r.0; sheet_after = r.1 }

pub returns : goal.returns
returns c =
    let r = call_saved c.args.table.now.numbers.now c.args.table.now.text.now c.args.sheet.now _ _ c.in_ok-walked.ensures c.in_ok-decide.ensures _ _ refl c.fields.ensures in
    record { value = r.0; sheet_after = r.1 }
