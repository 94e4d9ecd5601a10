-- `page::reasons` meets its contract. Assumes nothing.
use mathlib.Core.Path.{refl, ◌∙◌}
use mir.Syntax.{w32}
use mir.ValLaws.{to_z-of_z}
use Rattle.rules.specs.Reasons.{reasons}
use Rattle.page.proofs.Answers.{accepted, plain_table, refused_by}
use Rattle.page.proofs.Reasoned.{reasons_accepted, report_widths, report-target}
use Rattle.page.proofs.reasons.Goals as goal

pub returns-in-Err : goal.returns-in-Err
unfolding reasons
returns-in-Err c = rw (c.from.ensures, refused_by _ _ c.in-Err.ensures.checked)

pub difference-difference-requires : goal.difference-difference-requires
difference-difference-requires c =
    let e = c.in-Ok.ensures in
    let r = c.explain-found.ensures in
    record { arranged = (report_widths _ _ r, report-target _ _ r); plain_table = plain_table _ _ e }

pub returns : goal.returns
returns c =
    let z = to_z-of_z w32 c.difference-difference.result (record { sfits = c.difference-difference.type_inv }) ∙ c.difference-difference.ensures in
    reasons_accepted _ _ _ _ (accepted _ _ c.in-Ok.ensures) c.explain-found.ensures z refl
