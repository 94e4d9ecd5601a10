use Rattle.width_steps.proofs.Named.{report_found}
use Rattle.width_steps.proofs.explain.Goals as goal

pub returns : goal.returns
returns c =
    let accepted = c.args.sheet.now.accepted in
    report_found _ accepted _ c.arrange_sheet-found.ensures _ _ _ _ c.widths_of.ensures c.unwrap_or.ensures c.steps.ensures c.widened_columns.ensures
