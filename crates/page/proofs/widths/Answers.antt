-- `page::widths` meets its contract. Assumes nothing.
use Rattle.rules.specs.Calls.{measure}
use Rattle.page.proofs.Answers.{accepted, refused_by}
use Rattle.page.proofs.Measured.{measure_accepted}
use Rattle.page.proofs.widths.Goals as goal

pub returns-in-Err : goal.returns-in-Err
unfolding measure
returns-in-Err c = rw (c.from.ensures, refused_by _ _ c.in-Err.ensures.checked)

pub returns : goal.returns
returns c = measure_accepted _ _ (accepted _ _ c.in_default.ensures) c.content_widths-found.ensures
