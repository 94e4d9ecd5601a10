-- What a section comes to, as the code walks it, and what stays where something was missing: the check's own search tries these laws. Assumes nothing.
pub use Rattle.writer.proofs.Walks.{walked_stays, byte_stays, width_with, width_without, constraint_steps, constraint_stays, column_steps, counted_steps, again-begin, again_more, again_done}
pub use Rattle.writer.proofs.Walks.{items_stay, cell_steps, cells_steps, row_steps, head_steps, body_steps, body_stays, table_steps}
pub use Rattle.rules.proofs.Refusals.{number_some}
pub use Rattle.writer.proofs.Answers.{fit_fault, fit_short, fit_fine, numbers_over, text_over, too_long, by_fit}

pub ruleset sections = (
  walked_stays,
  byte_stays,
  width_with,
  width_without,
  constraint_steps,
  constraint_stays,
  column_steps,
  counted_steps,
  items_stay,
  cell_steps,
  cells_steps,
  row_steps,
  head_steps,
  body_steps,
  body_stays,
  table_steps,
  again-begin,
  again_more,
  again_done,
)

pub ruleset decisions = (numbers_over, text_over, too_long, by_fit)

pub ruleset fits = (number_some, fit_fault, fit_short, fit_fine)
