-- What a section comes to, as the code reads it, and what becomes of a refusal: the check's own search tries these laws. Assumes nothing.
pub use Rattle.laws.proofs.Reading.{read_from_off, after_off}
pub use Rattle.sheet.proofs.Sections.{constraint_off, constraint_steps, cells_steps, head_steps, body_steps, counted_steps, style_steps, byte_here}
pub use Rattle.sheet.proofs.Sections.{cell_after, column_after, row_after, width_used, width_unused, after_inside}
pub use Rattle.sheet.proofs.Sections.{reading_long, reading_short, ended_more, ended_all, counted_stopped, style_stopped, cells_stopped, cells_off}
pub use Rattle.sheet.proofs.Fields.{only_ended, only_bad, only_good, optional_steps, word_ended, word_whole, word_there, word_stopped, word_high, word_good}
pub use Rattle.sheet.proofs.Fields.{zeros_stopped, zeros_good, zeros_high, zeros_low, count_stopped, count_few, count_over}
pub use Rattle.sheet.proofs.Cases.{is_character, first_there}
pub use Rattle.sheet.proofs.Pairs.{bytes_at, text_steps, line_steps}
pub use Rattle.sheet.proofs.Loops.{printables_none, printables_more, printables_part}
pub use Rattle.sheet.proofs.Pairs.{passed_none, passed_on, bad_here, bad_none, one_ended, one_bad, one_first, pair_cut, pair_wrong, pair_good}

pub ruleset sections = (
  read_from_off,
  after_off,
  constraint_off,
  constraint_steps,
  cells_steps,
  head_steps,
  body_steps,
  counted_steps,
  style_steps,
  byte_here,
  cell_after,
  column_after,
  row_after,
  width_used,
  width_unused,
  after_inside,
  is_character,
  first_there,
  counted_stopped,
  style_stopped,
  cells_stopped,
  cells_off,
  reading_long,
  reading_short,
  ended_more,
  ended_all,
  bytes_at,
  text_steps,
  line_steps,
)

pub ruleset texts = (
  printables_none,
  printables_more,
  printables_part,
  passed_none,
  passed_on,
  bad_here,
  bad_none,
  one_ended,
  one_bad,
  one_first,
  pair_cut,
  pair_wrong,
  pair_good,
)

pub ruleset fields = (
  only_ended,
  only_bad,
  only_good,
  optional_steps,
  word_ended,
  word_whole,
  word_there,
  word_stopped,
  word_high,
  word_good,
  zeros_stopped,
  zeros_good,
  zeros_high,
  zeros_low,
  count_stopped,
  count_few,
  count_over,
)
