-- The laws that the check's own search tries. Assumes nothing.
pub use Rattle.editor.proofs.Taking.{number_none, number_value, number_next}
pub use Rattle.editor.proofs.Entering.{noted_none, noted_kept, noted_first, fault_none, fault_some, byte_put, stamped-past, entered_there, word_size}
pub use Rattle.editor.proofs.Fields.{byte_steps, word_steps, zeros_steps, count_steps, byte_lacking, word_lacking, zeros_lacking, count_lacking, unused_next, unused_first, count_high, count_more, count_fine}
pub use Rattle.editor.proofs.Texts.{text_steps, text_short, passed_begin, passed_again, passed_all, judged_begin, judged_again, judged_bad, judged_all, printable_judged, of_indicator, of_style, of_line}

pub ruleset walks = (number_none, number_value, number_next, noted_none, noted_kept, noted_first, fault_none, fault_some, byte_put, stamped-past, entered_there, word_size)

pub ruleset numbers = (byte_steps, word_steps, zeros_steps, count_steps, byte_lacking, word_lacking, zeros_lacking, count_lacking, unused_next, unused_first, count_high, count_more, count_fine)

pub ruleset texts = (
  entered_there,
  text_steps,
  stamped-past,
  text_short,
  passed_begin,
  passed_again,
  passed_all,
  judged_begin,
  judged_again,
  judged_bad,
  judged_all,
  printable_judged,
  of_indicator,
  of_style,
  of_line,
)
