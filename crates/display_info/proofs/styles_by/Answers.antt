use Rattle.display_info.specs.Opened.{styles_of}
use Rattle.display_info.proofs.styles_by.Goals as goal

pub returns : goal.returns
unfolding styles_of
returns c =
    rw (
      c.then_some.ensures,
      c.then_some-2.ensures,
      c.then_some-3.ensures,
      c.then_some-4.ensures,
      c.has_header_separator.ensures,
      c.has_row_separator.ensures,
      c.has_top_border.ensures,
      c.has_bottom_border.ensures,
      c.rule_style-top.ensures,
      c.text_style-header_lines.ensures,
      c.rule_style-header_rule.ensures,
      c.text_style-content_lines.ensures,
      c.rule_style-row_rule.ensures,
      c.rule_style-bottom.ensures,
      c.requires.1.1.0,
      c.requires.0,
    )
