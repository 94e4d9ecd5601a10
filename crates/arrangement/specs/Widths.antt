-- What the arrangement answers, and how a layout is made of a sheet. Assumes nothing.
use Rattle.std.specs.Prelude.{ℕ, ◌+◌, List, map, Bool, false, length}
use Rattle.rules.specs.Sheet.{Table, column_at, is_hidden}
use Rattle.rules.specs.Style.{glyph_at, top_border, header_lines, header_rule, content_lines, row_rule, bottom_border}
use Rattle.rules.specs.Calls.{as_array}
use Rattle.rules.specs.Widths.{contents, numbers}
use Rattle.style.specs.declared.table_style.LineStyle.{LineStyle}
use Rattle.style.specs.declared.table_style.ContentLineStyle.{ContentLineStyle}
use Rattle.style.specs.declared.table_style.TableStyle.{TableStyle}
use Rattle.constraint.specs.declared.Layout.{Layout}
use Rattle.constraint.specs.Widths.{column, by_column}
use Rattle.arrangement.specs.declared.Widths.{Widths}
use Rattle.arrangement.specs.declared.dynamic.Course.{Course}

-- a border or a rule, and a text line, whose characters begin at k
abbrev pub line_from : List ℕ → ℕ → LineStyle
line_from S k = record { left = glyph_at S k; fill = glyph_at S (k + 1); junction = glyph_at S (k + 2); right = glyph_at S (k + 3) }

abbrev pub content_from : List ℕ → ℕ → ContentLineStyle
content_from S k = record { left = glyph_at S k; junction = glyph_at S (k + 1); right = glyph_at S (k + 2) }

-- the style record of the sheet's 22 characters
abbrev pub style_from : List ℕ → TableStyle
style_from S = record {
  top_border = line_from S top_border;
  header_lines = content_from S header_lines;
  header_separator = line_from S header_rule;
  content_lines = content_from S content_lines;
  row_separator = line_from S row_rule;
  bottom_border = line_from S bottom_border;
}

-- which of the columns are hidden
abbrev pub marked : Layout → List Bool
marked l = by_column l false (λ i. is_hidden (column l i))

-- once the widths are arranged
abbrev pub widths_from : Layout → Course → Widths
widths_from l c = record { count = length l.columns.items; content = c.state.widths; hidden = marked l }

-- each column's content width and whether it is hidden; 0 and not hidden past the columns
unfoldable pub arranged_widths : Table → Widths
arranged_widths t = record { count = length t.columns; content = as_array 0 (contents t); hidden = as_array false (map (λ j. is_hidden (column_at t j)) (numbers t)) }
