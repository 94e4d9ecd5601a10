-- What a page is drawn from. Assumes nothing.
use Rattle.std.specs.Prelude.{ℕ, ◌-◌, ◌≤◌, ◌≡◌, ◌⊎◌, List, true, length, drop}
use Rattle.std.specs.Bool.{then_some}
use Rattle.rules.specs.Text.{All}
use Rattle.rules.specs.Limits.{RowLimits, PlainTable}
use Rattle.rules.specs.Style.{top_border, header_lines, header_rule, content_lines, row_rule, bottom_border, any_junction, is_visible}
use Rattle.rules.specs.Widths.{contents}
use Rattle.table.specs.Held.{IsAccepted, table_of}
use Rattle.table.specs.Walk.{rows_in, rows_end}
use Rattle.table.specs.declared.records.Rows.{Rows}
use Rattle.row.specs.Open.{Rising, UsableAll}
use Rattle.borders.specs.Rule.{NarrowAll, rule_style_of}
use Rattle.row.specs.View.{Views}
use Rattle.formatting.specs.Stand.{text_style_of}
use Rattle.display_info.specs.declared.LineStyles.{LineStyles}
use Rattle.display_info.specs.declared.DisplayInfo.{DisplayInfo}
use Rattle.display_info.specs.Lengths.{LengthsAre}

-- the content widths of a sheet's table
abbrev pub widths_in : List ℕ → List ℕ
widths_in s = contents (table_of s)

-- the styles of a page's lines, by the 22 style characters
unfoldable pub styles_of : List ℕ → LineStyles
styles_of S = record {
  top = then_some (is_visible S top_border) (rule_style_of S true top_border);
  header = record {
    lines = text_style_of S header_lines;
    rule = then_some (is_visible S header_rule) (rule_style_of S (any_junction S) header_rule);
  };
  body = record {
    lines = text_style_of S content_lines;
    rule = then_some (is_visible S row_rule) (rule_style_of S (any_junction S) row_rule);
  };
  bottom = then_some (is_visible S bottom_border) (rule_style_of S true bottom_border);
}

-- rows of the sheet, within it and within the limits: those of the header or of the body, all but the first few. That is truncated, so that a ghost
-- field may say it; `among_of` of proofs/Among.antt gives which of the two it is
pub record RowsAt (s : List ℕ) (c : Rows) : Type 0 where
  pub ends : rows_end s c ≤ length s
  pub sound : All (RowLimits (length (table_of s).columns)) (rows_in s c)
  pub among : ∥ (rows_in s c ≡ drop (length (table_of s).header - c.left) (table_of s).header)
      ⊎ (rows_in s c ≡ drop (length (table_of s).rows - c.left) (table_of s).rows) ∥₁

-- a page over some rows is drawn from the sheet's columns, style and header
pub record Opened (s : List ℕ) (p : DisplayInfo) : Type 0 where
  pub passes : IsAccepted s
  pub views : Views (table_of s) (widths_in s) p.columns.items
  pub rising : Rising p.columns.items
  pub usable : UsableAll p.columns.items
  pub plain : p.plain ≡ true → PlainTable (table_of s)
  pub narrow : NarrowAll p.columns.items
  pub styles : p.styles ≡ styles_of (table_of s).style
  pub lengths : LengthsAre s p.lengths
  pub header : rows_in s p.header ≡ (table_of s).header
  pub header_at : RowsAt s p.header
  pub header_one : p.header.left ≤ 1
  pub rows_at : RowsAt s p.rows
  pub rows_few : p.rows.left ≤ 100
