-- A row and a part of a page, by the styles that it is drawn with. Assumes nothing.
use Rattle.std.specs.Prelude.{ℕ, ◌+◌, ◌≡◌, List}
use Rattle.table.specs.Walk.{rows_in}
use Rattle.table.specs.declared.records.Rows.{Rows}
use Rattle.formatting.specs.declared.content_format.DrawableRow.{DrawableRow}
use Rattle.display_info.specs.Opened.{RowsAt}
use Rattle.display_info.specs.declared.DisplayInfo.{DisplayInfo}
use Rattle.parts.specs.Ahead.{part_lines}
use Rattle.parts.specs.Band.{rule_by, SizedRule, band_lines, SizedBand}
use Rattle.parts.specs.declared.cursor.Cursor.{Cursor}
use Rattle.parts.specs.declared.part.PagePart.{PagePart}
use Rattle.parts.specs.declared.part.PagePart.TheVariants.{Border, Band}

-- the first of some rows, drawn from what the page is
pub record RowOf (s : List ℕ) (p : DisplayInfo) (here : Rows) (r : DrawableRow) : Type 0 where
  pub sheet : r.sheet.now ≡ s
  pub columns : r.columns.now ≡ p.columns.items
  pub rows : r.here ≡ here
  pub plain : r.plain ≡ p.plain

-- its lines
abbrev pub lines_in : List ℕ → DisplayInfo → PagePart → List (List ℕ)
lines_in s p (Border y) = rule_by p.columns.items y
lines_in s p (Band y here) = band_lines s p.columns.items y (rows_in s here)

-- what is known of it: a border is as long as the page's borders are, and a band's rows are the sheet's
abbrev pub PartKnown : List ℕ → DisplayInfo → PagePart → Type 0
PartKnown s p (Border y) = SizedRule p.columns.items y (p.lengths.border + 1)
PartKnown s p (Band y here) = RowsAt s here × SizedBand s p.columns.items y (rows_in s here) p.plain (p.lengths.line + 1)

-- the part that a cursor stands before
pub record PartAt (s : List ℕ) (p : DisplayInfo) (c : Cursor) (r : PagePart) : Type 0 where
  pub known : PartKnown s p r
  pub lines : lines_in s p r ≡ part_lines s p c
