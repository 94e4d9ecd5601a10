-- Readable style, and the words of demand 3. Assumes nothing.
use Rattle.std.specs.Prelude.{ℕ, ◌+◌, ◌≤◌, ◌≡◌, ◌≢◌, ◌⊎◌, List, Bool, true, false, not, ◌||◌, length, get_or, take, eqb, ltb}
use Rattle.rules.specs.Text.{characters_in, flat, keep}
use Rattle.rules.specs.Sheet.{Row, Table, column_at, cell_at, no_row, all_rows}
use Rattle.rules.specs.Field.{got}
use Rattle.rules.specs.Format.{sheet}
use Rattle.rules.specs.Style.{top_border, header_lines, header_rule, content_lines, row_rule, glyph_at, glyph, is_visible}
use Rattle.rules.specs.Wrap.{delimiter_of}
use Rattle.rules.specs.Widths.{visible, contents}
use Rattle.rules.specs.Page.{visible_widths, wrapped, height, area_at}
use Rattle.rules.specs.Calls.{print_page}

-- "A readable style sets all four top characters, junction unlike fill. Both rules are visible and their fills differ. The left of header lines
-- and of content lines differ from the left of both rules. An unset character counts as a space."
pub record Readable (S : List ℕ) : Type 0 where
  pub top_left : glyph_at S top_border ≢ 0
  pub top_fill : glyph_at S (top_border + 1) ≢ 0
  pub top_junction : glyph_at S (top_border + 2) ≢ 0
  pub top_right : glyph_at S (top_border + 3) ≢ 0
  pub top : glyph (glyph_at S (top_border + 2)) ≢ glyph (glyph_at S (top_border + 1))
  pub header_rule_shown : is_visible S header_rule ≡ true
  pub row_rule_shown : is_visible S row_rule ≡ true
  pub fills : glyph (glyph_at S (header_rule + 1)) ≢ glyph (glyph_at S (row_rule + 1))
  pub header_header : glyph (glyph_at S header_lines) ≢ glyph (glyph_at S header_rule)
  pub header_row : glyph (glyph_at S header_lines) ≢ glyph (glyph_at S row_rule)
  pub content_header : glyph (glyph_at S content_lines) ≢ glyph (glyph_at S header_rule)
  pub content_row : glyph (glyph_at S content_lines) ≢ glyph (glyph_at S row_rule)

-- "a sheet is accepted when no number from the input applies to it"; t is the table that it holds
pub record Accepted (s : List ℕ) (t : Table) : Type 0 where
  pub end : ℕ
  pub reads : sheet s ≡ got t end

-- "what a call to print the page wrote": the first written bytes of the buffer b afterwards
abbrev pub wrote : List ℕ → List ℕ → List ℕ
wrote s b = take (print_page s b).answer.written (print_page s b).buffer

-- "when it answered number 0, whatever room it had"
abbrev pub Answered : List ℕ → List ℕ → Type 0
Answered s b = (print_page s b).answer.number ≡ 0

-- "the header is a row, the first"
abbrev pub row_at : Table → ℕ → Row
row_at t i = get_or (all_rows t) i no_row

-- column c counted among the visible ones; "a place is a row and a column counted among the visible ones"
abbrev pub column_of : Table → ℕ → ℕ
column_of t c = get_or (visible t) c 0

-- the visible widths, from left to right
abbrev pub widths_of : Table → List ℕ
widths_of t = visible_widths t (contents t)

-- "a row has as many lines as its visible cell with the most, after wrapping and cutting"
abbrev pub lines_of : Table → ℕ → ℕ
lines_of t i = height t (contents t) (row_at t i)

-- "a cell area is what the rules put into one line of a row for one visible column": line k of row i, visible column c
abbrev pub area_of : Table → ℕ → ℕ → ℕ → List ℕ
area_of t i k c = area_at t (contents t) (row_at t i) k (column_of t c)

-- "a cell is uncut if its row has no height limit, or if it wraps to no more lines than that limit"
abbrev pub Uncut : Table → ℕ → ℕ → Type 0
Uncut t i c = ((row_at t i).limit ≡ 0) ⊎ (length (wrapped t (contents t) (row_at t i) (column_of t c)) ≤ (row_at t i).limit)

-- "a cell's characters are those of its lines in the sheet, before wrapping, one line after another"; a missing cell holds none
abbrev pub characters : Table → ℕ → ℕ → List ℕ
characters t i c = characters_in (flat (cell_at (row_at t i) (column_of t c)).lines)

-- ch is the delimiter that the rules choose for the cell; "a missing cell has none to leave out"
abbrev pub is_delimiter : Table → ℕ → ℕ → ℕ → Bool
is_delimiter t i c ch =
    elim (ltb (column_of t c) (length (row_at t i).cells)) [
      | true ↦ eqb ch (delimiter_of t (column_at t (column_of t c)) (cell_at (row_at t i) (column_of t c)))
      | false ↦ false
    ]

-- a space, or a delimiter of one of the two cells at a place
abbrev pub left_out : Table → Table → ℕ → ℕ → ℕ → Bool
left_out t u i c ch = eqb ch 32 || is_delimiter t i c ch || is_delimiter u i c ch

-- what stays of some characters once spaces and both cells' delimiters are left out
abbrev pub letters : Table → Table → ℕ → ℕ → List ℕ → List ℕ
letters t u i c l = keep (λ ch. not (left_out t u i c ch)) l
