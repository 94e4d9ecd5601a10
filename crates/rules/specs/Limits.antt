-- What the table of an accepted sheet satisfies: every limit, every code, printable characters. Assumes nothing.
use Rattle.std.specs.Prelude.{ℕ, ◌*◌, ◌≤◌, ◌<◌, ◌≡◌, ◌⊎◌, List, [], ◌∷◌, Bool, false, length, leb, eqb}
use Rattle.rules.specs.Text.{text_width, All}
use Rattle.rules.specs.Sheet.{Width, Column, Cell, Row, Table, most_columns, all_rows}
use Rattle.rules.specs.Style.{style_characters}

-- no line of a page has more columns: a column takes content of at most 801, paddings of 20 and 20, and a junction
abbrev pub widest_line : ℕ
widest_line = most_columns * 850

-- nor more bytes, its 0A left aside: of a cell's line, at most 200 bytes, no more than 100 are the second ones of pairs
abbrev pub longest_line : ℕ
longest_line = most_columns * 950

-- no page has more lines, by far: a row has at most 8 lines of 200 characters a cell
abbrev pub most_lines : ℕ
most_lines = 1000000

-- what a sheet is made of
abbrev pub IsByte : ℕ → Type 0
IsByte b = b < 256

-- printable ASCII, 20 to 7E hexadecimal
abbrev pub Printable : ℕ → Type 0
Printable c = (32 ≤ c) × (c ≤ 126)

-- a cell's text: printable characters and pairs
pub data IsText : List ℕ → Type 0 where
  nothing : IsText []
  plain : (b : ℕ) (l : List ℕ) → Printable b → IsText l → IsText (b ∷ l)
  degree : (l : List ℕ) → IsText l → IsText (194 ∷ 176 ∷ l)

-- unset, or printable
abbrev pub Optional : ℕ → Type 0
Optional c = (c ≡ 0) ⊎ Printable c

-- a width: fixed is 0 to 400, percent any two-byte value; an unused one is all zero
pub record WidthLimits (used : Bool) (w : Width) : Type 0 where
  pub unit : w.unit ≤ 1
  pub fixed : w.unit ≡ 0 → w.value ≤ 400
  pub percent : w.value ≤ 65535
  pub unused : used ≡ false → (w.unit ≡ 0) × (w.value ≡ 0)

pub record ColumnLimits (c : Column) : Type 0 where
  pub left : c.left ≤ 20
  pub right : c.right ≤ 20
  pub delimiter : Optional c.delimiter
  pub alignment : c.alignment ≤ 3
  pub constraint : c.constraint ≤ 6
  pub first : WidthLimits (leb 3 c.constraint) c.first
  pub second : WidthLimits (eqb c.constraint 6) c.second

pub record LineLimits (l : List ℕ) : Type 0 where
  pub length : length l ≤ 200
  pub characters : IsText l

pub record CellLimits (x : Cell) : Type 0 where
  pub delimiter : Optional x.delimiter
  pub alignment : x.alignment ≤ 3
  pub some_line : 1 ≤ length x.lines
  pub lines : length x.lines ≤ 8
  pub texts : All LineLimits x.lines

pub record RowLimits (columns : ℕ) (r : Row) : Type 0 where
  pub limit : r.limit ≤ 255
  pub cells : length r.cells ≤ columns
  pub each : All CellLimits r.cells

pub record TableLimits (t : Table) : Type 0 where
  pub edition : t.edition ≡ 1
  pub arrangement : t.arrangement ≤ 2
  pub target : t.target ≤ 400
  pub delimiter : Optional t.delimiter
  pub indicator : length t.indicator ≤ 8
  pub indicator_characters : All Printable t.indicator
  pub style : length t.style ≡ style_characters
  pub style_characters_fit : All Optional t.style
  pub columns : length t.columns ≤ most_columns
  pub each_column : All ColumnLimits t.columns
  pub header : length t.header ≤ 1
  pub header_row : All (RowLimits (length t.columns)) t.header
  pub rows : length t.rows ≤ 100
  pub each_row : All (RowLimits (length t.columns)) t.rows

-- a text without a pair has as many columns as bytes; and a table all of whose cell lines are such texts
abbrev pub Plain : List ℕ → Type 0
Plain l = text_width l ≡ length l

abbrev pub PlainCell : Cell → Type 0
PlainCell x = All Plain x.lines

abbrev pub PlainRow : Row → Type 0
PlainRow r = All PlainCell r.cells

abbrev pub PlainTable : Table → Type 0
PlainTable t = All PlainRow (all_rows t)
