-- The family of small sheets, as document 02's order 2 describes a sheet of it. Assumes nothing.
use Rattle.std.specs.Prelude.{ℕ, ◌≤◌, ◌≡◌, ◌⊎◌, List, [], length}
use Rattle.rules.specs.Text.{All}
use Rattle.rules.specs.Sheet.{Cell, Row, Table}
use Rattle.rules.specs.declared.Column.{Column}
use Rattle.rules.specs.Limits.{IsByte}
use Rattle.rules.specs.Words.{Accepted}

-- "texts use only the space and the letter a"
abbrev pub Letter : ℕ → Type 0
Letter b = (b ≡ 32) ⊎ (b ≡ 97)

-- "length 0 to 4"
pub record SmallText (x : List ℕ) : Type 0 where
  pub length : length x ≤ 4
  pub letters : All Letter x

-- "padding 0, every .. delimiter, alignment and constraint 0"
pub record SmallColumn (c : Column) : Type 0 where
  pub left : c.left ≡ 0
  pub right : c.right ≡ 0
  pub delimiter : c.delimiter ≡ 0
  pub alignment : c.alignment ≡ 0
  pub constraint : c.constraint ≡ 0

-- "one line per cell"
pub record SmallCell (x : Cell) : Type 0 where
  pub delimiter : x.delimiter ≡ 0
  pub alignment : x.alignment ≡ 0
  pub one_line : length x.lines ≡ 1
  pub texts : All SmallText x.lines

-- a row "without limit, a cell for each column"
pub record SmallRow (columns : ℕ) (r : Row) : Type 0 where
  pub limit : r.limit ≡ 0
  pub cells : length r.cells ≡ columns
  pub each : All SmallCell r.cells

-- the document's sentence, in its order; arrangement and target where it gives the order of the sheets
pub record Small (t : Table) : Type 0 where
  pub edition : t.edition ≡ 1
  pub columns : (length t.columns ≡ 1) ⊎ (length t.columns ≡ 2)
  pub each_column : All SmallColumn t.columns
  pub style : All (λ b. b ≡ 0) t.style
  pub delimiter : t.delimiter ≡ 0
  pub indicator : t.indicator ≡ []
  pub header : t.header ≡ []
  pub one_row : length t.rows ≡ 1
  pub rows : All (SmallRow (length t.columns)) t.rows
  pub arrangement : t.arrangement ≤ 2
  pub target : t.target ≤ 10

-- an accepted sheet of the family: its bytes, and the table that they hold
pub record InFamily (s : List ℕ) : Type 0 where
  pub table : Table
  pub bytes : All IsByte s
  pub accepted : Accepted s table
  pub small : Small table
