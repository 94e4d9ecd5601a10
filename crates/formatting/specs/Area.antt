-- One column's part of a text line, by the line that is pending for it. Assumes nothing.
use Rattle.std.specs.Prelude.{ℕ, ◌+◌, ◌-◌, ◌≤◌, ◌≡◌, List, ◌++◌, Bool, true, false, cond, ◌&&◌, length, leb, ltb}
use Rattle.std.proofs.Math.Seq.{slice}
use Rattle.rules.specs.Text.{text_width, first_of, blank}
use Rattle.rules.specs.Wrap.{cut_line}
use Rattle.rules.specs.Page.{before}
use Rattle.cells.specs.Cell.{FirstOf}
use Rattle.cells.specs.declared.Next.{Next}
use Rattle.row.specs.Alignment.{code_of}
use Rattle.row.specs.declared.CellAlignment.{CellAlignment}
use Rattle.row.specs.declared.VisibleColumn.{VisibleColumn}
use Rattle.row.specs.declared.Pending.{Pending}
use Rattle.row.specs.Pending.{pending_text, following}
use Rattle.formatting.specs.declared.content_format.Shown.{Shown}

-- a text in a column, aligned, paddings included
unfoldable pub area_in : VisibleColumn → CellAlignment → List ℕ → List ℕ
area_in v a l =
    blank (v.left + before (code_of a) (v.width - text_width l))
    ++ (l ++ blank ((v.width - text_width l - before (code_of a) (v.width - text_width l)) + v.right))

-- the indicator's bytes that are shown: none where it is wider than the content
abbrev pub marks_shown : Bool → ℕ → ℕ → ℕ
marks_shown cut n w = cond (cut && leb n w) n 0

-- a line that lies in a text and knows its columns
pub record LineIn (t : List ℕ) (l : Next) : Type 0 where
  pub order : l.start ≤ l.end
  pub within : l.end ≤ length t
  pub columns : l.columns ≡ text_width (slice l.start l.end t)

-- the first w columns of a line that lies in a text
pub record ShownIs (t : List ℕ) (l : Next) (w : ℕ) (r : Shown) : Type 0 where
  pub order : l.start ≤ r.end
  pub within : r.end ≤ l.end
  pub text : slice l.start r.end t ≡ first_of w (slice l.start l.end t)
  pub columns : r.columns ≡ text_width (slice l.start r.end t)

-- a cell's line, cut or whole
unfoldable pub shown_text : List ℕ → ℕ → List ℕ → Bool → Pending → List ℕ
shown_text s w ind true t = cut_line w ind (pending_text s t)
shown_text s w ind false t = pending_text s t

-- the next line of the same cell
pub record After (s : List ℕ) (w : ℕ) (t r : Pending) : Type 0 where
  pub line : FirstOf s w t.delimiter t.line.cursor.plain (following s w t) r.line
  pub delimiter : r.delimiter ≡ t.delimiter
  pub alignment : r.alignment ≡ t.alignment

-- a column's area in a line; the last line that the limit leaves is cut if another follows
unfoldable pub column_piece : List ℕ → VisibleColumn → Pending → List ℕ → Bool → List ℕ
column_piece s v t ind last = area_in v t.alignment (shown_text s v.width ind (last && ltb 0 (length (following s v.width t))) t)
