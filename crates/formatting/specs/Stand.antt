-- What is pending for a row, against the document's rules for it. Assumes nothing.
use Rattle.std.specs.Prelude.{ℕ, zero, suc, ◌+◌, ◌<◌, ◌≡◌, List, Bool, true, false, length, eqb, ltb}
use Rattle.std.specs.Bool.{then_some}
use Rattle.rules.specs.Sheet.{Row, Table, column_at, cell_at, most_columns}
use Rattle.rules.specs.Style.{glyph_at, glyph, any_left, any_right, any_junction}
use Rattle.rules.specs.Wrap.{delimiter_of}
use Rattle.rules.specs.Page.{alignment_of, wrapped}
use Rattle.row.specs.Alignment.{of_code}
use Rattle.row.specs.Pending.{pending_at, Stands}
use Rattle.row.specs.View.{View, visible_at, number_of}
use Rattle.row.specs.declared.VisibleColumn.{VisibleColumn}
use Rattle.row.specs.declared.Pending.{Pending}
use Rattle.buffer.specs.declared.Edges.{Edges}

-- line j of a row's cell of visible column i is pending
pub record StandsCell (s : List ℕ) (t : Table) (ws : List ℕ) (r : Row) (v : VisibleColumn) (i j : ℕ) (st : Pending) : Type 0 where
  pub stands : Stands s v (wrapped t ws r (number_of t i)) j st
  pub delimiter : st.delimiter ≡ delimiter_of t (column_at t (number_of t i)) (cell_at r (number_of t i))
  pub alignment : st.alignment ≡ of_code (alignment_of (column_at t (number_of t i)) (cell_at r (number_of t i)))

pub record StandsRow (s : List ℕ) (t : Table) (ws : List ℕ) (r : Row) (view : View) (j : ℕ) (ts : List Pending) : Type 0 where
  pub size : length ts ≡ most_columns
  pub each : (i : ℕ) → i < length view → StandsCell s t ws r (visible_at view i) i j (pending_at ts i)

-- line j is within a row's limit, 0 being none; it is the last one
abbrev pub in_limit : ℕ → ℕ → Bool
in_limit zero j = true
in_limit (suc h) j = ltb j (suc h)

abbrev pub last_of : ℕ → ℕ → Bool
last_of zero j = false
last_of (suc h) j = eqb (j + 1) (suc h)

-- the characters of text lines, whose three begin at k
unfoldable pub text_style_of : List ℕ → ℕ → Edges
text_style_of S k = record {
  left = then_some (any_left S) (glyph (glyph_at S k));
  junction = then_some (any_junction S) (glyph (glyph_at S (k + 1)));
  right = then_some (any_right S) (glyph (glyph_at S (k + 2)));
}
