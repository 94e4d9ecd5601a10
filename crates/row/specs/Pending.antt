-- A cell's pending line, and those that follow it. Assumes nothing.
use Rattle.std.specs.Prelude.{ℕ, zero, suc, ◌≤◌, ◌<◌, ◌≡◌, List, [], ◌∷◌, Bool, true, false, ◌||◌, length, get_or, drop}
use Rattle.rules.specs.Text.{text_width}
use Rattle.rules.specs.Limits.{Printable}
use Rattle.table.specs.Walk.{lines_end, first_line}
use Rattle.cells.specs.Cell.{Inside, rest, text_of}
use Rattle.row.specs.declared.CellAlignment.TheVariants.{Left}
use Rattle.row.specs.declared.VisibleColumn.{VisibleColumn}
use Rattle.row.specs.declared.Pending.{Pending}

-- what a list has past its end
abbrev pub no_pending : Pending
no_pending = record {
  line = record {
    found = false;
    start = 0;
    end = 0;
    columns = 0;
    cursor = record { lines = record { at = 0; left = 0 }; from = 0; plain = false };
  };
  delimiter = 0;
  alignment = Left;
}

abbrev pub pending_at : List Pending → ℕ → Pending
pending_at ts i = get_or ts i no_pending

-- the text of a pending line
abbrev pub pending_text : List ℕ → Pending → List ℕ
pending_text s t = text_of s t.line.cursor t.line.start t.line.end

-- the line is a part of a cell line in the sheet, and fits the column
pub record InSheet (s : List ℕ) (w : ℕ) (t : Pending) : Type 0 where
  pub ends : lines_end s t.line.cursor.lines ≤ length s
  pub order : t.line.start ≤ t.line.end
  pub within : t.line.end ≤ length (first_line s t.line.cursor.lines)
  pub columns : t.line.columns ≡ text_width (pending_text s t)
  pub fits : text_width (pending_text s t) ≤ w

-- the lines that follow the pending one
abbrev pub following : List ℕ → ℕ → Pending → List (List ℕ)
following s w t = rest s w t.delimiter t.line.cursor

-- the column has a width, and its cell stands in the sheet
pub record Ready (s : List ℕ) (v : VisibleColumn) (t : Pending) : Type 0 where
  pub wide : 0 < v.width
  pub delimiter : Printable t.delimiter
  pub line : InSheet s v.width t
  pub inside : Inside s t.line.cursor

-- the pending line, if there is one, and those that follow it
unfoldable pub remaining : List ℕ → ℕ → Pending → List (List ℕ)
remaining s w t = elim t.line.found [ true ↦ pending_text s t ∷ following s w t | false ↦ [] ]

-- line j of the lines ls of a cell is pending
pub record Stands (s : List ℕ) (v : VisibleColumn) (ls : List (List ℕ)) (j : ℕ) (t : Pending) : Type 0 where
  pub lines : remaining s v.width t ≡ drop j ls
  pub none : t.line.found ≡ false → (following s v.width t ≡ []) × (pending_text s t ≡ [])
  pub ready : Ready s v t

-- a line stands ready in one of the first n columns
unfoldable pub any_found : List Pending → ℕ → Bool
any_found ts zero = false
any_found ts (suc n) = any_found ts n || (pending_at ts n).line.found
