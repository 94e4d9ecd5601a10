-- What document 02's order 4 asks to be proved of the writer. Assumes nothing.
use Rattle.std.specs.Prelude.{ℕ, ◌≤◌, ◌<◌, ◌≡◌, ◌≢◌, List, length}
use Rattle.rules.specs.Text.{All}
use Rattle.rules.specs.Sheet.{Table}
use Rattle.rules.specs.Field.{got, refused}
use Rattle.rules.specs.Format.{table, sheet, written}
use Rattle.rules.specs.Steps.{At, Refused}
use Rattle.rules.specs.Limits.{IsByte}
use Rattle.rules.specs.Editor.{numbers_of, text_of}
use Rattle.rules.specs.Writer.{judged, save, write_sheet}

-- some sheet describes the table
pub record Described (t : Table) : Type 0 where
  pub from : List ℕ
  pub bytes : All IsByte from
  pub end : ℕ
  pub reads : sheet from ≡ got t end

-- the writer doesn't refuse the table
pub record InOrder (t : Table) : Type 0 where
  pub end : ℕ
  pub fine : judged t ≡ At end

pub record Saving : Type 0 where
  -- "reading what it wrote gives that table", to its last byte; and what it wrote are bytes, at most 32,768
  pub reads : (t : Table) → InOrder t → sheet (written t) ≡ got t (length (written t))
  pub bytes : (t : Table) → InOrder t → All IsByte (written t)
  pub short : (t : Table) → InOrder t → length (written t) ≤ 32768
  -- "writing what was read from an accepted sheet gives those bytes"
  pub writes : (s : List ℕ) → All IsByte s → (t : Table) (p : ℕ) → sheet s ≡ got t p → InOrder t × (written t ≡ s)
  -- so the tables that it doesn't refuse are just those that some sheet describes
  pub in_order : (t : Table) → InOrder t → Described t
  pub described : (t : Table) → Described t → InOrder t
  -- "the reader's number, with the place that the field would have had": what the reader says of the fields as they would stand, whatever their values are
  pub refuses : (t : Table) (n p : ℕ) → judged t ≡ Refused n p → sheet (written t) ≡ refused n p
  -- no other number can come than 2, and 3 to 8 at a place in the sheet that there would have been
  pub numbers : (t : Table) (n p : ℕ) → judged t ≡ Refused n p → (2 ≤ n) × (n ≤ 8)
  pub places : (t : Table) (n p : ℕ) → judged t ≡ Refused n p → n ≢ 2 → (p < length (written t)) × (length (written t) ≤ 32768)
  -- the editor can say every table, also one that no sheet describes
  pub said : (t : Table) (b : List ℕ) → write_sheet (numbers_of table t) (text_of table t) b ≡ save t b
  -- "after any refusal the sheet buffer keeps its bytes"
  pub kept : (ns ts b : List ℕ) → (write_sheet ns ts b).answer.number ≢ 0 → ((write_sheet ns ts b).buffer ≡ b) × ((write_sheet ns ts b).answer.written ≡ 0)
