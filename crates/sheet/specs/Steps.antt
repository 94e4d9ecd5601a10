-- Steps of the code that stand for several fields, or for a part of the format that has no name there. Assumes nothing.
use Rattle.std.specs.Prelude.{ℕ, zero, suc, ◌+◌, ◌-◌, ◌<◌, ◌≤◌, ◌≡◌, Bool, true, false, ◌&&◌, List, length, get_or, leb, eqb, Result, Ok, Err, IfOk}
use Rattle.rules.specs.Sheet.{most_columns}
use Rattle.rules.specs.Field.{Reader, byte_at, only, between, printable, printable_or_zero, byte, several}
use Rattle.rules.specs.Description.{Format, code, word_to, optional, counted, text, character, characters}
use Rattle.rules.specs.Format.{width, column, line, cell_by, cell_count, row_by, sheet_by}
use Rattle.rules.specs.Steps.{step_of, refused_as, read_to, byte_of, times, read_from, after}
use Rattle.rules.specs.Steps.{Step, At, Refused}
use Rattle.rules.specs.Field.{Read, got, refused, word_at}
use Rattle.rules.specs.Refusals.{number_of}
use Rattle.rules.specs.declared.Refusal.{Refusal}
use Rattle.sheet.specs.declared.field.Field.{Field}

-- n bytes from i on are all printable
unfoldable pub printables : List ℕ → ℕ → ℕ → Bool
printables s i zero = true
printables s i (suc n) = printables s i n && printable (get_or s (i + n) 0)

-- the first byte from i on that isn't printable, or `end`
pub record BadIs (s : List ℕ) (i end r : ℕ) : Type 0 where
  pub order : i ≤ r
  pub within : r ≤ end
  pub passed : printables s i (r - i) ≡ true
  pub bad : r < end → printable (get_or s r 0) ≡ false

-- a byte from low to high, `number` beyond them
abbrev pub byte_between : ℕ → ℕ → ℕ → Reader ℕ
byte_between low high number = only (between low high) number byte

-- what the code's reading of a field comes to: the place behind it, or the refusal
abbrev pub field_to : Result Field Refusal → Step
field_to (Ok f) = At f.next
field_to (Err r) = refused_as r

-- a field that was read has the value that stands there
abbrev pub ValueIs : List ℕ → ℕ → Result Field Refusal → Type 0
ValueIs s p r = IfOk r (λ f. f.value ≡ byte_at s p)

-- the same of a field of two bytes
abbrev pub word_read : Result (List ℕ) Refusal → ℕ → Read ℕ
word_read (Ok l) p = got (word_at l 0) (p + 2)
word_read (Err r) p = refused (number_of r.reason) r.place

-- what a closure's calls may give: a test of bytes; a step of the reading
abbrev pub Tests : (ℕ → Bool → Type 0) → (ℕ → Bool) → Type 0
Tests gives test = (v : ℕ) (b : Bool) → v < 256 → gives v b → b ≡ test v

pub record Reads (gives : ℕ → Result ℕ Refusal → Type 0) (f : Step → Step) : Type 0 where
  pub at : (p : ℕ) (r : Result ℕ Refusal) → gives p r → read_to r ≡ f (At p)
  pub off : (n p : ℕ) → f (Refused n p) ≡ Refused n p

-- a constraint: its code; the first width is used from 3 on, the second by 6
unfoldable pub constraint_after : List ℕ → Step → Step
constraint_after s x = after (width (eqb (byte_of s x) 6)) s (after (width (leb 3 (byte_of s x))) s (after (code 6) s x))

-- what a line is to a reading that looks for pairs, and to one that doesn't
abbrev pub line_of : Bool → Format (List ℕ)
line_of true = line
line_of false = text 0 200 printable

-- its bytes after their count
abbrev pub line_bytes : Bool → ℕ → Reader (List ℕ)
line_bytes true n = characters n
line_bytes false n = several n (character printable)

-- what is left of them at p, where they end at `end`
unfoldable pub bytes_from : Bool → List ℕ → ℕ → ℕ → Step
bytes_from pairs s end p = read_from (line_bytes pairs (end - p)) s (At p)

-- what the character at p comes to: the refusal of these bytes, or the place where the others begin
abbrev pub CharacterIs : Bool → List ℕ → ℕ → ℕ → Step → Type 0
CharacterIs pairs s end p (At q) = (p < q) × ((q ≤ end) × ((q ≤ length s) × (bytes_from pairs s end p ≡ bytes_from pairs s end q)))
CharacterIs pairs s end p (Refused n q) = Refused n q ≡ bytes_from pairs s end p

-- a row's cells: their count, and each. Here and below, x is what a line is
unfoldable pub cells_after : Format (List ℕ) → ℕ → List ℕ → Step → Step
cells_after x columns s y = times (byte_of s y) (after (cell_by x) s) (after (cell_count columns) s y)

-- the sheet up to its style
unfoldable pub head_after : List ℕ → Step → Step
head_after s x =
    after (text 22 22 printable_or_zero) s (after (text 0 8 printable) s (after optional s
    (after (word_to 400) s (after (code 2) s (read_from (byte_between 1 1 3) s x)))))

-- columns, header and rows, whose cells are held to the column count
unfoldable pub body_after : Format (List ℕ) → List ℕ → Step → Step
body_after x s y =
    after (counted 0 100 (row_by x (byte_of s y))) s (after (counted 0 1 (row_by x (byte_of s y))) s (after (counted 0 most_columns column) s y))

-- one reading of the whole sheet
unfoldable pub reading_of : Bool → List ℕ → Step
reading_of pairs s = step_of (sheet_by (line_of pairs) s)

-- it stopped at a C2, which may begin a pair
unfoldable pub at_first : List ℕ → Step → Bool
at_first s (At p) = false
at_first s (Refused n p) = eqb n 6 && eqb (byte_at s p) 194
