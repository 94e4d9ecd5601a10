-- Demand 3, as a statement over the calls. Its proof is laws/proofs/Readable.antt's. Assumes nothing.
use Rattle.std.specs.Prelude.{ℕ, ◌<◌, ◌≡◌, ◌↔◌, List, length, get_or}
use Rattle.rules.specs.Text.{characters_in}
use Rattle.rules.specs.Sheet.{Table, all_rows}
use Rattle.rules.specs.Widths.{visible}
use Rattle.rules.specs.Words.{Readable, Accepted, wrote, Answered, widths_of, lines_of, area_of, Uncut, characters, letters}

-- "for every two accepted sheets with one readable style, each with a visible column and no row without a line"
pub record Comparable (s v : List ℕ) (t u : Table) : Type 0 where
  pub first_accepted : Accepted s t
  pub second_accepted : Accepted v u
  pub one_style : t.style ≡ u.style
  pub readable : Readable t.style
  pub first_column : 0 < length (visible t)
  pub second_column : 0 < length (visible u)
  pub first_lines : (i : ℕ) → i < length (all_rows t) → 0 < lines_of t i
  pub second_lines : (i : ℕ) → i < length (all_rows u) → 0 < lines_of u i

-- "both or neither have a header and the two agree in visible widths, the number of rows, lines in each row, and the characters of each cell area"
pub record Agree (t u : Table) : Type 0 where
  pub header : length t.header ≡ length u.header
  pub widths : widths_of t ≡ widths_of u
  pub rows : length (all_rows t) ≡ length (all_rows u)
  pub lines : (i : ℕ) → i < length (all_rows t) → lines_of t i ≡ lines_of u i
  pub areas : (i k c : ℕ) → i < length (all_rows t) → k < lines_of t i → c < length (visible t)
      → characters_in (area_of t i k c) ≡ characters_in (area_of u i k c)

-- "the two sheets' cells at any one place, if both are uncut, hold the same characters in the same order, once spaces and both cells' delimiters are left out"
abbrev pub SameText : Table → Table → Type 0
SameText t u =
    (i c : ℕ) → i < length (all_rows t) → c < length (visible t) → Uncut t i c → Uncut u i c
    → letters t u i c (characters t i c) ≡ letters t u i c (characters u i c)

-- two sheets s and v and two buffers b and d, whatever their room: pages are equal, byte for byte, exactly when the sheets agree, and then their cells hold the same text
pub record Demand3 : Type 0 where
  -- an area holds as many characters as its column's visible width
  pub filled : (s : List ℕ) (t : Table) → Accepted s t → (i k c : ℕ) → i < length (all_rows t) → k < lines_of t i → c < length (visible t)
      → length (characters_in (area_of t i k c)) ≡ get_or (widths_of t) c 0
  pub pages : (s v : List ℕ) (t u : Table) → Comparable s v t u → (b d : List ℕ) → Answered s b → Answered v d → (wrote s b ≡ wrote v d) ↔ Agree t u
  pub texts : (s v : List ℕ) (t u : Table) → Comparable s v t u → (b d : List ℕ) → Answered s b → Answered v d → wrote s b ≡ wrote v d → SameText t u
