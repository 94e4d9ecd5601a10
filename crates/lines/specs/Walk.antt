-- A page's lines counted, sought and written. Assumes nothing.
use Rattle.std.specs.Prelude.{Result, Ok, Err, ℕ, ◌+◌, ◌≤◌, ◌<◌, ◌≡◌, List, [], map, false, length, drop, get_or}
use Rattle.rules.specs.Text.{text_width, greatest}
use Rattle.rules.specs.Limits.{longest_line}
use Rattle.rules.specs.Page.{closed, whole_lines}
use Rattle.rules.specs.Steps.{Refused, refused_as}
use Rattle.rules.specs.declared.Refusal.{Refusal}
use Rattle.buffer.specs.Put.{over}
use Rattle.parts.specs.Ahead.{is_end, At, part_lines, lines_of, ahead}
use Rattle.display_info.specs.declared.DisplayInfo.{DisplayInfo}
use Rattle.parts.specs.declared.cursor.Cursor.{Cursor}
use Rattle.lines.specs.declared.Totals.{Totals}
use Rattle.lines.specs.declared.Sought.{Sought}
use Rattle.lines.specs.declared.Found.{Found}
use Rattle.lines.specs.declared.Unfound.{Unfound}
use Rattle.lines.specs.declared.Written.{Written}

-- the page's lines and bytes
pub record TotalsAre (s : List ℕ) (p : DisplayInfo) (r : Totals) : Type 0 where
  pub lines : r.lines ≡ length (lines_of s p)
  pub bytes : r.bytes ≡ length (closed (lines_of s p))

-- the cursor stands before line `passed`, which is line k, or at the end before it
pub record SoughtIs (s : List ℕ) (p : DisplayInfo) (k : ℕ) (r : Sought) : Type 0 where
  pub lines : ahead s p r.cursor ≡ drop r.passed (lines_of s p)
  pub at : At s p r.cursor
  pub within : r.passed ≤ k
  pub passed : r.passed ≤ length (lines_of s p)
  pub reached : is_end r.cursor.stage ≡ false → r.passed ≡ k
  pub some : is_end r.cursor.stage ≡ false → r.cursor.line < length (part_lines s p r.cursor)

-- no line has more columns, and one has as many; 0 where there is none
pub record LongestIs (s : List ℕ) (p : DisplayInfo) (r : ℕ) : Type 0 where
  pub longest : r ≡ greatest (map text_width (lines_of s p))
  pub small : r ≤ longest_line

-- the bytes of line k, its 0A included
abbrev pub size_of : List ℕ → DisplayInfo → ℕ → ℕ
size_of s p k = length (get_or (lines_of s p) k []) + 1

-- line k, which fits: its bytes, and its cursor
pub record LineFound (s : List ℕ) (p : DisplayInfo) (k room : ℕ) (f : Found) : Type 0 where
  pub there : k < length (lines_of s p)
  pub fits : size_of s p k ≤ room
  pub size : f.size ≡ size_of s p k
  pub lines : ahead s p f.cursor ≡ drop k (lines_of s p)
  pub at : At s p f.cursor

-- 21 and the line count where line k isn't there; else 20 and the bytes needed where they are more than the room
pub data LineRefused (s : List ℕ) (p : DisplayInfo) (k room : ℕ) (r : Refusal) : Type 0 where
  past : length (lines_of s p) ≤ k → refused_as r ≡ Refused 21 (length (lines_of s p)) → LineRefused s p k room r
  short : k < length (lines_of s p) → room < size_of s p k → refused_as r ≡ Refused 20 (size_of s p k) → LineRefused s p k room r

abbrev pub FoundIs : List ℕ → DisplayInfo → ℕ → ℕ → Result Found Unfound → Type 0
FoundIs s p k room (Ok f) = LineFound s p k room f
FoundIs s p k room (Err u) = LineRefused s p k room u.refusal × At s p u.cursor

-- of the lines before the cursor as many as fit are written over b, which is then a; the others come next
pub record WroteIs (s : List ℕ) (p : DisplayInfo) (c : Cursor) (b a : List ℕ) (r : Written) : Type 0 where
  pub lines : r.lines ≡ length (whole_lines (length b) (ahead s p c))
  pub bytes : r.bytes ≡ length (closed (whole_lines (length b) (ahead s p c)))
  pub page : a ≡ over (closed (whole_lines (length b) (ahead s p c))) b
  pub next : ahead s p r.next ≡ drop r.lines (ahead s p c)
  pub at : At s p r.next
  pub left : is_end r.next.stage ≡ false → r.lines < length (ahead s p c)
