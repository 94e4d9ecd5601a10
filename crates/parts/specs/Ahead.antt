-- The parts of a page, and the lines that a cursor has before it. Assumes nothing.
use Rattle.std.specs.Prelude.{ℕ, ◌+◌, ◌-◌, ◌≤◌, ◌<◌, ◌≡◌, List, [], ◌∷◌, ◌++◌, Bool, true, false, length, drop}
use Rattle.rules.specs.Sheet.{Row}
use Rattle.rules.specs.Style.{top_border, header_lines, header_rule, content_lines, row_rule, bottom_border}
use Rattle.rules.specs.Page.{visible_widths, row_text, shown, headed, ruled_rows, framed}
use Rattle.table.specs.Held.{table_of}
use Rattle.table.specs.Walk.{rows_in}
use Rattle.table.specs.declared.records.Rows.{Rows}
use Rattle.display_info.specs.Opened.{widths_in, RowsAt}
use Rattle.display_info.specs.declared.DisplayInfo.{DisplayInfo}
use Rattle.parts.specs.declared.cursor.Cursor.{Cursor}
use Rattle.parts.specs.declared.cursor.Stage.{Stage}
use Rattle.parts.specs.declared.cursor.Stage.TheVariants.{Top, Header, Body, Bottom, End}

-- a border or a rule of the sheet, where it is visible
unfoldable pub rule_lines : List ℕ → Bool → ℕ → List (List ℕ)
rule_lines s always k = shown (table_of s).style always k (visible_widths (table_of s) (widths_in s))

-- the text lines of a row
abbrev pub text_lines : List ℕ → ℕ → Row → List (List ℕ)
text_lines s k r = row_text (table_of s) (widths_in s) k r

-- the first of some rows, with the rule after it if another row follows
unfoldable pub first_ruled : (Row → List (List ℕ)) → List (List ℕ) → List Row → List (List ℕ)
first_ruled text rule [] = []
first_ruled text rule (r ∷ []) = text r
first_ruled text rule (r ∷ q ∷ rs) = text r ++ rule

-- the header with its rule, and rows with rules between them
unfoldable pub header_lines_of : List ℕ → List Row → List (List ℕ)
header_lines_of s rs = headed (text_lines s header_lines) (rule_lines s false header_rule) rs

unfoldable pub row_lines_of : List ℕ → List Row → List (List ℕ)
row_lines_of s rs = ruled_rows (text_lines s content_lines) (rule_lines s false row_rule) rs

unfoldable pub body_lines : List ℕ → List Row → List (List ℕ)
body_lines s rs = first_ruled (text_lines s content_lines) (rule_lines s false row_rule) rs

-- the lines of the part that comes next
abbrev pub part_by : List ℕ → DisplayInfo → Rows → Stage → List (List ℕ)
part_by s p here Top = rule_lines s true top_border
part_by s p here Header = header_lines_of s (rows_in s p.header)
part_by s p here Body = body_lines s (rows_in s here)
part_by s p here Bottom = rule_lines s true bottom_border
part_by s p here End = []

unfoldable pub part_lines : List ℕ → DisplayInfo → Cursor → List (List ℕ)
part_lines s p c = part_by s p c.here c.stage

-- the lines after that part
abbrev pub rest_by : List ℕ → DisplayInfo → Rows → Stage → List (List ℕ)
rest_by s p here Top = header_lines_of s (rows_in s p.header) ++ (row_lines_of s (rows_in s here) ++ rule_lines s true bottom_border)
rest_by s p here Header = row_lines_of s (rows_in s here) ++ rule_lines s true bottom_border
rest_by s p here Body = row_lines_of s (drop 1 (rows_in s here)) ++ rule_lines s true bottom_border
rest_by s p here Bottom = []
rest_by s p here End = []

unfoldable pub rest_lines : List ℕ → DisplayInfo → Cursor → List (List ℕ)
rest_lines s p c = rest_by s p c.here c.stage

-- the lines that a cursor has before it
unfoldable pub ahead : List ℕ → DisplayInfo → Cursor → List (List ℕ)
ahead s p c = drop c.line (part_lines s p c) ++ rest_lines s p c

-- all lines of a page over some rows
unfoldable pub lines_of : List ℕ → DisplayInfo → List (List ℕ)
lines_of s p = framed (table_of s) (widths_in s) (rows_in s p.rows)

-- no part comes next
abbrev pub is_end : Stage → Bool
is_end Top = false
is_end Header = false
is_end Body = false
is_end Bottom = false
is_end End = true

abbrev pub first_cursor : Rows → Cursor
first_cursor rows = record { stage = Top; here = rows; line = 0 }

-- n lines further in the same part
abbrev pub further_on : Cursor → ℕ → Cursor
further_on c n = record { stage = c.stage; here = c.here; line = c.line + n }

-- what holds of a cursor: its rows are the sheet's, and its line is none after the part's last
pub record At (s : List ℕ) (p : DisplayInfo) (c : Cursor) : Type 0 where
  pub rows : RowsAt s c.here
  pub within : c.line ≤ length (part_lines s p c) - 1

-- how many parts may still come
abbrev pub steps_by : ℕ → Stage → ℕ
steps_by n Top = 4 + n
steps_by n Header = 3 + n
steps_by n Body = 2 + n
steps_by n Bottom = 1 + n
steps_by n End = 0

abbrev pub steps_of : Cursor → ℕ
steps_of c = steps_by c.here.left c.stage

-- r stands before what comes after the part that c stands before
pub record Next (s : List ℕ) (c r : Cursor) : Type 0 where
  pub lines : (p : DisplayInfo) → ahead s p r ≡ rest_lines s p c
  pub at : (p : DisplayInfo) → At s p r
  pub start : r.line ≡ 0
  pub fewer : is_end c.stage ≡ false → steps_of r < steps_of c

-- the same after a row
pub record AfterRow (s : List ℕ) (here : Rows) (r : Cursor) : Type 0 where
  pub lines : (p : DisplayInfo) → ahead s p r ≡ row_lines_of s (drop 1 (rows_in s here)) ++ rule_lines s true bottom_border
  pub at : RowsAt s r.here
  pub start : r.line ≡ 0
  pub fewer : steps_of r < 2 + here.left
