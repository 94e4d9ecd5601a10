-- The document's examples marked P, and its sheet, as one table and one result. Assumes nothing.
use Rattle.std.specs.Prelude.{ℕ, ◌≡◌, refl, List, [], ◌∷◌, ◌++◌, map, true, false, length, replicate}
use Rattle.std.proofs.Math.Option.{none, some}
use Rattle.rules.specs.Opened.{rules}
use Rattle.rules.specs.Quote.{ascii}
use Rattle.rules.specs.Sheet.{Column, Row, Table, no_width, no_column}
use Rattle.rules.specs.Text.{text_width, flat}
use Rattle.rules.specs.Field.{Read, got, refused, printable}
use Rattle.rules.specs.Description.{text, reads}
use Rattle.rules.specs.Format.{line, sheet, written}
use Rattle.rules.specs.Wrap.{wrap_line, cut_line}
use Rattle.rules.specs.Widths.{longest, borders, width_of, split_at_average, share, contents}
use Rattle.rules.specs.CellLines.{in_column, lines_of_cells, cell_lines, longest_of}
use Rattle.rules.specs.Style.{row_rule}
use Rattle.rules.specs.Page.{area, ruled, page}
use Rattle.rules.specs.Words.{Readable, widths_of, lines_of, area_of, characters, letters}
use Rattle.rules.specs.Calls.{count, print_page, print_line, not_printed}

-- the house grid, the bare style, and the document's sheet of 81 bytes
abbrev pub grid : List ℕ
grid = ascii "+-++|||+=++|||+-+++-++"

abbrev pub bare : List ℕ
bare = replicate 22 0

-- a column with paddings of 1 and nothing else set
abbrev pub plain_bytes : List ℕ
plain_bytes = 1 ∷ 1 ∷ replicate 9 0

abbrev house_head : List ℕ
house_head = (1 ∷ 1 ∷ 20 ∷ 0 ∷ 0 ∷ 0 ∷ 22 ∷ []) ++ (grid ++ (2 ∷ plain_bytes ++ plain_bytes))

abbrev pub house : List ℕ
house = house_head ++ ((0 ∷ 1 ∷ 0 ∷ 2 ∷ 0 ∷ 0 ∷ 1 ∷ 2 ∷ []) ++ (ascii "ab" ++ ((0 ∷ 0 ∷ 1 ∷ 15 ∷ []) ++ ascii "the quick brown")))

-- no style, no header, no rows
abbrev pub empty : List ℕ
empty = (1 ∷ 0 ∷ 0 ∷ 0 ∷ 0 ∷ 0 ∷ 22 ∷ []) ++ (bare ++ (0 ∷ 0 ∷ 0 ∷ []))

-- a row of one cell of one line, without limit
abbrev pub row_of : List ℕ → Row
row_of l = record { limit = 0; cells = record { delimiter = 0; alignment = 0; lines = l ∷ [] } ∷ [] }

-- one column, and a row of one cell
abbrev pub single : ℕ → ℕ → Column → List ℕ → Table
single arrangement target c l = record {
  edition = 1;
  arrangement = arrangement;
  target = target;
  delimiter = 0;
  indicator = [];
  style = bare;
  columns = c ∷ [];
  header = [];
  rows = row_of l ∷ [];
}

-- equal paddings, a constraint and its fixed width
abbrev pub held : ℕ → ℕ → ℕ → Column
held pad k w = record { left = pad; right = pad; delimiter = 0; alignment = 0; constraint = k; first = record { unit = 0; value = w }; second = no_width }

-- two columns in the house grid, whose borders are 3, at a target of 21
abbrev pub wide : Table
wide = record { edition = 1; arrangement = 1; target = 21; delimiter = 0; indicator = []; style = grid; columns = no_column ∷ no_column ∷ []; header = []; rows = [] }

-- two columns without padding, the second without a cell, at a target of 10
abbrev pub lone : Table
lone = record {
  edition = 1;
  arrangement = 1;
  target = 10;
  delimiter = 0;
  indicator = [];
  style = bare;
  columns = no_column ∷ no_column ∷ [];
  header = [];
  rows = row_of (ascii "abcdefghijklmnop") ∷ [];
}

pub record Examples : Type 0 where
  pub quick : wrap_line 6 32 (ascii "the quick brown") ≡ ascii "the" ∷ ascii "quick" ∷ ascii "brown" ∷ []
  pub long_word : wrap_line 6 32 (ascii "a abcdefgh") ≡ ascii "a abcd" ∷ ascii "efgh" ∷ []
  pub short_words : wrap_line 4 32 (ascii "abc d e") ≡ ascii "abc" ∷ ascii "d e" ∷ []
  pub spaces : wrap_line 3 32 (ascii "     ") ≡ []
  pub hello : cut_line 5 (ascii "...") (ascii "hello") ≡ ascii "he..."
  pub he : cut_line 5 (ascii "...") (ascii "he") ≡ ascii "he..."
  pub no_indicator : cut_line 2 (ascii "...") (ascii "he") ≡ ascii "he"
  pub eleven_by_three : map (share 11 3) (0 ∷ 1 ∷ 2 ∷ []) ≡ 4 ∷ 4 ∷ 3 ∷ []
  pub part_of_9 : split_at_average (single 1 11 no_column (ascii "aaaaaaaaa bbbbbbbbb")) 0 11 ≡ none
  pub part_of_8 : split_at_average (single 1 11 no_column (ascii "aaaaaaaa bbbbbbbb")) 0 11 ≡ some 8
  pub disabled_5 : contents (single 0 0 (held 1 5 5) (ascii "abcde")) ≡ 5 ∷ []
  pub disabled_6 : contents (single 0 0 (held 1 5 5) (ascii "abcdef")) ≡ 3 ∷ []
  pub absolute_3 : contents (single 1 0 (held 2 3 3) (ascii "abcde")) ≡ 1 ∷ []
  pub three_borders : borders wide ≡ 3
  pub percent_50 : width_of wide (record { unit = 1; value = 50 }) ≡ some 9
  pub percent_150 : width_of wide (record { unit = 1; value = 150 }) ≡ some 18
  pub empty_page : count empty ≡ record { number = 0; place = 0; lines = 0; bytes = 0 }
  pub empty_line : (b : List ℕ) → print_line empty 0 b ≡ not_printed 21 0 b
  pub house_bytes : length house ≡ 81
  pub house_page : print_page house (replicate 90 7)
      ≡ record {
        answer = record { number = 0; place = 0; written = 84 };
        buffer = ascii "+----+-------------+\n| ab | the quick   |\n|    | brown       |\n+----+-------------+\n" ++ replicate 6 7;
      }

-- what the document's sheet holds, and demand 3's words for it
abbrev pub plain : Column
plain = record { left = 1; right = 1; delimiter = 0; alignment = 0; constraint = 0; first = no_width; second = no_width }

abbrev pub house_table : Table
house_table = record {
  edition = 1;
  arrangement = 1;
  target = 20;
  delimiter = 0;
  indicator = [];
  style = grid;
  columns = plain ∷ plain ∷ [];
  header = [];
  rows = record {
    limit = 0;
    cells = record { delimiter = 0; alignment = 0; lines = ascii "ab" ∷ [] } ∷ record { delimiter = 0; alignment = 0; lines = ascii "the quick brown" ∷ [] } ∷ [];
  } ∷ [];
}

pub record House : Type 0 where
  pub reads : sheet house ≡ got house_table 81
  pub bytes : written house_table ≡ house
  pub widths : widths_of house_table ≡ 4 ∷ 13 ∷ []
  pub lines : lines_of house_table 0 ≡ 2
  pub second_area : area_of house_table 0 1 1 ≡ ascii " brown       "
  pub blank_area : area_of house_table 0 1 0 ≡ ascii "    "
  pub text : characters house_table 0 1 ≡ ascii "the quick brown"
  pub letters_left : letters house_table house_table 0 1 (characters house_table 0 1) ≡ ascii "thequickbrown"

-- the document's plausible slips, each with an example that shows it
pub record Slips : Type 0 where
  pub charge_of_0 : contents lone ≡ 10 ∷ 1 ∷ []
  pub padding_not_counted : contents (single 0 0 (held 2 5 7) (ascii "abcdef")) ≡ 6 ∷ []
  pub exact_width : wrap_line 3 32 (ascii "   ") ≡ ascii "   " ∷ []
  pub top_junction : ruled (0 ∷ 45 ∷ replicate 20 0) true 0 (2 ∷ 3 ∷ []) ≡ ascii "-- ---"

-- more inputs, one for each wrong definition that document 01's examples let pass
pub record Guards : Type 0 where
  pub centred : area no_column 5 3 (ascii "ab") ≡ ascii "  ab "
  pub third_line : area_of (single 1 0 (held 0 3 6) (ascii "the quick brown")) 0 2 0 ≡ ascii "brown "
  pub row_rule_shown : ruled grid false row_rule (2 ∷ []) ≡ ascii "+--+"
  pub long_piece : wrap_line 72 32 (ascii "a " ++ (replicate 66 98 ++ ascii " ccccc")) ≡ (ascii "a " ++ replicate 66 98) ∷ ascii "ccccc" ∷ []
  pub one_fill : Readable (ascii "+-++|||+-++|||+-+++-++") → ⊥

-- "Managers type 21.5°C": seven bytes, six characters; its first five; the degree sign
abbrev pub sign : List ℕ
sign = 194 ∷ 176 ∷ []

abbrev pub setpoint : List ℕ
setpoint = ascii "21.5" ++ (sign ++ ascii "C")

abbrev pub setpoint_sign : List ℕ
setpoint_sign = ascii "21.5" ++ sign

-- what is read of a line at place 0: its length byte, and the bytes that the sheet has after it
abbrev pub line_read : ℕ → List ℕ → Read (List ℕ)
line_read n l = reads line (n ∷ l) 0

-- measured, wrapped and cut at 1 to 6 columns, aligned, printed, read back
pub record Degrees : Type 0 where
  pub width : text_width setpoint ≡ 6
  pub bytes : length setpoint ≡ 7
  pub wrapped_6 : wrap_line 6 32 setpoint ≡ setpoint ∷ []
  pub wrapped_5 : wrap_line 5 32 setpoint ≡ setpoint_sign ∷ ascii "C" ∷ []
  pub wrapped_4 : wrap_line 4 32 setpoint ≡ ascii "21.5" ∷ (sign ++ ascii "C") ∷ []
  pub wrapped_3 : wrap_line 3 32 setpoint ≡ ascii "21." ∷ (ascii "5" ++ (sign ++ ascii "C")) ∷ []
  pub wrapped_2 : wrap_line 2 32 setpoint ≡ ascii "21" ∷ ascii ".5" ∷ (sign ++ ascii "C") ∷ []
  pub wrapped_1 : wrap_line 1 32 setpoint ≡ ascii "2" ∷ ascii "1" ∷ ascii "." ∷ ascii "5" ∷ sign ∷ ascii "C" ∷ []
  pub wrapped_words : wrap_line 7 32 (setpoint ++ ascii " " ++ setpoint) ≡ setpoint ∷ setpoint ∷ []
  pub cut_6 : cut_line 6 (ascii ".") setpoint ≡ setpoint_sign ++ ascii "."
  pub cut_5 : cut_line 5 (ascii ".") setpoint ≡ ascii "21.5."
  pub cut_4 : cut_line 4 (ascii ".") setpoint ≡ ascii "21.."
  pub cut_3 : cut_line 3 (ascii ".") setpoint ≡ ascii "21."
  pub cut_2 : cut_line 2 (ascii ".") setpoint ≡ ascii "2."
  pub cut_1 : cut_line 1 (ascii ".") setpoint ≡ ascii "."
  pub unmarked_5 : cut_line 5 (ascii "......") setpoint ≡ setpoint_sign
  pub right : area no_column 8 2 setpoint ≡ ascii "  " ++ setpoint
  pub centred : area no_column 9 3 setpoint ≡ ascii "  " ++ (setpoint ++ ascii " ")
  pub content : contents (single 0 0 no_column setpoint) ≡ 6 ∷ []
  pub hundred : contents (single 0 0 no_column (flat (replicate 100 sign))) ≡ 100 ∷ []
  pub printed : page (single 0 0 (held 1 0 0) setpoint) ≡ ascii " " ++ (setpoint ++ ascii " \n")
  pub text : characters (single 0 0 no_column setpoint) 0 0 ≡ ascii "21.5" ++ (194 ∷ ascii "C")
  pub letters_left : letters (single 0 0 no_column setpoint) (single 0 0 no_column setpoint) 0 0 (ascii "2 " ++ (194 ∷ ascii " C")) ≡ ascii "2" ++ (194 ∷ ascii "C")

-- what a line with C2 or B0 in it is read as, or refused for: the length byte stands at place 0
pub record Pairs : Type 0 where
  pub whole : line_read 7 setpoint ≡ got setpoint 8
  pub hundred : line_read 200 (flat (replicate 100 sign)) ≡ got (flat (replicate 100 sign)) 201
  pub ends_in_pair : line_read 3 (97 ∷ 194 ∷ []) ≡ refused 1 3
  pub ends_at_first : line_read 2 (194 ∷ []) ≡ refused 1 2
  pub last_byte : line_read 2 (97 ∷ 194 ∷ []) ≡ refused 6 2
  pub last_alone : line_read 1 (194 ∷ []) ≡ refused 6 1
  pub next_length : line_read 1 (194 ∷ 176 ∷ []) ≡ refused 6 1
  pub other_byte : line_read 2 (194 ∷ 32 ∷ []) ≡ refused 6 1
  pub second_alone : line_read 2 (97 ∷ 176 ∷ []) ≡ refused 6 2
  pub two_firsts : line_read 3 (194 ∷ 194 ∷ 176 ∷ []) ≡ refused 6 1
  pub two_seconds : line_read 3 (194 ∷ 176 ∷ 176 ∷ []) ≡ refused 6 3
  pub indicator : reads (text 0 8 printable) (2 ∷ 194 ∷ 176 ∷ []) 0 ≡ refused 6 1

-- a table whose second column is hidden and whose third has no cell: a header, a row without cells, and a row with an empty line
abbrev pub rooms : Table
rooms = record {
  edition = 1;
  arrangement = 0;
  target = 0;
  delimiter = 0;
  indicator = [];
  style = bare;
  columns = no_column ∷ held 0 1 0 ∷ no_column ∷ [];
  header = row_of (ascii "set") ∷ [];
  rows = record { limit = 0; cells = [] } ∷ record {
    limit = 0;
    cells = record { delimiter = 0; alignment = 0; lines = setpoint ∷ ascii "on" ∷ [] } ∷ record { delimiter = 0; alignment = 0; lines = [] ∷ [] } ∷ [];
  } ∷ [];
}

-- "each cell line of header and rows is taken exactly once", in the sheet's order, and the lengths are in characters: an empty line's is 1
pub record Lines : Type 0 where
  pub house : cell_lines house_table ≡ in_column 0 (ascii "ab") ∷ in_column 1 (ascii "the quick brown") ∷ []
  pub all_lines : cell_lines rooms ≡ in_column 0 (ascii "set") ∷ in_column 0 setpoint ∷ in_column 0 (ascii "on") ∷ in_column 1 [] ∷ []
  pub no_cell : cell_lines wide ≡ []
  pub found : map (λ j. longest_of j (cell_lines rooms)) (0 ∷ 1 ∷ 2 ∷ []) ≡ 6 ∷ 1 ∷ 0 ∷ []
  pub longests : map (longest rooms) (0 ∷ 1 ∷ 2 ∷ []) ≡ 6 ∷ 1 ∷ 0 ∷ []

pub examples : Examples
unfolding rules
examples = record {
  quick = refl;
  long_word = refl;
  short_words = refl;
  spaces = refl;
  hello = refl;
  he = refl;
  no_indicator = refl;
  eleven_by_three = refl;
  part_of_9 = refl;
  part_of_8 = refl;
  disabled_5 = refl;
  disabled_6 = refl;
  absolute_3 = refl;
  three_borders = refl;
  percent_50 = refl;
  percent_150 = refl;
  empty_page = refl;
  empty_line = λ b. refl;
  house_bytes = refl;
  house_page = refl;
}

pub slips : Slips
unfolding rules
slips = record {
  charge_of_0 = refl;
  padding_not_counted = refl;
  exact_width = refl;
  top_junction = refl;
}

pub guards : Guards
unfolding rules
guards = record { centred = refl; third_line = refl; row_rule_shown = refl; long_piece = refl; one_fill = λ r. r.fills refl }

pub house_words : House
unfolding rules
house_words = record {
  reads = refl;
  bytes = refl;
  widths = refl;
  lines = refl;
  second_area = refl;
  blank_area = refl;
  text = refl;
  letters_left = refl;
}

pub degrees : Degrees
unfolding rules
degrees = record {
  width = refl;
  bytes = refl;
  wrapped_6 = refl;
  wrapped_5 = refl;
  wrapped_4 = refl;
  wrapped_3 = refl;
  wrapped_2 = refl;
  wrapped_1 = refl;
  wrapped_words = refl;
  cut_6 = refl;
  cut_5 = refl;
  cut_4 = refl;
  cut_3 = refl;
  cut_2 = refl;
  cut_1 = refl;
  unmarked_5 = refl;
  right = refl;
  centred = refl;
  content = refl;
  hundred = refl;
  printed = refl;
  text = refl;
  letters_left = refl;
}

pub pairs : Pairs
unfolding rules
pairs = record {
  whole = refl;
  hundred = refl;
  ends_in_pair = refl;
  ends_at_first = refl;
  last_byte = refl;
  last_alone = refl;
  next_length = refl;
  other_byte = refl;
  second_alone = refl;
  two_firsts = refl;
  two_seconds = refl;
  indicator = refl;
}

pub lines : Lines
unfolding rules cell_lines lines_of_cells longest_of
lines = record { house = refl; all_lines = refl; no_cell = refl; found = refl; longests = refl }
