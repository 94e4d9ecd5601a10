-- The writer on examples: the desk's sheet from the editor's slices, each number that can come, and what is distinct though it prints alike. Assumes nothing.
use Rattle.std.specs.Prelude.{ℕ, ◌≡◌, refl, List, [], ◌∷◌, ◌++◌, length, get_or, take, replicate}
use Rattle.std.proofs.Common.{ap, arith}
use Rattle.rules.specs.Opened.{rules}
use Rattle.rules.specs.Quote.{ascii}
use Rattle.rules.specs.Sheet.{Column, Row, Table, no_width, no_column}
use Rattle.rules.specs.Format.{table, written}
use Rattle.rules.specs.Steps.{At, Refused}
use Rattle.rules.specs.Calls.{Written, not_printed}
use Rattle.rules.specs.Editor.{number_at, bytes_at, text_taken, several_taken, takes, numbers_of, text_of}
use Rattle.rules.specs.Writer.{thence, passes, in_turn, characters_judged, judges, judged, save_of, save, save_taken, write_sheet}
use Rattle.rules.specs.Examples.{grid, bare, house, house_table, row_of, sign, setpoint}

-- the desk's sheet as the editor's slices
abbrev pub plain_numbers : List ℕ
plain_numbers = 1 ∷ 1 ∷ replicate 7 0

abbrev pub house_numbers : List ℕ
house_numbers = (1 ∷ 1 ∷ 20 ∷ 0 ∷ 0 ∷ 22 ∷ 2 ∷ []) ++ (plain_numbers ++ (plain_numbers ++ (0 ∷ 1 ∷ 0 ∷ 2 ∷ 0 ∷ 0 ∷ 1 ∷ 2 ∷ 0 ∷ 0 ∷ 1 ∷ 15 ∷ [])))

abbrev pub house_text : List ℕ
house_text = grid ++ (ascii "ab" ++ ascii "the quick brown")

-- the desk's table with another edition, arrangement and target; with an indicator and a style; with columns; with rows
abbrev begun : ℕ → ℕ → ℕ → Table
begun e a w = record { edition = e; arrangement = a; target = w; delimiter = 0; indicator = []; style = bare; columns = []; header = []; rows = [] }

abbrev marked : List ℕ → List ℕ → Table
marked i s = record { edition = 1; arrangement = 0; target = 0; delimiter = 0; indicator = i; style = s; columns = []; header = []; rows = [] }

abbrev columned : List Column → List Row → List Row → Table
columned cs h rs = record { edition = 1; arrangement = 0; target = 0; delimiter = 0; indicator = []; style = bare; columns = cs; header = h; rows = rs }

abbrev no_cells : ℕ → Row
no_cells h = record { limit = h; cells = [] }

abbrev celled : ℕ → ℕ → List (List ℕ) → Row
celled d a ls = record { limit = 0; cells = record { delimiter = d; alignment = a; lines = ls } ∷ [] }

-- a column with a constraint and two widths
abbrev bounded : ℕ → ℕ → ℕ → ℕ → ℕ → Column
bounded k u v x w = record {
  left = 0;
  right = 0;
  delimiter = 0;
  alignment = 0;
  constraint = k;
  first = record { unit = u; value = v };
  second = record { unit = x; value = w };
}

-- bytes of a table over a buffer
abbrev saved : ℕ → List ℕ → Written
saved n b = record { answer = record { number = 0; place = 0; written = n }; buffer = b }

pub record Saved : Type 0 where
  pub numbers : numbers_of table house_table ≡ house_numbers
  pub text : text_of table house_table ≡ house_text
  pub whole : write_sheet house_numbers house_text (replicate 83 7) ≡ saved 81 (house ++ (7 ∷ 7 ∷ []))
  pub exact : write_sheet house_numbers house_text (replicate 81 7) ≡ saved 81 house
  pub short : write_sheet house_numbers house_text (replicate 80 7) ≡ not_printed 22 81 (replicate 80 7)
  pub no_buffer : write_sheet house_numbers house_text [] ≡ not_printed 22 81 []

-- slices that contradict themselves
pub record Contradicting : Type 0 where
  pub nothing : (b : List ℕ) → write_sheet [] [] b ≡ not_printed 1 0 b
  pub number_missing : (b : List ℕ) → write_sheet (take 36 house_numbers) house_text b ≡ not_printed 1 36 b
  pub text_missing : (b : List ℕ) → write_sheet house_numbers (take 38 house_text) b ≡ not_printed 1 37 b
  pub style_missing : (b : List ℕ) → write_sheet house_numbers [] b ≡ not_printed 1 6 b
  pub number_left : (b : List ℕ) → write_sheet (house_numbers ++ (0 ∷ [])) house_text b ≡ not_printed 9 37 b
  pub text_left : (b : List ℕ) → write_sheet house_numbers (house_text ++ (97 ∷ [])) b ≡ not_printed 9 37 b
  pub missing_first : (b : List ℕ) → write_sheet (1 ∷ 1 ∷ 20 ∷ 0 ∷ 1 ∷ 7 ∷ []) [] b ≡ not_printed 1 5 b
  pub before_fields : (b : List ℕ) → write_sheet (2 ∷ []) [] b ≡ not_printed 1 1 b

-- the reader's numbers, each at the place that the field would have had
pub record Faults : Type 0 where
  pub edition : judged (begun 2 9 0) ≡ Refused 3 0
  pub edition_257 : judged (begun 257 0 0) ≡ Refused 3 0
  pub arrangement : judged (begun 1 3 401) ≡ Refused 4 1
  pub target : judged (begun 1 2 401) ≡ Refused 5 2
  pub target_400 : judged (begun 1 2 400) ≡ At 32
  pub indicator : judged (marked (replicate 9 46) bare) ≡ Refused 5 5
  pub indicator_sign : judged (marked (46 ∷ sign) bare) ≡ Refused 6 7
  pub style_21 : judged (marked [] (replicate 21 0)) ≡ Refused 5 6
  pub style_character : judged (marked (46 ∷ 46 ∷ []) (0 ∷ 127 ∷ replicate 20 0)) ≡ Refused 6 10
  pub padding : judged (columned (record { left = 0; right = 21; delimiter = 0; alignment = 0; constraint = 0; first = no_width; second = no_width } ∷ []) [] []) ≡ Refused 5 31
  pub unit : judged (columned (bounded 3 2 0 0 0 ∷ []) [] []) ≡ Refused 4 35
  pub fixed : judged (columned (bounded 3 0 401 0 0 ∷ []) [] []) ≡ Refused 5 36
  pub percent : judged (columned (bounded 3 1 65535 0 0 ∷ []) [] []) ≡ At 43
  pub unused_unit : judged (columned (bounded 2 1 0 0 0 ∷ []) [] []) ≡ Refused 8 35
  pub unused_low : judged (columned (bounded 2 0 257 0 0 ∷ []) [] []) ≡ Refused 8 36
  pub unused_high : judged (columned (bounded 2 0 256 0 0 ∷ []) [] []) ≡ Refused 8 37
  pub second_high : judged (columned (bounded 5 0 9 0 512 ∷ []) [] []) ≡ Refused 8 40
  pub two_headers : judged (columned [] (no_cells 0 ∷ no_cells 0 ∷ []) []) ≡ Refused 5 30
  pub limit_256 : judged (columned [] [] (no_cells 256 ∷ [])) ≡ Refused 5 32
  pub more_cells : judged (columned [] [] (row_of [] ∷ [])) ≡ Refused 7 33
  pub no_line : judged (columned (no_column ∷ []) [] (celled 0 0 [] ∷ [])) ≡ Refused 5 47
  pub alignment : judged (columned (no_column ∷ []) [] (celled 0 4 ([] ∷ []) ∷ [])) ≡ Refused 4 46
  pub bell : judged (columned (no_column ∷ []) [] (celled 0 0 ((65 ∷ 7 ∷ []) ∷ []) ∷ [])) ≡ Refused 6 50
  pub half_pair : judged (columned (no_column ∷ []) [] (celled 0 0 ((194 ∷ []) ∷ (176 ∷ []) ∷ []) ∷ [])) ≡ Refused 6 49
  pub other_half : judged (columned (no_column ∷ []) [] (celled 0 0 (sign ∷ (176 ∷ []) ∷ []) ∷ [])) ≡ Refused 6 52
  pub needs_32768 : judged (marked (replicate 32736 46) bare) ≡ Refused 5 5
  pub needs_32769 : judged (marked (replicate 32737 46) bare) ≡ Refused 2 32768
  pub degrees : judged (columned (no_column ∷ []) [] (celled 0 0 (setpoint ∷ []) ∷ [])) ≡ At 56

-- distinct though they print alike
pub record Alike : Type 0 where
  pub delimiter : written (columned (no_column ∷ []) [] (celled 32 0 ([] ∷ []) ∷ [])) ≡ written (columned (no_column ∷ []) [] (celled 0 0 ([] ∷ []) ∷ [])) → ⊥
  pub header : written (columned [] (no_cells 0 ∷ []) []) ≡ written (columned [] [] []) → ⊥
  pub alignment : written (columned (no_column ∷ []) [] (celled 0 1 ([] ∷ []) ∷ [])) ≡ written (columned (no_column ∷ []) [] (celled 0 0 ([] ∷ []) ∷ [])) → ⊥

unfoldable writing : Unit {0}
unfolding rules number_at bytes_at text_taken several_taken takes numbers_of text_of thence passes in_turn characters_judged judges judged save_of save save_taken write_sheet
writing = tt

pub saved-examples : Saved
unfolding writing
saved-examples = record { numbers = refl; text = refl; whole = refl; exact = refl; short = refl; no_buffer = refl }

pub contradicting : Contradicting
unfolding writing
contradicting = record {
  nothing = λ b. refl;
  number_missing = λ b. refl;
  text_missing = λ b. refl;
  style_missing = λ b. refl;
  number_left = λ b. refl;
  text_left = λ b. refl;
  missing_first = λ b. refl;
  before_fields = λ b. refl;
}

pub faults : Faults
unfolding writing
faults = record {
  edition = refl;
  edition_257 = refl;
  arrangement = refl;
  target = refl;
  target_400 = refl;
  indicator = refl;
  indicator_sign = refl;
  style_21 = refl;
  style_character = refl;
  padding = refl;
  unit = refl;
  fixed = refl;
  percent = refl;
  unused_unit = refl;
  unused_low = refl;
  unused_high = refl;
  second_high = refl;
  two_headers = refl;
  limit_256 = refl;
  more_cells = refl;
  no_line = refl;
  alignment = refl;
  bell = refl;
  half_pair = refl;
  other_half = refl;
  needs_32768 = refl;
  needs_32769 = refl;
  degrees = refl;
}

pub alike : Alike
unfolding writing
alike = record {
  delimiter = λ e. absurd (omega (arith, ap (λ l. get_or l 45 0) e));
  header = λ e. absurd (omega (arith, ap length e));
  alignment = λ e. absurd (omega (arith, ap (λ l. get_or l 46 0) e));
}
