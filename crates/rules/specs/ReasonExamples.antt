-- The report on the desk's sheet and on sheets that show each step and each kind of difference, as one table and one result. Assumes nothing.
use Rattle.std.specs.Prelude.{ℕ, ◌≡◌, refl, List, [], ◌∷◌, map, true, false, pos, negsuc, replicate}
use Rattle.rules.specs.Opened.{rules}
use Rattle.rules.specs.Quote.{ascii}
use Rattle.rules.specs.Sheet.{Column, Row, Table, no_width, no_column}
use Rattle.rules.specs.Widths.{contents}
use Rattle.rules.specs.Reasons.{step_numbers, widened_columns, difference, reasons}
use Rattle.rules.specs.Examples.{bare, house, house_table, single, held}

-- a table with another arrangement and target, and with another style
abbrev aimed : ℕ → ℕ → Table → Table
aimed a w t = record { edition = 1; arrangement = a; target = w; delimiter = 0; indicator = []; style = t.style; columns = t.columns; header = t.header; rows = t.rows }

abbrev styled : List ℕ → Table → Table
styled S t = record { edition = 1; arrangement = t.arrangement; target = t.target; delimiter = 0; indicator = []; style = S; columns = t.columns; header = t.header; rows = t.rows }

-- a row of one-line cells
abbrev row_from : List (List ℕ) → Row
row_from ls = record { limit = 0; cells = map (λ l. record { delimiter = 0; alignment = 0; lines = l ∷ [] }) ls }

-- three columns: a lower bound of 12 with a longest of 16, an upper bound of 4 with a longest of 6, two words of 9; no padding, no borders
abbrev three : ℕ → Table
three w = record {
  edition = 1;
  arrangement = 1;
  target = w;
  delimiter = 0;
  indicator = [];
  style = bare;
  columns = held 0 4 12 ∷ held 0 5 4 ∷ no_column ∷ [];
  header = [];
  rows = row_from (ascii "abcdefghijklmnop" ∷ ascii "abcdef" ∷ ascii "aaaaaaaaa bbbbbbbbb" ∷ []) ∷ [];
}

-- `Absolute` by a percent
abbrev percent : ℕ → Column
percent p = record { left = 0; right = 0; delimiter = 0; alignment = 0; constraint = 3; first = record { unit = 1; value = p }; second = no_width }

-- only the top border's fill is set, so that no junction is, but the border has them
abbrev top_only : List ℕ
top_only = 0 ∷ 45 ∷ replicate 20 0

-- one column without rows
abbrev rowless : ℕ → Table
rowless w = record { edition = 1; arrangement = 1; target = w; delimiter = 0; indicator = []; style = bare; columns = no_column ∷ []; header = []; rows = [] }

pub record ReasonExamples : Type 0 where
  -- the desk's sheet: the first column's longest fits the average, the second shares what is left; the lines end on the target
  pub desk : reasons house
      ≡ record {
        number = 0;
        place = 0;
        columns = 2;
        step = 4 ∷ 6 ∷ replicate 10 0;
        widened = replicate 12 false;
        has_difference = true;
        difference = pos 0;
      }
  pub disabled : (step_numbers (aimed 0 20 house_table) ≡ 7 ∷ 7 ∷ []) × (difference (aimed 0 20 house_table) ≡ negsuc 3)
  pub full_25 : (widened_columns (aimed 2 25 house_table) ≡ true ∷ false ∷ []) × (difference (aimed 2 25 house_table) ≡ pos 0)
  pub full_24 : (widened_columns (aimed 2 24 house_table) ≡ false ∷ false ∷ []) × (difference (aimed 2 24 house_table) ≡ pos 0)
  pub dynamic_25 : (step_numbers (aimed 1 25 house_table) ≡ 4 ∷ 4 ∷ []) × (widened_columns (aimed 1 25 house_table) ≡ false ∷ false ∷ []) × (difference (aimed 1 25 house_table) ≡ pos 1)
  pub untargeted : (step_numbers (aimed 1 0 house_table) ≡ 7 ∷ 7 ∷ []) × (difference (aimed 1 0 house_table) ≡ pos 0)
  -- `LowerBoundary` 4 with a longest of 4, and of 5
  pub first_step : step_numbers (single 1 3 (held 0 4 4) (ascii "abcd")) ≡ 1 ∷ []
  pub lower_bound : step_numbers (single 1 3 (held 0 4 4) (ascii "abcde")) ≡ 2 ∷ []
  -- an upper bound equal to the longest, and one above it
  pub upper_bound : step_numbers (single 1 9 (held 0 5 5) (ascii "abcde")) ≡ 3 ∷ []
  pub within_average : step_numbers (single 1 9 (held 0 5 6) (ascii "abcde")) ≡ 4 ∷ []
  pub split_part : step_numbers (single 1 11 no_column (ascii "aaaaaaaa bbbbbbbb")) ≡ 5 ∷ []
  pub even_share : step_numbers (single 1 11 no_column (ascii "aaaaaaaaa bbbbbbbbb")) ≡ 6 ∷ []
  pub untargeted_longest : step_numbers (single 0 0 (held 1 5 5) (ascii "abcde")) ≡ 7 ∷ []
  pub untargeted_upper : step_numbers (single 0 0 (held 1 5 5) (ascii "abcdef")) ≡ 8 ∷ []
  pub percent_without_target : step_numbers (single 1 0 (percent 50) (ascii "abcde")) ≡ 7 ∷ []
  pub percent_with_target : step_numbers (single 1 9 (percent 50) (ascii "abcde")) ≡ 1 ∷ []
  pub three_33 : (step_numbers (three 33) ≡ 2 ∷ 3 ∷ 5 ∷ []) × (contents (three 33) ≡ 12 ∷ 4 ∷ 9 ∷ []) × (difference (three 33) ≡ pos 8)
  pub three_27 : (step_numbers (three 27) ≡ 2 ∷ 3 ∷ 6 ∷ []) × (contents (three 27) ≡ 12 ∷ 4 ∷ 11 ∷ []) × (difference (three 27) ≡ pos 0)
  pub hidden : (step_numbers (single 2 9 (held 0 1 0) (ascii "abcde")) ≡ 0 ∷ []) × (widened_columns (single 2 9 (held 0 1 0) (ascii "abcde")) ≡ false ∷ [])
  -- a column without cells that step 2 fixes; a page without lines
  pub no_cells : (step_numbers (rowless 9) ≡ 4 ∷ []) × (difference (rowless 9) ≡ pos 9)
  -- the top border has a junction that the text lines haven't
  pub border : (difference (styled top_only (aimed 0 20 house_table)) ≡ negsuc 1) × (difference (styled bare (aimed 0 20 house_table)) ≡ negsuc 0)
  pub overrun : difference (single 1 1 (held 0 3 400) (ascii "a")) ≡ negsuc 398
  -- a degree sign is one character of two bytes
  pub degree : difference (single 0 9 no_column (50 ∷ 194 ∷ 176 ∷ [])) ≡ pos 7
  -- a refused sheet
  pub refused : reasons []
      ≡ record {
        number = 1;
        place = 0;
        columns = 0;
        step = replicate 12 0;
        widened = replicate 12 false;
        has_difference = false;
        difference = pos 0;
      }

pub reason-examples : ReasonExamples
unfolding rules
reason-examples = record {
  desk = refl;
  disabled = (refl, refl);
  full_25 = (refl, refl);
  full_24 = (refl, refl);
  dynamic_25 = (refl, refl, refl);
  untargeted = (refl, refl);
  first_step = refl;
  lower_bound = refl;
  upper_bound = refl;
  within_average = refl;
  split_part = refl;
  even_share = refl;
  untargeted_longest = refl;
  untargeted_upper = refl;
  percent_without_target = refl;
  percent_with_target = refl;
  three_33 = (refl, refl, refl);
  three_27 = (refl, refl, refl);
  hidden = (refl, refl);
  no_cells = (refl, refl);
  border = (refl, refl);
  overrun = refl;
  degree = refl;
  refused = refl;
}
