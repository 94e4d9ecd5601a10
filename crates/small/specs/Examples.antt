-- The order of choices and some sheets, computed. Assumes nothing.
use Rattle.std.specs.Prelude.{ℕ, ◌≡◌, refl, List, [], ◌∷◌, ◌++◌, length, get_or, take, replicate}
use Rattle.rules.specs.Sheet.{Cell, Table, no_column}
use Rattle.rules.specs.Opened.{rules}
use Rattle.rules.specs.Quote.{ascii}
use Rattle.rules.specs.Description.{writes}
use Rattle.rules.specs.Format.{written}
use Rattle.small.specs.Family.{Small}
use Rattle.small.specs.Listing.{each, choices, texts, cell_of, table_of, tables_with, tables, no_table}

pub record Examples : Type 0 where
  -- the first choice varies slowest
  pub pairs : choices {A = ℕ} (1 ∷ 2 ∷ []) 2 ≡ (1 ∷ 1 ∷ []) ∷ (1 ∷ 2 ∷ []) ∷ (2 ∷ 1 ∷ []) ∷ (2 ∷ 2 ∷ []) ∷ []
  -- "", " ", "a", "  ", " a", "a ", "aa", ..
  pub first_texts : take 7 texts ≡ [] ∷ ascii " " ∷ ascii "a" ∷ ascii "  " ∷ ascii " a" ∷ ascii "a " ∷ ascii "aa" ∷ []
  pub last_text : get_or texts 30 [] ≡ ascii "aaaa"
  pub all_texts : length texts ≡ 31
  -- the sheet with the fewest bytes, and one with two columns: its fields left to right
  pub first_sheet : written (table_of 0 0 ([] ∷ []))
      ≡ (1 ∷ 0 ∷ 0 ∷ 0 ∷ 0 ∷ 0 ∷ 22 ∷ replicate 22 0) ++ ((1 ∷ replicate 11 0) ++ (0 ∷ 1 ∷ 0 ∷ 1 ∷ 0 ∷ 0 ∷ 1 ∷ 0 ∷ []))
  pub two_columns : written (table_of 2 10 (ascii "a " ∷ ascii "aaaa" ∷ []))
      ≡ (1 ∷ 2 ∷ 10 ∷ 0 ∷ 0 ∷ 0 ∷ 22 ∷ replicate 22 0)
      ++ ((2 ∷ replicate 22 0) ++ ((0 ∷ 1 ∷ 0 ∷ 2 ∷ 0 ∷ 0 ∷ 1 ∷ 2 ∷ 97 ∷ 32 ∷ []) ++ (0 ∷ 0 ∷ 1 ∷ 4 ∷ ascii "aaaa")))

pub examples : Examples
unfolding rules writes written each choices texts table_of
examples = record {
  pairs = refl;
  first_texts = refl;
  last_text = refl;
  all_texts = refl;
  first_sheet = refl;
  two_columns = refl;
}

-- one column, then two; each arrangement, each target, each first text, each second text
pub record Order : Type 0 where
  pub sheet_0 : get_or tables 0 no_table ≡ table_of 0 0 ([] ∷ [])
  pub sheet_30 : get_or tables 30 no_table ≡ table_of 0 0 (ascii "aaaa" ∷ [])
  pub sheet_31 : get_or tables 31 no_table ≡ table_of 0 1 ([] ∷ [])
  pub sheet_341 : get_or tables 341 no_table ≡ table_of 1 0 ([] ∷ [])
  pub sheet_1022 : get_or tables 1022 no_table ≡ table_of 2 10 (ascii "aaaa" ∷ [])
  pub sheet_1023 : get_or tables 1023 no_table ≡ table_of 0 0 ([] ∷ [] ∷ [])
  pub sheet_1024 : get_or tables 1024 no_table ≡ table_of 0 0 ([] ∷ ascii " " ∷ [])
  pub sheet_1054 : get_or tables 1054 no_table ≡ table_of 0 0 (ascii " " ∷ [] ∷ [])

pub order : Order
unfolding rules each choices texts table_of tables_with tables
order = record {
  sheet_0 = refl;
  sheet_30 = refl;
  sheet_31 = refl;
  sheet_341 = refl;
  sheet_1022 = refl;
  sheet_1023 = refl;
  sheet_1024 = refl;
  sheet_1054 = refl;
}

-- one column, with some style bytes and some cells
abbrev pub one_column : List ℕ → List Cell → Table
one_column style cells = record {
  edition = 1;
  arrangement = 0;
  target = 0;
  delimiter = 0;
  indicator = [];
  style = style;
  columns = no_column ∷ [];
  header = [];
  rows = record { limit = 0; cells = cells } ∷ [];
}

-- tables that differ from one of the family in one thing
pub record Outsiders : Type 0 where
  pub none : Small (table_of 0 0 []) → ⊥
  pub three : Small (table_of 0 0 ([] ∷ [] ∷ [] ∷ [])) → ⊥
  pub five : Small (table_of 0 0 (ascii "aaaaa" ∷ [])) → ⊥
  pub letter : Small (table_of 0 0 (ascii "ab" ∷ [])) → ⊥
  pub target : Small (table_of 0 11 ([] ∷ [])) → ⊥
  pub style : Small (one_column (45 ∷ replicate 21 0) (cell_of [] ∷ [])) → ⊥
  pub cell : Small (one_column (replicate 22 0) []) → ⊥

-- tables of the family
pub record Members : Type 0 where
  pub one : Small (table_of 0 0 ([] ∷ []))
  pub two : Small (table_of 2 10 (ascii "aaaa" ∷ ascii " a" ∷ []))
