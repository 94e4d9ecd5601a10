-- What the code's numbers mean: a text, a place among the tables, a sheet's choices. Assumes nothing.
use Rattle.std.specs.Prelude.{ℕ, ◌<◌, ◌≡◌, Option, Some, None, List, [], ◌∷◌, ◌++◌, map, length, get_or}
use Rattle.rules.specs.Text.{flat}
use Rattle.small.specs.Listing.{choices, letters, texts, table_of, tables_with, tables, no_table}
use Rattle.small_sheets.specs.Parts.{cell_bytes, head_bytes, columns_bytes}
pub use Rattle.small_sheets.specs.declared.choice.Text.{Text}
pub use Rattle.small_sheets.specs.declared.choice.Place.{Place}
pub use Rattle.small_sheets.specs.declared.choice.Choice.{Choice}

-- the text of a length and a number; the type says that there is one
unfoldable pub text_is : Text → List ℕ
text_is t = get_or (choices letters t.length) t.number []

-- text k of all
abbrev pub IsTextAt : ℕ → Text → Type 0
IsTextAt k t = text_is t ≡ get_or texts k []

-- the texts of a choice: one for each column
abbrev pub second_is : Option Text → List (List ℕ)
second_is None = []
second_is (Some t) = text_is t ∷ []

unfoldable pub texts_is : Choice → List (List ℕ)
texts_is c = text_is c.first ∷ second_is c.second

abbrev pub columns_of : Choice → ℕ
columns_of c = length (texts_is c)

-- table m of those with so many columns
pub record IsPlace (columns m : ℕ) (p : Place) : Type 0 where
  pub table : get_or (tables_with columns) m no_table ≡ table_of p.arrangement p.target (get_or (choices texts columns) p.row [])
  pub row : p.row < length (choices texts columns)

-- the choice of so many columns at a place
pub record ChoiceAt (n : ℕ) (p : Place) (c : Choice) : Type 0 where
  pub columns : columns_of c ≡ n
  pub arrangement : c.arrangement ≡ p.arrangement
  pub target : c.target ≡ p.target
  pub row : texts_is c ≡ get_or (choices texts n) p.row []

-- the choice that sheet n makes
abbrev pub IsChoice : ℕ → Choice → Type 0
IsChoice n c = get_or tables n no_table ≡ table_of c.arrangement c.target (texts_is c)

-- the bytes of its cells, and of its sheet
unfoldable pub cells_is : Choice → List ℕ
cells_is c = flat (map cell_bytes (texts_is c))

unfoldable pub sheet_is : Choice → List ℕ
sheet_is c = head_bytes c.arrangement c.target ++ (columns_bytes (columns_of c) ++ cells_is c)
