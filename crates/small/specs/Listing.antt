-- The list of all small sheets in document 02's order, and the call that writes one of them. Assumes nothing.
use Rattle.std.specs.Prelude.{ℕ, zero, suc, List, [], ◌∷◌, map, true, false, length, get_or, replicate, ltb}
use Rattle.rules.specs.Text.{up_from, flat}
use Rattle.rules.specs.Sheet.{Cell, Table, no_column}
use Rattle.rules.specs.Style.{style_characters}
use Rattle.rules.specs.Format.{written}
use Rattle.rules.specs.Calls.{Written, put, not_printed}

-- one choice after another: all that f makes of the first, then of the second, ..
unfoldable pub each : {A B : Type 0} → List A → (A → List B) → List B
each l f = flat (map f l)

-- n entries, each chosen from the list l: the first varies slowest
unfoldable pub choices : {A : Type 0} → List A → ℕ → List (List A)
choices l zero = [] ∷ []
choices l (suc n) = each l (λ a. map (λ as'. a ∷ as') (choices l n))

-- "space before a"
abbrev pub letters : List ℕ
letters = 32 ∷ 97 ∷ []

-- "texts by length, then space before a, from the left"; their "length 0 to 4"
unfoldable pub texts : List (List ℕ)
texts = each (up_from 0 5) (λ n. choices letters n)

-- the cell that holds a text
abbrev pub cell_of : List ℕ → Cell
cell_of x = record { delimiter = 0; alignment = 0; lines = x ∷ [] }

-- the table of the family with an arrangement, a target and a text for each column
unfoldable pub table_of : ℕ → ℕ → List (List ℕ) → Table
table_of a w xs = record {
  edition = 1;
  arrangement = a;
  target = w;
  delimiter = 0;
  indicator = [];
  style = replicate style_characters 0;
  columns = replicate (length xs) no_column;
  header = [];
  rows = record { limit = 0; cells = map cell_of xs } ∷ [];
}

-- "arrangement 0 to 2, target 0 to 10, first text, second text"
unfoldable pub tables_with : ℕ → List Table
tables_with columns = each (up_from 0 3) (λ a. each (up_from 0 11) (λ w. map (λ xs. table_of a w xs) (choices texts columns)))

-- "order: number of columns, .."
unfoldable pub tables : List Table
tables = each (1 ∷ 2 ∷ []) tables_with

-- what stands past the last
abbrev pub no_table : Table
no_table = table_of 0 0 []

-- each as its bytes
unfoldable pub sheets : List (List ℕ)
sheets = map written tables

-- sheet n over a buffer, all or nothing. 21: no sheet has that number (place: how many there are); 20: a shorter buffer (place: the bytes needed)
unfoldable pub write_sheet : ℕ → List ℕ → Written
write_sheet n b = elim (ltb n (length sheets)) [ true ↦ put (get_or sheets n []) b | false ↦ not_printed 21 (length sheets) b ]
