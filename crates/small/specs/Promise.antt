-- What document 02's order 2 asks to be proved of the list: "each is accepted, is listed once, and none of the family is missing". Assumes nothing.
use Rattle.std.specs.Prelude.{ℕ, ◌<◌, ◌≡◌, List, [], length, get_or}
use Rattle.rules.specs.Text.{All}
use Rattle.small.specs.Family.{InFamily}
use Rattle.small.specs.Listing.{tables_with, sheets}

-- s is the sheet of some number
pub record Listed (s : List ℕ) : Type 0 where
  pub number : ℕ
  pub below : number < length sheets
  pub is : get_or sheets number [] ≡ s

pub record Promise : Type 0 where
  -- "there are 32,736: 1,023 with one column and 31,713 with two", those listed as such
  pub count : length sheets ≡ 32736
  pub one_column : length (tables_with 1) ≡ 1023
  pub two_columns : length (tables_with 2) ≡ 31713
  pub columns : (n : ℕ) → All (λ t. length t.columns ≡ n) (tables_with n)
  -- "each is accepted", and of the family
  pub accepted : (n : ℕ) → n < length sheets → InFamily (get_or sheets n [])
  -- "is listed once": two numbers, two sheets
  pub once : (m n : ℕ) → m < length sheets → n < length sheets → get_or sheets m [] ≡ get_or sheets n [] → m ≡ n
  -- "none of the family is missing"
  pub complete : (s : List ℕ) → InFamily s → Listed s
