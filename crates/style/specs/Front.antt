-- An array of which the first places are taken. Assumes nothing.
use Rattle.std.specs.Prelude.{ℕ, ◌≤◌, ◌≡◌, List, length, take}
use Rattle.std.proofs.Common.{sym, subst, length-take-le}
use Rattle.rules.specs.Sheet.{most_columns}
use Rattle.rules.specs.Calls.{as_array}

-- the first n places are taken, and past them stands a
pub record Front {A : Type 0} (a : A) (n : ℕ) (places : List A) : Type 0 where
  pub fits : n ≤ most_columns
  pub whole : length places ≡ most_columns
  pub same : as_array a (take n places) ≡ places

-- what is taken says how much is
pub front_len : {A : Type 0} (a : A) (n : ℕ) (places : List A) → Front a n places → length (take n places) ≡ n
front_len a n places F = length-take-le n places (subst (λ m. n ≤ m) (sym F.whole) F.fits)
