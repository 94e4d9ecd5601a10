-- Columns before a position of a text, and the place where a number of them is reached. Assumes nothing.
use Rattle.std.specs.Prelude.{ℕ, ◌+◌, ◌≤◌, ◌<◌, ◌≡◌, List, Bool, true, false, length, get_or, take}
use Rattle.rules.specs.Text.{is_second, text_width}
use Rattle.rules.specs.Limits.{Plain}

-- the columns of t before position p
unfoldable pub col : List ℕ → ℕ → ℕ
col t p = text_width (take p t)

-- a text that is said to be plain has no pair
abbrev pub IsPlain : Bool → List ℕ → Type 0
IsPlain b t = b ≡ true → Plain t

-- z is where w columns from s on are reached: the first byte of the next character, or the end
pub record Reach (t : List ℕ) (s w z : ℕ) : Type 0 where
  pub from : s ≤ z
  pub within : z ≤ length t
  pub columns : col t z ≡ col t s + w
  pub whole : is_second (get_or t z 0) ≡ false

-- the same, but t may end before, and lack some columns
pub record Reached (t : List ℕ) (s w z lacking : ℕ) : Type 0 where
  pub from : s ≤ z
  pub within : z ≤ length t
  pub columns : col t z + lacking ≡ col t s + w
  pub whole : is_second (get_or t z 0) ≡ false
  pub end : 0 < lacking → z ≡ length t
