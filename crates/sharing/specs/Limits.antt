-- What keeps every sum of widths within its type. Assumes nothing.
use Rattle.std.specs.Prelude.{ℕ, ◌≤◌, get_or}
use Rattle.constraint.specs.declared.State.{State}

-- before the remainder is shared, no content width and no remainder is over 400
pub record Small (s : State) : Type 0 where
  pub widths : (i : ℕ) → get_or s.widths i 0 ≤ 400
  pub remaining : s.remaining ≤ 400
