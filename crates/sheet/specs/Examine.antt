-- What an examined sheet's answer says. Assumes nothing.
use Rattle.std.specs.Prelude.{ℕ, ◌≡◌, Bool, true, false, not, List, Result, Ok, Err}
use Rattle.rules.specs.Sheet.{Table}
use Rattle.rules.specs.Field.{got}
use Rattle.rules.specs.Format.{sheet}
use Rattle.rules.specs.Limits.{PlainTable}
use Rattle.rules.specs.Calls.{check}
use Rattle.rules.specs.Refusals.{number_of}
use Rattle.rules.specs.declared.Checked.{Checked}
use Rattle.sheet.specs.Steps.{reading_of, at_first}
use Rattle.sheet.specs.declared.Examined.{Examined}
use Rattle.sheet.specs.declared.RefusedSheet.{RefusedSheet}

-- an answer for C: number and place, both 0 where the sheet is accepted
abbrev pub checked_of : Result Examined RefusedSheet → Checked
checked_of (Ok e) = record { number = 0; place = 0 }
checked_of (Err r) = record { number = number_of r.refusal.reason; place = r.refusal.place }

-- whether the sheet, accepted or refused, is called plain
abbrev pub plain_of : Result Examined RefusedSheet → Bool
plain_of (Ok e) = e.plain
plain_of (Err r) = r.plain

-- what the check answers; and, exactly where the reading without pairs didn't stop at a C2, that a table was plain
pub record ExaminedIs (s : List ℕ) (r : Result Examined RefusedSheet) : Type 0 where
  pub checked : checked_of r ≡ check s
  pub plain : plain_of r ≡ true → (t : Table) (p : ℕ) → sheet s ≡ got t p → PlainTable t
  pub stood : plain_of r ≡ not (at_first s (reading_of false s))
