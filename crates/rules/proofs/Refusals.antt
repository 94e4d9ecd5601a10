-- A refusal's number is never 0, which stands for none. Assumes nothing.
use mathlib.Core.Path.{◌≡◌}
use native.Mathlib.Omega.{arith}
use Rattle.rules.specs.Refusals.{number_of}
use Rattle.rules.specs.declared.Reason.{Reason}
use Rattle.rules.specs.declared.Reason.TheVariants.{Ended, TooLong, WrongEdition, UnknownCode, BeyondLimits, BadCharacter, TooManyCells, NotZero}
use Rattle.rules.specs.declared.Reason.TheVariants.{LeftOver, PageOverBuffer, NoSuchLine, SheetOverBuffer}

pub number_some : (r : Reason) → number_of r ≡ 0 → ⊥
number_some Ended e = absurd (omega (arith, e))
number_some TooLong e = absurd (omega (arith, e))
number_some WrongEdition e = absurd (omega (arith, e))
number_some UnknownCode e = absurd (omega (arith, e))
number_some BeyondLimits e = absurd (omega (arith, e))
number_some BadCharacter e = absurd (omega (arith, e))
number_some TooManyCells e = absurd (omega (arith, e))
number_some NotZero e = absurd (omega (arith, e))
number_some LeftOver e = absurd (omega (arith, e))
number_some PageOverBuffer e = absurd (omega (arith, e))
number_some NoSuchLine e = absurd (omega (arith, e))
number_some SheetOverBuffer e = absurd (omega (arith, e))
