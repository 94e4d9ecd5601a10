-- Whether a reading stopped at a C2. Assumes nothing.
use mathlib.Core.Path.{◌≡◌, refl}
use mathlib.Core.List.{List}
use mathlib.Core.Bool.{◌&&◌}
use Prim.Native.Nat.{ℕ}
use lib.Dec.{eqb}
use lib.ListN.{get_or}
use denote.Enum.Bare.{sameb}
use Rattle.rules.specs.contracts.Reason.{the_type}
use Rattle.rules.specs.declared.Reason.{Reason}
use Rattle.rules.specs.declared.Reason.TheVariants.{Ended, TooLong, WrongEdition, UnknownCode, BeyondLimits, BadCharacter, TooManyCells, NotZero}
use Rattle.rules.specs.declared.Reason.TheVariants.{LeftOver, PageOverBuffer, NoSuchLine, SheetOverBuffer}
use Rattle.rules.specs.declared.Refusal.{Refusal}
use Rattle.rules.specs.Refusals.{number_of}
use Rattle.rules.specs.Steps.{refused_as}
use Rattle.sheet.specs.Steps.{at_first}

pub is_character : (r : Reason) → sameb the_type r BadCharacter ≡ eqb (number_of r) 6
is_character Ended = refl
is_character TooLong = refl
is_character WrongEdition = refl
is_character UnknownCode = refl
is_character BeyondLimits = refl
is_character BadCharacter = refl
is_character TooManyCells = refl
is_character NotZero = refl
is_character LeftOver = refl
is_character PageOverBuffer = refl
is_character NoSuchLine = refl
is_character SheetOverBuffer = refl

pub first_there : (s : List ℕ) (r : Refusal) → at_first s (refused_as r) ≡ (eqb (number_of r.reason) 6 && eqb (get_or s r.place 0) 194)
unfolding at_first
first_there s r = refl
