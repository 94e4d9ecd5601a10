-- Why a call refuses, and the number that docs/FORMAT.md gives each reason. Assumes nothing.
use Rattle.std.specs.Prelude.{ℕ}
use Rattle.rules.specs.declared.Reason.{Reason}
use Rattle.rules.specs.declared.Reason.TheVariants.{Ended, TooLong, WrongEdition, UnknownCode, BeyondLimits, BadCharacter, TooManyCells, NotZero}
use Rattle.rules.specs.declared.Reason.TheVariants.{LeftOver, PageOverBuffer, NoSuchLine, SheetOverBuffer}

abbrev pub number_of : Reason → ℕ
number_of Ended = 1
number_of TooLong = 2
number_of WrongEdition = 3
number_of UnknownCode = 4
number_of BeyondLimits = 5
number_of BadCharacter = 6
number_of TooManyCells = 7
number_of NotZero = 8
number_of LeftOver = 9
number_of PageOverBuffer = 20
number_of NoSuchLine = 21
number_of SheetOverBuffer = 22
