use mathlib.Core.Path.{◌≡◌, refl}
use denote.Enum.Declared.{tag_of}
use Rattle.rules.specs.contracts.WidthStep.{the_type}
use Rattle.rules.specs.declared.WidthStep.{WidthStep}
use Rattle.rules.specs.declared.WidthStep.TheVariants.{NoStep, FirstConstraint, LowerBound, UpperBound, LongestWithinAverage, SplitPart, EvenShare}
use Rattle.rules.specs.declared.WidthStep.TheVariants.{UntargetedLongest, UntargetedUpper}
use Rattle.rules.specs.Reasons.{step_number}
use Rattle.rules.proofs.U8FromWidthStep.from.Goals as goal

number : (s : WidthStep) → tag_of the_type s ≡ step_number s
unfolding step_number
number NoStep = refl
number FirstConstraint = refl
number LowerBound = refl
number UpperBound = refl
number LongestWithinAverage = refl
number SplitPart = refl
number EvenShare = refl
number UntargetedLongest = refl
number UntargetedUpper = refl

pub returns : goal.returns
returns c = number c.args.step
