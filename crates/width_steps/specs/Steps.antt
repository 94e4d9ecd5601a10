-- The step of a column by the course of the widths, and the report. Assumes nothing.
use Rattle.std.specs.Prelude.{ℕ, ◌+◌, List, Bool, false, ◌||◌, is_none, get_or, leb, ltb}
use Rattle.std.proofs.Math.Option.{Option, none, some}
use Rattle.rules.specs.declared.Column.{Column}
use Rattle.rules.specs.declared.WidthStep.{WidthStep}
use Rattle.rules.specs.declared.WidthStep.TheVariants.{NoStep, FirstConstraint, LowerBound, UpperBound, LongestWithinAverage, SplitPart, EvenShare}
use Rattle.rules.specs.declared.WidthStep.TheVariants.{UntargetedLongest, UntargetedUpper}
use Rattle.rules.specs.Sheet.{Table, padding, is_hidden}
use Rattle.rules.specs.Calls.{as_array}
use Rattle.rules.specs.Reasons.{step_number, step_numbers, widened_columns}
use Rattle.style.specs.Table.{is_disabled}
use Rattle.constraint.specs.declared.Layout.{Layout}
use Rattle.constraint.specs.Set.{contains}
use Rattle.constraint.specs.Widths.{choose, by_column, column, longest, visible, upper}
use Rattle.arrangement.specs.declared.dynamic.Course.{Course}
use Rattle.arrangement.specs.Widths.{arranged_widths}
use Rattle.width_steps.specs.declared.Report.{Report}

-- an upper bound below the longest (n), or the longest
abbrev pub untargeted_by : ℕ → Option ℕ → WidthStep
untargeted_by n b = elim b [ some w ↦ choose (ltb w n) UntargetedUpper UntargetedLongest | none ↦ UntargetedLongest ]

-- an upper bound that is at most longest plus padding, or the longest
abbrev pub fitted_by : Column → ℕ → Option ℕ → WidthStep
fitted_by c n b = elim b [ some w ↦ choose (leb w (n + padding c)) UpperBound LongestWithinAverage | none ↦ LongestWithinAverage ]

-- the first of steps 1 to 3 after which the column is decided, or step 4
unfoldable pub targeted_by : Layout → Course → ℕ → WidthStep
targeted_by t a i =
    choose (contains a.lower i) LowerBound
    (choose (contains a.fitted i) (fitted_by (column t i) (longest t i) (upper t (visible t) (column t i)))
    (choose (contains a.split i) SplitPart EvenShare))

unfoldable pub step_by : Layout → Course → ℕ → WidthStep
step_by t a i =
    choose (is_hidden (column t i)) NoStep
    (choose (contains a.first i) FirstConstraint
    (choose (is_none t.target || is_disabled t.arrangement) (untargeted_by (longest t i) (upper t (visible t) (column t i)))
    (targeted_by t a i)))

abbrev pub steps_by : Layout → Course → List ℕ
steps_by t a = by_column t 0 (λ i. step_number (step_by t a i))

-- decided before step 4, and wider after it
unfoldable pub widened_by : Column → Course → ℕ → Bool
widened_by c a i =
    choose (is_hidden c) false
    (choose (contains a.split i) (ltb (get_or a.before i 0) (get_or a.state.widths i 0)) false)

abbrev pub widened_all_by : Layout → Course → List Bool
widened_all_by t a = by_column t false (λ i. widened_by (column t i) a i)

-- the report on a table's widths
unfoldable pub report_of : Table → Report
report_of t = record { widths = arranged_widths t; target = t.target; step = as_array 0 (step_numbers t); widened = as_array false (widened_columns t) }
