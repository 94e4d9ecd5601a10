-- The reason for a width: document 02, order 5. What the report says, the call, and what is promised of it. Assumes nothing.
use Rattle.std.specs.Prelude.{ℕ, ◌+◌, ◌≤◌, ◌<◌, ◌≡◌, List, map, Bool, true, false, not, ◌&&◌, ℤ, pos, ◌-ℤ◌, length, get_or, replicate, eqb, ltb}
use Rattle.std.proofs.Math.Option.{none, some}
use Rattle.rules.specs.Text.{text_width, greatest}
use Rattle.rules.specs.Sheet.{Table, most_columns, column_at, is_hidden}
use Rattle.rules.specs.Field.{Read, got, refused}
use Rattle.rules.specs.Format.{sheet}
use Rattle.rules.specs.Widths.{lifted, longest, numbers, is_untargeted, below_longest, undecided, is_undecided, start, at_upper, of_remainder, contents}
use Rattle.rules.specs.Page.{page_lines}
use Rattle.rules.specs.Calls.{as_array}
use Rattle.rules.specs.Fixing.{Fixed, after1, after2, after3}
use Rattle.rules.specs.declared.Reasoned.{Reasoned}
use Rattle.rules.specs.declared.WidthStep.{WidthStep}
use Rattle.rules.specs.declared.WidthStep.TheVariants.{NoStep, FirstConstraint, LowerBound, UpperBound, LongestWithinAverage, SplitPart, EvenShare}
use Rattle.rules.specs.declared.WidthStep.TheVariants.{UntargetedLongest, UntargetedUpper}

-- `WidthStep`, case by case: the step's number
unfoldable pub step_number : WidthStep → ℕ
step_number NoStep = 0
step_number FirstConstraint = 1
step_number LowerBound = 2
step_number UpperBound = 3
step_number LongestWithinAverage = 4
step_number SplitPart = 5
step_number EvenShare = 6
step_number UntargetedLongest = 7
step_number UntargetedUpper = 8

-- no target, or `Disabled`: the upper bound or the longest
unfoldable pub untargeted_step : Table → ℕ → WidthStep
untargeted_step t j = elim (below_longest t j) [ some w ↦ UntargetedUpper | none ↦ UntargetedLongest ]

-- in step 2: the upper bound, if that is fixed at an average that the longest just fits; else the longest
unfoldable pub fitted_step : Table → ℕ → WidthStep
fitted_step t j = elim (at_upper t j (longest t j)) [ some w ↦ UpperBound | none ↦ LongestWithinAverage ]

-- a target: the first step after which the column is decided, or step 4
unfoldable pub targeted_step : Table → ℕ → WidthStep
targeted_step t j =
    elim (is_undecided (after1 t) j) [
      | false ↦ LowerBound
      | true ↦ elim (is_undecided (after2 t) j) [
        | false ↦ fitted_step t j
        | true ↦ elim (is_undecided (after3 t) j) [ false ↦ SplitPart | true ↦ EvenShare ]
      ]
    ]

-- "for each visible column a report names the step that set its content width", "a hidden column names no step"
unfoldable pub step_of : Table → ℕ → WidthStep
step_of t j =
    elim (is_hidden (column_at t j)) [
      | true ↦ NoStep
      | false ↦ elim (is_undecided (start t) j) [
        | false ↦ FirstConstraint
        | true ↦ elim (is_untargeted t) [ true ↦ untargeted_step t j | false ↦ targeted_step t j ]
      ]
    ]

-- "whether the full-width remainder widened it": steps 1 to 3 left the column decided at less than its content width
unfoldable pub is_widened : Table → ℕ → Bool
is_widened t j =
    elim (is_untargeted t) [
      | true ↦ false
      | false ↦ not (is_undecided (after3 t) j) && ltb (get_or (after3 t).widths j 0) (get_or (contents t) j 0)
    ]

-- "lengths count characters without 0A; a page without lines has length 0"
unfoldable pub longest_printed : Table → ℕ
longest_printed t = greatest (map text_width (page_lines t))

abbrev pub has_target : Table → Bool
has_target t = not (eqb t.target 0)

-- "with a target, the report also gives target minus the longest printed line", "without a target the difference is 0 and marked absent"
unfoldable pub difference : Table → ℤ
difference t = elim (has_target t) [ true ↦ pos t.target -ℤ pos (longest_printed t) | false ↦ pos 0 ]

-- the steps' numbers and the widened ones, column by column
abbrev pub step_numbers : Table → List ℕ
step_numbers t = map (λ j. step_number (step_of t j)) (numbers t)

abbrev pub widened_columns : Table → List Bool
widened_columns t = map (is_widened t) (numbers t)

-- each column's step and whether it was widened, and the difference; 0 and not widened past the columns
unfoldable pub reasons_of : Read Table → Reasoned
reasons_of (got t p) = record {
  number = 0;
  place = 0;
  columns = length t.columns;
  step = as_array 0 (step_numbers t);
  widened = as_array false (widened_columns t);
  has_difference = has_target t;
  difference = difference t;
}
reasons_of (refused n p) = record {
  number = n;
  place = p;
  columns = 0;
  step = replicate most_columns 0;
  widened = replicate most_columns false;
  has_difference = false;
  difference = pos 0;
}

unfoldable pub reasons : List ℕ → Reasoned
reasons s = reasons_of (sheet s)

-- visible column j in the report: it names a step exactly if that rule fixed the column, and one of the eight; its content width is the one
-- at which it was fixed, 0 made 1, and more by its share of the remainder exactly if it is called widened
pub record ColumnExplained (t : Table) (j : ℕ) : Type 0 where
  pub fixed : (w : ℕ) × Fixed t j (step_of t j) w
  pub only : (r : WidthStep) (w : ℕ) → Fixed t j r w → step_of t j ≡ r
  pub some_step : (1 ≤ step_number (step_of t j)) × (step_number (step_of t j) ≤ 8)
  pub kept : is_widened t j ≡ false → (r : WidthStep) (w : ℕ) → Fixed t j r w → get_or (contents t) j 0 ≡ lifted w
  pub more : is_widened t j ≡ true → (r : WidthStep) (w : ℕ) → Fixed t j r w → get_or (contents t) j 0 ≡ lifted w + of_remainder t (after3 t) j
  pub so : is_widened t j ≡ true → (is_untargeted t ≡ false) × (undecided (after3 t) ≡ 0) × (t.arrangement ≡ 2) × (0 < of_remainder t (after3 t) j)
  pub widened : is_untargeted t ≡ false → undecided (after3 t) ≡ 0 → t.arrangement ≡ 2 → 0 < of_remainder t (after3 t) j → is_widened t j ≡ true

-- what is promised of the report of a table
pub record Explained (t : Table) : Type 0 where
  pub visible : (j : ℕ) → j < length t.columns → is_hidden (column_at t j) ≡ false → ColumnExplained t j
  pub hidden : (j : ℕ) → j < length t.columns → is_hidden (column_at t j) ≡ true → (step_of t j ≡ NoStep) × (is_widened t j ≡ false)
