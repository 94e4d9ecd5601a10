-- Widths. A content width leaves padding out; a constraint width counts it. Assumes nothing.
use Rattle.std.specs.Prelude.{ℕ, zero, suc, ◌+◌, ◌-◌, ◌*◌, ◌/◌, ◌%◌, min, max, List, [], ◌∷◌, map, Bool, true, false, not, ◌&&◌, ◌||◌, length, get_or, take, set, ltb, leb, eqb}
use Rattle.std.proofs.Math.Option.{Option, none, some}
use Rattle.rules.specs.Text.{text_width, greatest, sum, up_from, keep, flat, one_if, or_else}
use Rattle.rules.specs.Sheet.{Width, Column, Cell, Row, Table, column_at, cell_at, all_rows, padding, is_hidden}
use Rattle.rules.specs.Style.{borders_of}
use Rattle.rules.specs.Wrap.{delimiter_of, split}

-- "makes 0 into 1", "any other content width of 0 becomes 1 too"
abbrev pub lifted : ℕ → ℕ
lifted w = max 1 w

-- "going from constraint to content takes off both paddings, stops at 0, and makes 0 into 1"
abbrev pub content_of : Column → ℕ → ℕ
content_of c w = lifted (w - padding c)

-- column j's cells: the header's first, then each row's, none where a row is short
unfoldable pub cells_of : ℕ → List Row → List Cell
cells_of j [] = []
cells_of j (r ∷ rs) = elim (ltb j (length r.cells)) [ true ↦ cell_at r j ∷ cells_of j rs | false ↦ cells_of j rs ]

-- a cell's longest line, at least 1
unfoldable pub cell_longest : Cell → ℕ
cell_longest x = max 1 (greatest (map text_width x.lines))

-- a column's longest: greatest line length over header and rows, at least 1 per cell present; 0 with no cell
unfoldable pub longest : Table → ℕ → ℕ
longest t j = greatest (map cell_longest (cells_of j (all_rows t)))

-- the columns' numbers, and those of the visible ones
unfoldable pub numbers : Table → List ℕ
numbers t = up_from 0 (length t.columns)

unfoldable pub visible : Table → List ℕ
visible t = keep (λ j. not (is_hidden (column_at t j))) (numbers t)

-- borders drawn
unfoldable pub borders : Table → ℕ
borders t = borders_of t.style (length (visible t))

-- percent: at most 100, of target less borders (not below 0), rounded down; without a target it gives no width
unfoldable pub percent_of : Table → ℕ → Option ℕ
percent_of t p = elim (eqb t.target 0) [ true ↦ none | false ↦ some ((t.target - borders t) * min 100 p / 100) ]

-- a constraint width: fixed, or percent
unfoldable pub width_of : Table → Width → Option ℕ
width_of t w = elim (eqb w.unit 0) [ true ↦ some w.value | false ↦ percent_of t w.value ]

-- the width that a constraint has for a purpose, if it has one
unfoldable pub value_of : Table → Option Width → Option ℕ
value_of t (some w) = width_of t w
value_of t none = none

-- `LowerBoundary` (4) and `Boundaries` (6) set a lower bound, their first width
unfoldable pub lower_width : Column → Option Width
lower_width c = elim (eqb c.constraint 4 || eqb c.constraint 6) [ true ↦ some c.first | false ↦ none ]

-- `UpperBoundary` (5) sets an upper one, its first width, and so does `Boundaries` (6), its second
unfoldable pub upper_width : Column → Option Width
upper_width c = elim (eqb c.constraint 5) [ true ↦ some c.first | false ↦ elim (eqb c.constraint 6) [ true ↦ some c.second | false ↦ none ] ]

-- `Absolute` (3) sets its width
unfoldable pub absolute_width : Column → Option Width
absolute_width c = elim (eqb c.constraint 3) [ true ↦ some c.first | false ↦ none ]

unfoldable pub lower : Table → Column → Option ℕ
lower t c = value_of t (lower_width c)

unfoldable pub upper : Table → Column → Option ℕ
upper t c = value_of t (upper_width c)

unfoldable pub absolute : Table → Column → Option ℕ
absolute t c = value_of t (absolute_width c)

-- a lower bound fixes the column when longest plus padding is at most the bound
unfoldable pub covering : Column → ℕ → ℕ → Option ℕ
covering c l b = elim (leb (l + padding c) b) [ true ↦ some (content_of c b) | false ↦ none ]

-- First (`evaluate`): `ContentWidth` and `Hidden` take the longest; `Absolute` its width; a lower bound may fix the column. Else the column stays undecided
unfoldable pub evaluate : Table → ℕ → Option ℕ
evaluate t j =
    let c = column_at t j in
    elim (is_hidden c || eqb c.constraint 2) [
      | true ↦ some (longest t j)
      | false ↦ elim (absolute t c) [
        | some w ↦ some (content_of c w)
        | none ↦ elim (lower t c) [ some b ↦ covering c (longest t j) b | none ↦ none ]
      ]
    ]

-- what is noted of a column: its content width, or 0, which is none, while it is undecided
unfoldable pub noted : Option ℕ → ℕ
noted (some w) = lifted w
noted none = 0

unfoldable pub first : Table → ℕ → ℕ
first t j = noted (evaluate t j)

-- "no target, or `Disabled`"
abbrev pub is_untargeted : Table → Bool
is_untargeted t = eqb t.target 0 || eqb t.arrangement 0

-- "if an upper bound is below the longest (padding not counted), the bound made content"
unfoldable pub below_longest : Table → ℕ → Option ℕ
below_longest t j =
    elim (upper t (column_at t j)) [
      | some b ↦ elim (ltb b (longest t j)) [ true ↦ some (content_of (column_at t j) b) | false ↦ none ]
      | none ↦ none
    ]

-- then that; else the longest
unfoldable pub untargeted : Table → ℕ → ℕ
untargeted t j = elim (below_longest t j) [ some w ↦ w | none ↦ lifted (longest t j) ]

-- what is noted of each column, and the remaining width
pub record State : Type 0 where
  pub widths : List ℕ
  pub remaining : ℕ

abbrev pub is_undecided : State → ℕ → Bool
is_undecided s j = eqb (get_or s.widths j 0) 0

unfoldable pub zeros : List ℕ → ℕ
zeros [] = 0
zeros (zero ∷ ws) = suc (zeros ws)
zeros (suc w ∷ ws) = zeros ws

-- the undecided count
abbrev pub undecided : State → ℕ
undecided s = zeros s.widths

-- "average is remaining over undecided count, 0 if none"; a quotient by 0 is 0
abbrev pub average : State → ℕ
average s = s.remaining / undecided s

-- what a column takes off the target at first: an undecided one its padding, a decided visible one its full width
unfoldable pub taken : Table → ℕ → ℕ
taken t j = elim (is_hidden (column_at t j)) [ true ↦ 0 | false ↦ first t j + padding (column_at t j) ]

-- the remaining width is target less borders, undecided paddings and decided visible full widths, never below 0
unfoldable pub start : Table → State
start t = record { widths = map (first t) (numbers t); remaining = t.target - borders t - sum (map (taken t) (numbers t)) }

-- fixing takes off the width offered, before 0 becomes 1, and the remaining width stops at 0
unfoldable pub fix : ℕ → ℕ → State → State
fix j w s = record { widths = set s.widths j (lifted w); remaining = s.remaining - w }

-- a rule offers column j a width, or none, by the average
abbrev pub Rule : Type 0
Rule = ℕ → ℕ → Option ℕ

-- a column is fixed at the width offered, if one is
unfoldable pub fix_at : ℕ → Option ℕ → State → State
fix_at j (some w) s = fix j w s
fix_at j none s = s

-- an undecided column, and the average of the moment
unfoldable pub visit : Rule → ℕ → State → State
visit rule j s = elim (is_undecided s j) [ true ↦ fix_at j (rule j (average s)) s | false ↦ s ]

-- a pass: columns 0 to n - 1, in column order
unfoldable pub pass : Rule → ℕ → State → State
pass rule zero s = s
pass rule (suc n) s = visit rule n (pass rule n s)

-- a step's run: the states in which its passes begin, one after another, and the state that the last pass leaves
pub record Run : Type 0 where
  pub begun : List State
  pub left : State

-- no further pass
abbrev pub ended : State → Run
ended s = record { begun = []; left = s }

-- a pass that begins in s, and those after it
abbrev pub going : State → Run → Run
going s r = record { begun = s ∷ r.begun; left = r.left }

-- a pass that fixed a column is repeated; each that is repeated fixed one of the n columns, so that n + 1 passes suffice
unfoldable pub run : (State → Bool) → Rule → ℕ → ℕ → State → Run
run begins rule n zero s = ended s
run begins rule n (suc fuel) s =
    elim (begins s) [
      | true ↦ let u = pass rule n s in going s (elim (ltb (undecided u) (undecided s)) [ true ↦ run begins rule n fuel u | false ↦ ended u ])
      | false ↦ ended s
    ]

-- 1. Lower bounds above the average are fixed
unfoldable pub above_average : Table → Rule
above_average t j a =
    elim (lower t (column_at t j)) [
      | some b ↦ elim (ltb a b) [ true ↦ some (content_of (column_at t j) b) | false ↦ none ]
      | none ↦ none
    ]

-- 2. At the longest if at most the average
unfoldable pub within_average : ℕ → ℕ → Option ℕ
within_average l a = elim (leb l a) [ true ↦ some l | false ↦ none ]

-- 2. Fix at an upper bound that is at most average plus padding and at most longest plus padding
unfoldable pub at_upper : Table → Rule
at_upper t j a =
    let c = column_at t j in
    elim (upper t c) [
      | some b ↦ elim (leb b (a + padding c) && leb b (longest t j + padding c)) [ true ↦ some (content_of c b) | false ↦ none ]
      | none ↦ none
    ]

-- 2. At an upper bound; else at the longest
unfoldable pub fitting_average : Table → Rule
fitting_average t j a = elim (at_upper t j a) [ some w ↦ some w | none ↦ within_average (longest t j) a ]

-- 2. A pass begins only if the average isn't 0
abbrev pub average_is_some : State → Bool
average_is_some s = not (eqb (average s) 0)

-- a line's parts at the average: a longer line is split, at 1 where the average is 0
unfoldable pub trial_parts : ℕ → ℕ → List ℕ → List (List ℕ)
trial_parts a d l = elim (ltb a (text_width l)) [ true ↦ split (lifted a) d l | false ↦ l ∷ [] ]

unfoldable pub cell_parts : Table → ℕ → ℕ → Cell → List (List ℕ)
cell_parts t j a x = flat (map (trial_parts a (delimiter_of t (column_at t j) x)) x.lines)

-- the column's lines split at the average: the longest part
unfoldable pub longest_part : Table → ℕ → ℕ → ℕ
longest_part t j a = greatest (map text_width (flat (map (cell_parts t j a) (cells_of j (all_rows t)))))

-- 3. Fix at the longest part if it is shorter by 3 or more
unfoldable pub shorter_by3 : ℕ → ℕ → Option ℕ
shorter_by3 l a = elim (leb (l + 3) a) [ true ↦ some l | false ↦ none ]

-- 3. Split the column's lines at the average
unfoldable pub split_at_average : Table → Rule
split_at_average t j a = shorter_by3 (longest_part t j a) a

-- steps 1 to 3: their runs, and what they come to
unfoldable pub run1 : Table → State → Run
run1 t s = run (λ s. true) (above_average t) (length t.columns) (suc (length t.columns)) s

unfoldable pub run2 : Table → State → Run
run2 t s = run average_is_some (fitting_average t) (length t.columns) (suc (length t.columns)) s

unfoldable pub run3 : Table → State → Run
run3 t s = run (λ s. true) (split_at_average t) (length t.columns) (suc (length t.columns)) s

unfoldable pub step1 : Table → State → State
step1 t s = (run1 t s).left

unfoldable pub step2 : Table → State → State
step2 t s = (run2 t s).left

unfoldable pub step3 : Table → State → State
step3 t s = (run3 t s).left

-- share k of an amount shared evenly by n, the first ones taking the excess
unfoldable pub share : ℕ → ℕ → ℕ → ℕ
share amount n k = amount / n + one_if (ltb k (amount % n))

-- 4. If columns are left, raise remaining to their number, share evenly, the first ones taking the excess
unfoldable pub shared : State → ℕ → ℕ
shared s j = or_else (get_or s.widths j 0) (share (max (undecided s) s.remaining) (undecided s) (zeros (take j s.widths)))

-- a visible column's share of the remainder
abbrev pub of_remainder : Table → State → ℕ → ℕ
of_remainder t s j = share s.remaining (length (visible t)) (length (keep (λ i. ltb i j) (visible t)))

-- 4. If none is left and arrangement is 2, the remainder is shared so among visible columns
unfoldable pub widened : Table → State → ℕ → ℕ
widened t s j = elim (is_hidden (column_at t j)) [ true ↦ get_or s.widths j 0 | false ↦ get_or s.widths j 0 + of_remainder t s j ]

unfoldable pub step4 : Table → State → List ℕ
step4 t s =
    elim (eqb (undecided s) 0) [
      | false ↦ map (shared s) (numbers t)
      | true ↦ elim (eqb t.arrangement 2) [ true ↦ map (widened t s) (numbers t) | false ↦ s.widths ]
    ]

-- each column's content width
unfoldable pub contents : Table → List ℕ
contents t =
    elim (is_untargeted t) [
      | true ↦ map (λ j. or_else (first t j) (untargeted t j)) (numbers t)
      | false ↦ step4 t (step3 t (step2 t (step1 t (start t))))
    ]
