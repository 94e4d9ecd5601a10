-- The arrangement: untargeted widths, the remaining width, steps 1 to 3, and the whole; step 4 is `sharing`'s. Assumes nothing.
use Rattle.std.specs.Prelude.{ℕ, zero, suc, ◌+◌, ◌-◌, Bool, true, false, ◌&&◌, ◌||◌, is_none, unwrap_or, length, get_or, replicate, eqb, leb, ltb}
use Rattle.std.specs.Prelude as std
use Rattle.std.specs.Bool.{then_some}
use Rattle.std.proofs.Math.Option.{Option, none, some}
use Rattle.rules.specs.declared.Column.{Column}
use Rattle.constraint.specs.declared.Layout.{Layout}
use Rattle.constraint.specs.declared.State.{State}
use Rattle.arrangement.specs.declared.dynamic.Course.{Course}
use Rattle.constraint.specs.declared.column_set.ColumnSet.{ColumnSet}
use Rattle.constraint.specs.Set.{set_width, contains}
use Rattle.constraint.specs.Widths.{choose, in_order, column, longest, visible, room, lower, upper, average, Rule, pass}
use Rattle.constraint.specs.Widths.{evaluated}
use Rattle.sharing.specs.Share.{finished}
use Rattle.style.specs.Table.{is_disabled}
use Rattle.rules.specs.Sheet.{most_columns, padding, is_hidden}
use Rattle.rules.specs.Widths.{content_of, within_average, shorter_by3}

-- a pass that fixed a column is repeated
unfoldable pub again : ℕ → (State → State) → State → State
again zero f s = s
again (suc fuel) f s = elim (eqb (f s).decided.0 s.decided.0) [ true ↦ f s | false ↦ again fuel f (f s) ]

-- each pass but the last fixes a column, and there are at most as many as the set can hold
abbrev pub repeated : (State → State) → State → State
repeated f s = again (suc set_width) f s

-- a pass of a step that ends where a state is such
abbrev pub turn : (State → Bool) → Rule → Layout → State → State
turn ended rule t s = choose (ended s) s (pass rule t s)

-- No target, or `Disabled`: the longest; if an upper bound is below the longest, the bound made content
abbrev pub trimmed : Column → ℕ → Option ℕ → ℕ
trimmed c n b = elim b [ some w ↦ elim (ltb w n) [ true ↦ content_of c w | false ↦ n ] | none ↦ n ]

unfoldable pub untargeted : Rule
untargeted t i s = some (trimmed (column t i) (longest t i) (upper t s.visible (column t i)))

-- The remaining width: target less borders, undecided paddings and decided visible full widths, never below 0
unfoldable pub charged : Column → std.Option ℕ → ℕ → ℕ
charged c w r = choose (is_hidden c) r (r - (unwrap_or w 0 + padding c))

-- the width of column i, if it is in the set
abbrev pub decided_width : State → ℕ → std.Option ℕ
decided_width s i = then_some (contains s.decided i) (get_or s.widths i 0)

abbrev pub remaining : Layout → State → ℕ
remaining t s = in_order (λ i. charged (column t i) (decided_width s i)) (length t.columns.items) (unwrap_or (room t s.visible) 0)

abbrev pub targeted : Layout → State → State
targeted t s = record { widths = s.widths; decided = s.decided; remaining = remaining t s; visible = s.visible }

-- 1. Lower bounds above the average (a) are fixed
abbrev pub raised : ℕ → Column → Option ℕ → Option ℕ
raised a c b = elim b [ some w ↦ elim (ltb a w) [ true ↦ some (content_of c w) | false ↦ none ] | none ↦ none ]

unfoldable pub lower_rule : Rule
lower_rule t i s = raised (average s) (column t i) (lower t s.visible (column t i))

abbrev pub step1 : Layout → State → State
step1 t s = repeated (pass lower_rule t) s

-- 2. An upper bound that is at most average plus padding and at most longest (n) plus padding; else the longest if at most the average
abbrev pub capped : ℕ → Column → ℕ → Option ℕ → Option ℕ
capped a c n b =
    elim b [
      | some w ↦ elim (leb w (a + padding c) && leb w (n + padding c)) [ true ↦ some (content_of c w) | false ↦ within_average n a ]
      | none ↦ within_average n a
    ]

unfoldable pub fit_rule : Rule
fit_rule t i s = capped (average s) (column t i) (longest t i) (upper t s.visible (column t i))

-- a pass begins only if the average isn't 0
abbrev pub fit_pass : Layout → State → State
fit_pass t s = turn (λ s. eqb (average s) 0) fit_rule t s

abbrev pub step2 : Layout → State → State
step2 t s = repeated (fit_pass t) s

-- 3. The longest part of the lines split at the average, if it is shorter by 3 or more
unfoldable pub split_rule : (ℕ → ℕ → ℕ) → Rule
split_rule parts t i s = shorter_by3 (parts i (average s)) (average s)

abbrev pub step3 : (ℕ → ℕ → ℕ) → Layout → State → State
step3 parts t s = repeated (pass (split_rule parts) t) s

-- how the widths came about, by the states after the first step and after steps 1 to 3
abbrev pub course_of : Layout → State → State → State → State → Course
course_of t a b c d = record {
  first = a.decided;
  lower = b.decided;
  fitted = c.decided;
  split = d.decided;
  before = d.widths;
  state = finished t d;
}

abbrev pub dynamic : (ℕ → ℕ → ℕ) → Layout → State → Course
dynamic parts t s =
    course_of t (targeted t s) (step1 t (targeted t s)) (step2 t (step1 t (targeted t s))) (step3 parts t (step2 t (step1 t (targeted t s))))

-- without a target the first step's columns are the only ones decided on the way
abbrev pub plainly : ColumnSet → State → Course
plainly first s = record { first = first; lower = first; fitted = first; split = first; before = s.widths; state = s }

abbrev pub begun : Layout → State
begun t = record { widths = replicate most_columns 0; decided = record { 0 = 0 }; remaining = 0; visible = visible t }

-- the first step, for each column
abbrev pub started : Layout → State
started t = in_order (λ i. evaluated t (column t i) i) (length t.columns.items) (begun t)

unfoldable pub arranged : (ℕ → ℕ → ℕ) → Layout → Course
arranged parts t =
    choose (is_none t.target || is_disabled t.arrangement) (plainly (started t).decided (pass untargeted t (started t)))
    (dynamic parts t (started t))
