-- Widths: padding, borders, percent, bounds, the average, and fixing a column. Assumes nothing.
use Rattle.std.specs.Prelude.{ℕ, zero, suc, ◌+◌, ◌-◌, ◌*◌, ◌/◌, ◌<◌, ◌≡◌, min, Bool, true, false, Some, None, option_map, List, length, get_or, set, replicate, eqb}
use Rattle.std.specs.Prelude as std
use Rattle.std.specs.Borrow.{Bor}
use Rattle.std.proofs.Math.Option.{Option, none, some}
use Rattle.rules.specs.declared.Width as sheet
use Rattle.rules.specs.declared.Column.{Column}
use Rattle.rules.specs.Sheet.{most_columns, no_column, is_hidden}
use Rattle.rules.specs.Widths.{lifted, content_of, lower_width, upper_width, covering}
use Rattle.constraint.specs.declared.Layout.{Layout}
use Rattle.constraint.specs.declared.State.{State}
use Rattle.constraint.specs.Set.{contains, insert, len}
use Rattle.style.specs.declared.column.ConstraintWidth.{ConstraintWidth}
use Rattle.style.specs.declared.column.ContentWidth.{ContentWidth}
use Rattle.style.specs.declared.column.Width.{Width}
use Rattle.style.specs.declared.column.Width.TheVariants.{Fixed, Percentage}
use Rattle.style.specs.Column.{width_of}

abbrev pub choose : {A : Type 0} → Bool → A → A → A
choose true a b = a
choose false a b = b

-- f for each of 0 to n - 1, in order
unfoldable pub in_order : {A : Type 0} → (ℕ → A → A) → ℕ → A → A
in_order f zero x = x
in_order f (suc n) x = f n (in_order f n x)

-- column i of a layout
abbrev pub column : Layout → ℕ → Column
column t i = get_or t.columns.items i no_column

-- a closure may be called with each column's number and the column
abbrev pub Asks : Layout → (ℕ → Bor Column → Type 0) → Type 0
Asks t takes = (i : ℕ) (c : Bor Column) → i < most_columns → c.now ≡ column t i → takes i c

-- what such a closure's calls give is f of the number
abbrev pub Tells : {A : Type 0} → Layout → (ℕ → Bor Column → A → Type 0) → (ℕ → A) → Type 0
Tells {A} t gives f = (i : ℕ) (c : Bor Column) (r : A) → i < most_columns → c.now ≡ column t i → gives i c r → r ≡ f i

-- f of each column's number in its place, and a past the columns
abbrev pub by_column : {A : Type 0} → Layout → A → (ℕ → A) → List A
by_column t a f = in_order (λ i xs. set xs i (f i)) (length t.columns.items) (replicate most_columns a)

-- the longest line of column i
abbrev pub longest : Layout → ℕ → ℕ
longest t i = get_or t.longest i 0

-- one more if the column is visible
abbrev pub counting : Layout → ℕ → ℕ → ℕ
counting t i n = choose (is_hidden (column t i)) n (n + 1)

-- how many columns are visible
unfoldable pub visible : Layout → ℕ
visible t = in_order (counting t) (length t.columns.items) 0

-- borders drawn, with v visible columns
abbrev pub borders : Layout → ℕ → ℕ
borders t v = choose t.left 1 0 + choose t.right 1 0 + choose t.junction (v - 1) 0

-- percent: at most 100, of the room, rounded down
abbrev pub percent : ℕ → ℕ → ℕ
percent room p = room * min p 100 / 100

-- a bound, case by case: no width, or a constraint width
abbrev pub bound : std.Option ConstraintWidth → Option ℕ
bound None = none
bound (Some w) = some w.0

-- an offer, case by case: no width, or a content width
abbrev pub offered : std.Option ContentWidth → Option ℕ
offered None = none
offered (Some w) = some w.0

-- what the target leaves beside the borders, if there is one
abbrev pub room : Layout → ℕ → std.Option ℕ
room t v = option_map (λ w. w - borders t v) t.target

abbrev pub percent_in : std.Option ℕ → ℕ → Option ℕ
percent_in None p = none
percent_in (Some r) p = some (percent r p)

-- a width's value; a percent without a target has none
abbrev pub value : Layout → ℕ → Width → Option ℕ
value t v (Fixed n) = some n
value t v (Percentage p) = percent_in (room t v) p

-- the value of the width that a constraint has for a purpose, if it has one
abbrev pub valued : Layout → ℕ → Option sheet.Width → Option ℕ
valued t v none = none
valued t v (some w) = value t v (width_of w)

-- the bounds of a column's constraint
unfoldable pub lower : Layout → ℕ → Column → Option ℕ
lower t v c = valued t v (lower_width c)

unfoldable pub upper : Layout → ℕ → Column → Option ℕ
upper t v c = valued t v (upper_width c)

-- how many visible columns aren't in the set of decided ones
abbrev pub undecided : State → ℕ
undecided s = s.visible - len s.decided

-- what is left for each undecided column; 0 if there is none
abbrev pub average : State → ℕ
average s = s.remaining / undecided s

-- a column, which has number i, is hidden or its width is found
abbrev pub decided : Column → ℕ → State → Bool
decided c i s = choose (is_hidden c) true (contains s.decided i)

-- column i is fixed: the width offered is taken off what remains, before 0 becomes 1
abbrev pub fixed : State → ℕ → ℕ → State
fixed s i w =
    record { widths = set s.widths i (lifted w); decided = insert s.decided i; remaining = s.remaining - w; visible = s.visible }

abbrev pub taking : State → ℕ → Option ℕ → State
taking s i none = s
taking s i (some w) = fixed s i w

-- a rule offers a column a width, or none
abbrev pub Rule : Type 0
Rule = Layout → ℕ → State → Option ℕ

-- an offer is made to the undecided ones
unfoldable pub step : Rule → Layout → ℕ → State → State
step rule t i s = choose (decided (column t i) i s) s (taking s i (rule t i s))

-- the columns in order
abbrev pub pass : Rule → Layout → State → State
pass rule t s = in_order (step rule t) (length t.columns.items) s

-- First. `Absolute`: its width
abbrev pub absolute : Column → Option ℕ → Option ℕ
absolute c none = none
absolute c (some w) = some (content_of c w)

-- a lower bound may fix the column
abbrev pub covered : Column → ℕ → Option ℕ → Option ℕ
covered c n none = none
covered c n (some w) = covering c n w

-- 2 `ContentWidth` takes the longest (n), 3 is `Absolute`; v is the number of visible columns
unfoldable pub first_of : Layout → Column → ℕ → ℕ → Option ℕ
first_of t c n v =
    choose (eqb c.constraint 2) (some n)
    (choose (eqb c.constraint 3) (absolute c (value t v (width_of c.first))) (covered c n (lower t v c)))

abbrev pub first : Rule
first t i s = first_of t (column t i) (longest t i) s.visible

-- a hidden column's width is its longest; it is not in the set
abbrev pub hide : Layout → ℕ → State → State
hide t i s =
    record { widths = set s.widths i (lifted (longest t i)); decided = s.decided; remaining = s.remaining; visible = s.visible }

-- column c, which has number i
unfoldable pub evaluated : Layout → Column → ℕ → State → State
evaluated t c i s =
    choose (is_hidden c) (hide t i s) (choose (decided c i s) s (taking s i (first_of t c (longest t i) s.visible)))
