-- Content widths of an accepted sheet's table stay small, so that every sum of them fits its type. Assumes nothing.
use Prim.Native.Nat.{ℕ, zero, suc, ◌+◌, ◌-◌, ◌*◌, ◌/◌, ◌%◌, ◌≤◌, min, max}
use mathlib.Core.Path.{◌≡◌, refl}
use mathlib.Core.Logic.{inl}
use mathlib.Core.List.{List, [], ◌∷◌, map}
use mathlib.Core.Bool.{Bool, true, false, ◌||◌, ◌&&◌}
use mathlib.Core.Option.{Option, none, some}
use native.Mathlib.Nat.{mul-le-mul_left, div-le_self, div-le_of_le-mul}
use native.Mathlib.Omega.{arith}
use lib.ListN.{length, get_or, take, set}
use lib.Dec.{eqb, ltb, leb}
use borrow.Author.Tests.{eqb-true, leb-true}
use Rattle.rules.specs.Text.{text_width, greatest, or_else, keep, All}
use Rattle.rules.specs.Sheet.{Cell, Row, Table, column_at, cell_at, no_cell, no_column, all_rows, padding, is_hidden}
use Rattle.rules.specs.declared.Width.{Width}
use Rattle.rules.specs.declared.Column.{Column}
use Rattle.rules.specs.Limits.{WidthLimits, ColumnLimits, LineLimits, CellLimits, RowLimits, TableLimits}
use Rattle.rules.specs.Widths.{State, Rule, cells_of, cell_longest, longest, numbers, visible, borders, percent_of, width_of, value_of, lower_width}
use Rattle.rules.specs.Widths.{upper_width, absolute_width, lower, upper, absolute, covering, evaluate, noted, first, below_longest, untargeted, zeros, undecided}
use Rattle.rules.specs.Widths.{average, average_is_some, is_undecided, start, fix, fix_at, visit, pass, run, above_average, within_average, at_upper}
use Rattle.rules.specs.Widths.{fitting_average, longest_part, shorter_by3, split_at_average, run1, run2, run3, step1, step2, step3, share, shared, widened, step4, contents}
use Rattle.rules.specs.Widths.{lifted, content_of}
use Rattle.laws.proofs.Cases.{one_if-le}
use Rattle.laws.proofs.Text.{width-nil, width-le}
use Rattle.laws.proofs.Runs.{run-keeps}
use Rattle.laws.proofs.Settled.{zeros-le}
use Rattle.laws.proofs.Contents.{length_steps}
use Rattle.laws.proofs.Lists.{all_map, all_default, all_imp, all_append}

-- a width that is offered, if one is
abbrev pub Offered : (ℕ → Type 0) → Option ℕ → Type 0
Offered P (some w) = P w
Offered P none = Unit {0}

abbrev pub Most : ℕ → ℕ → Type 0
Most m w = w ≤ m

-- none above m, so the greatest isn't
pub greatest-le : (m : ℕ) (ns : List ℕ) → All (Most m) ns → greatest ns ≤ m
unfolding greatest
greatest-le m [] h = omega arith
greatest-le m (n ∷ ns) h = omega (arith, greatest-le m ns h.1, h.0)

all_set : (P : ℕ → Type 0) (l : List ℕ) (j v : ℕ) → P v → All P l → All P (set l j v)
all_set P [] j v h k = tt
all_set P (x ∷ xs) zero v h k = (h, k.1)
all_set P (x ∷ xs) (suc j) v h k = (k.0, all_set P xs j v h k.1)

line_200 : (ls : List (List ℕ)) → All LineLimits ls → All (Most 200) (map text_width ls)
line_200 [] h = tt
line_200 (l ∷ ls) h = (omega (arith, width-le l, h.0.length), line_200 ls h.1)

cell_200 : (x : Cell) → CellLimits x → cell_longest x ≤ 200
unfolding cell_longest
cell_200 x h = omega (arith, greatest-le 200 (map text_width x.lines) (line_200 x.lines h.texts))

blank_200 : cell_longest no_cell ≤ 200
unfolding cell_longest greatest
blank_200 = omega (arith, width-nil)

cell-at_200 : (n : ℕ) (r : Row) (j : ℕ) → RowLimits n r → cell_longest (cell_at r j) ≤ 200
cell-at_200 n r j h = all_default (λ x. cell_longest x ≤ 200) r.cells j no_cell blank_200
    (all_imp CellLimits (λ x. cell_longest x ≤ 200) cell_200 r.cells h.each)

cells_200 : (n j : ℕ) (rs : List Row) → All (RowLimits n) rs → All (Most 200) (map cell_longest (cells_of j rs))
unfolding cells_of
cells_200 n j [] h = tt
cells_200 n j (r ∷ rs) h = go (ltb j (length r.cells)) (cells_200 n j rs h.1)
  where
    go : (b : Bool) → All (Most 200) (map cell_longest (cells_of j rs))
        → All (Most 200) (map cell_longest (elim b as (λ x. List Cell) [ true ↦ cell_at r j ∷ cells_of j rs | false ↦ cells_of j rs ]))
    go true i = (cell-at_200 n r j h.0, i)
    go false i = i

-- a cell, a height limit or a width over its limit is refused, so
module _ (t : Table) (T : TableLimits t) where
  -- no longest exceeds a line's limit
  pub longest_200 : (j : ℕ) → longest t j ≤ 200
  unfolding longest
  longest_200 j =
      greatest-le 200 (map cell_longest (cells_of j (all_rows t)))
      (cells_200 (length t.columns) j (all_rows t) (all_append (RowLimits (length t.columns)) t.header t.rows T.header_row
      T.each_row))

  percent_400 : (p : ℕ) → Offered (Most 400) (percent_of t p)
  unfolding percent_of
  percent_400 p = go (eqb t.target 0)
    where
      go : (b : Bool) → Offered (Most 400) (elim b as (λ x. Option ℕ) [ true ↦ none | false ↦ some ((t.target - borders t) * min 100 p / 100) ])
      go true = tt
      go false =
          let m : (t.target - borders t) * min 100 p ≤ (t.target - borders t) * 100 = mul-le-mul_left (t.target - borders t) (omega arith) in
          let d : (t.target - borders t) * min 100 p / 100 ≤ t.target - borders t = div-le_of_le-mul 100 (omega arith) in
          omega (arith, T.target)

  -- a constraint's width, fixed or percent
  width_400 : (b : Bool) (w : Width) → WidthLimits b w → Offered (Most 400) (width_of t w)
  unfolding width_of
  width_400 b w h = go (eqb w.unit 0) refl
    where
      go : (x : Bool) → eqb w.unit 0 ≡ x → Offered (Most 400) (elim x as (λ x. Option ℕ)
          [ true ↦ some w.value | false ↦ percent_of t w.value ])
      go true e = h.fixed (eqb-true w.unit 0 e)
      go false e = percent_400 w.value

  column_limits : (j : ℕ) → ColumnLimits (column_at t j)
  column_limits j = all_default ColumnLimits t.columns j no_column no_limits T.each_column
    where
      no-width : (b : Bool) → WidthLimits b (record { unit = 0; value = 0 })
      no-width b = record { unit = omega arith; fixed = λ e. omega arith; percent = omega arith; unused = λ e. (refl, refl) }

      no_limits : ColumnLimits no_column
      no_limits = record {
        left = omega arith;
        right = omega arith;
        delimiter = inl refl;
        alignment = omega arith;
        constraint = omega arith;
        first = no-width _;
        second = no-width _;
      }

  -- every bound
  pub first_400 : (j : ℕ) → Offered (Most 400) (width_of t (column_at t j).first)
  first_400 j = width_400 _ (column_at t j).first (column_limits j).first

  pub second_400 : (j : ℕ) → Offered (Most 400) (width_of t (column_at t j).second)
  second_400 j = width_400 _ (column_at t j).second (column_limits j).second

  pub lower_400 : (j : ℕ) → Offered (Most 400) (lower t (column_at t j))
  unfolding lower lower_width value_of
  lower_400 j = go (eqb (column_at t j).constraint 4 || eqb (column_at t j).constraint 6)
    where
      go : (b : Bool) → Offered (Most 400) (value_of t (elim b as (λ x. Option Width) [ true ↦ some (column_at t j).first | false ↦ none ]))
      go true = first_400 j
      go false = tt

  pub upper_400 : (j : ℕ) → Offered (Most 400) (upper t (column_at t j))
  unfolding upper upper_width value_of
  upper_400 j = go (eqb (column_at t j).constraint 5) (eqb (column_at t j).constraint 6)
    where
      go : (b c : Bool) → Offered (Most 400)
          (value_of t (elim b as (λ x. Option Width) [
            | true ↦ some (column_at t j).first
            | false ↦ elim c as (λ x. Option Width)
                [ true ↦ some (column_at t j).second | false ↦ none ]
          ]))
      go true c = first_400 j
      go false true = second_400 j
      go false false = tt

  pub absolute_400 : (j : ℕ) → Offered (Most 400) (absolute t (column_at t j))
  unfolding absolute absolute_width value_of
  absolute_400 j = go (eqb (column_at t j).constraint 3)
    where
      go : (b : Bool) → Offered (Most 400) (value_of t (elim b as (λ x. Option Width) [ true ↦ some (column_at t j).first | false ↦ none ]))
      go true = first_400 j
      go false = tt

  covering_400 : (c : Column) (l b : ℕ) → b ≤ 400 → Offered (Most 400) (covering c l b)
  unfolding covering
  covering_400 c l b h = go (leb (l + padding c) b)
    where
      go : (x : Bool) → Offered (Most 400) (elim x as (λ x. Option ℕ) [ true ↦ some (content_of c b) | false ↦ none ])
      go true = omega arith
      go false = tt

  -- the first step
  evaluate_400 : (j : ℕ) → Offered (Most 400) (evaluate t j)
  unfolding evaluate
  evaluate_400 j = go (is_hidden (column_at t j) || eqb (column_at t j).constraint 2) (absolute t (column_at t j)) (absolute_400 j)
      (lower t (column_at t j)) (lower_400 j)
    where
      go : (b : Bool) (o : Option ℕ) → Offered (Most 400) o → (p : Option ℕ) → Offered (Most 400) p
          → Offered (Most 400) (elim b as (λ x. Option ℕ) [
            | true ↦ some (longest t j)
            | false ↦ elim o as (λ x. Option ℕ) [
              | some w ↦ some (content_of (column_at t j) w)
              | none ↦ elim p as (λ x. Option ℕ) [ some b ↦ covering (column_at t j) (longest t j) b | none ↦ none ]
            ]
          ])
      go true o h p k = omega (arith, longest_200 j)
      go false (some w) h p k = omega arith
      go false none h (some b) k = covering_400 (column_at t j) (longest t j) b k
      go false none h none k = tt

  noted_400 : (o : Option ℕ) → Offered (Most 400) o → noted o ≤ 400
  unfolding noted
  noted_400 (some w) h = omega arith
  noted_400 none h = omega arith

  pub first-step_400 : (j : ℕ) → first t j ≤ 400
  unfolding first
  first-step_400 j = noted_400 (evaluate t j) (evaluate_400 j)

  below_400 : (j : ℕ) → Offered (Most 400) (below_longest t j)
  unfolding below_longest
  below_400 j = go (upper t (column_at t j)) (upper_400 j)
    where
      inner : (b : ℕ) → b ≤ 400 → (x : Bool) → Offered (Most 400) (elim x as (λ x. Option ℕ) [ true ↦ some (content_of (column_at t j) b) | false ↦ none ])
      inner b h true = omega arith
      inner b h false = tt

      go : (o : Option ℕ) → Offered (Most 400) o
          → Offered (Most 400) (elim o as (λ x. Option ℕ) [
            | some b ↦ elim (ltb b (longest t j)) [ true ↦ some (content_of (column_at t j) b) | false ↦ none ]
            | none ↦ none
          ])
      go (some b) h = inner b h (ltb b (longest t j))
      go none h = tt

  pub untargeted_400 : (j : ℕ) → untargeted t j ≤ 400
  unfolding untargeted
  untargeted_400 j = go (below_longest t j) (below_400 j)
    where
      go : (o : Option ℕ) → Offered (Most 400) o → elim o as (λ x. ℕ) [ some w ↦ w | none ↦ lifted (longest t j) ] ≤ 400
      go (some w) h = h
      go none h = omega (arith, longest_200 j)

-- before the remainder is shared, no content width and no remaining width exceeds 400
pub record Small (s : State) : Type 0 where
  pub widths : All (Most 400) s.widths
  pub remaining : s.remaining ≤ 400

-- a rule that offers at most 400 where the average is at most that
abbrev pub SmallRule : Rule → Type 0
SmallRule rule = (j a : ℕ) → a ≤ 400 → Offered (Most 400) (rule j a)

small-fix_at : (j : ℕ) (o : Option ℕ) (s : State) → Offered (Most 400) o → Small s → Small (fix_at j o s)
unfolding fix_at fix
small-fix_at j (some w) s h k = record {
  widths = all_set (Most 400) s.widths j (lifted w) (omega arith) k.widths;
  remaining = omega
      (arith, k.remaining);
}
small-fix_at j none s h k = k

pub average-le : (s : State) → average s ≤ s.remaining
average-le s = div-le_self s.remaining (undecided s)

small-visit : (rule : Rule) → SmallRule rule → (j : ℕ) (s : State) → Small s → Small (visit rule j s)
unfolding visit
small-visit rule h j s k = go (is_undecided s j)
  where
    go : (b : Bool) → Small (elim b as (λ x. State) [ true ↦ fix_at j (rule j (average s)) s | false ↦ s ])
    go true = small-fix_at j (rule j (average s)) s (h j (average s) (omega (arith, average-le s, k.remaining))) k
    go false = k

pub small-pass : (rule : Rule) → SmallRule rule → (n : ℕ) (s : State) → Small s → Small (pass rule n s)
unfolding pass
small-pass rule h zero s k = k
small-pass rule h (suc n) s k = small-visit rule h n (pass rule n s) (small-pass rule h n s k)

pub small-run : (begins : State → Bool) (rule : Rule) → SmallRule rule → (n fuel : ℕ) (s : State) → Small s → Small (run begins rule n fuel s).left
small-run begins rule h n fuel s k = run-keeps rule n Small (λ u m. small-pass rule h n u m) begins fuel s k

within_400 : (l a : ℕ) → l ≤ 400 → Offered (Most 400) (within_average l a)
unfolding within_average
within_400 l a h = go (leb l a)
  where
    go : (b : Bool) → Offered (Most 400) (elim b as (λ x. Option ℕ) [ true ↦ some l | false ↦ none ])
    go true = h
    go false = tt

-- shares: at most the amount and one
share-le : (amount n k : ℕ) → share amount n k ≤ amount + 1
unfolding share
share-le amount n k = omega (arith, div-le_self amount n, one_if-le (ltb k (amount % n)))

or_else-le : (m a b : ℕ) → a ≤ m → b ≤ m → or_else a b ≤ m
or_else-le m zero b h k = k
or_else-le m (suc a) b h k = h

all-numbers : (m : ℕ) (f : ℕ → ℕ) → ((j : ℕ) → f j ≤ m) → (ns : List ℕ) → All (Most m) (map f ns)
all-numbers m f h ns = all_map (Most m) f h ns

module _ (t : Table) (T : TableLimits t) where
  above_400 : SmallRule (above_average t)
  unfolding above_average
  above_400 j a h = go (lower t (column_at t j)) (lower_400 t T j)
    where
      inner : (b : ℕ) → b ≤ 400 → (x : Bool) → Offered (Most 400) (elim x as (λ x. Option ℕ)
          [ true ↦ some (content_of (column_at t j) b) | false ↦ none ])
      inner b k true = omega arith
      inner b k false = tt

      go : (o : Option ℕ) → Offered (Most 400) o → Offered (Most 400)
          (elim o as (λ x. Option ℕ) [ some b ↦ elim (ltb a b) [ true ↦ some (content_of (column_at t j) b) | false ↦ none ] | none ↦ none ])
      go (some b) k = inner b k (ltb a b)
      go none k = tt

  upper-bound_400 : SmallRule (at_upper t)
  unfolding at_upper
  upper-bound_400 j a h = go (upper t (column_at t j)) (upper_400 t T j)
    where
      inner : (b : ℕ) → b ≤ 400 → (x : Bool) → Offered (Most 400) (elim x as (λ x. Option ℕ) [ true ↦ some (content_of (column_at t j) b) | false ↦ none ])
      inner b k true = omega arith
      inner b k false = tt

      go : (o : Option ℕ) → Offered (Most 400) o → Offered (Most 400) (elim o as (λ x. Option ℕ) [
        | some b ↦ elim (leb b (a + padding (column_at t j)) && leb b (longest t j + padding (column_at t j))) [
          | true ↦ some (content_of (column_at t j) b)
          | false ↦ none
        ]
        | none ↦ none
      ])
      go (some b) k = inner b k (leb b (a + padding (column_at t j)) && leb b (longest t j + padding (column_at t j)))
      go none k = tt

  fitting_400 : SmallRule (fitting_average t)
  unfolding fitting_average
  fitting_400 j a h = go (at_upper t j a) (upper-bound_400 j a h)
    where
      go : (o : Option ℕ) → Offered (Most 400) o → Offered (Most 400) (elim o as (λ x. Option ℕ) [ some w ↦ some w | none ↦ within_average (longest t j) a ])
      go (some w) k = k
      go none k = within_400 (longest t j) a (omega (arith, longest_200 t T j))

  splitting_400 : SmallRule (split_at_average t)
  unfolding split_at_average shorter_by3
  splitting_400 j a h = go (leb (longest_part t j a + 3) a) refl
    where
      go : (b : Bool) → leb (longest_part t j a + 3) a ≡ b → Offered (Most 400)
          (elim b as (λ x. Option ℕ) [ true ↦ some (longest_part t j a) | false ↦ none ])
      go true e = omega (arith, leb-true (longest_part t j a + 3) a e)
      go false e = tt

  pub small-start : Small (start t)
  unfolding start
  small-start = record { widths = all-numbers 400 (first t) (first-step_400 t T) (numbers t); remaining = omega (arith, T.target) }

  pub small-step1 : (s : State) → Small s → Small (step1 t s)
  unfolding step1 run1
  small-step1 s k = small-run (λ s. true) (above_average t) above_400 (length t.columns) (suc (length t.columns)) s k

  pub small-step2 : (s : State) → Small s → Small (step2 t s)
  unfolding step2 run2
  small-step2 s k = small-run average_is_some (fitting_average t) fitting_400 (length t.columns) (suc (length t.columns)) s k

  pub small-step3 : (s : State) → Small s → Small (step3 t s)
  unfolding step3 run3
  small-step3 s k = small-run (λ s. true) (split_at_average t) splitting_400 (length t.columns) (suc (length t.columns)) s k

  shared_801 : (s : State) → Small s → undecided s ≤ 400 → (j : ℕ) → shared s j ≤ 801
  unfolding shared
  shared_801 s k u j =
      let w : get_or s.widths j 0 ≤ 400 = all_default (Most 400) s.widths j 0 (omega arith) k.widths in
      or_else-le 801 (get_or s.widths j 0) _ (omega arith)
      (omega (arith, share-le (max (undecided s) s.remaining) (undecided s) (zeros (take j s.widths)), k.remaining))

  widened_801 : (s : State) → Small s → (j : ℕ) → widened t s j ≤ 801
  unfolding widened
  widened_801 s k j = go (is_hidden (column_at t j))
    where
      w : get_or s.widths j 0 ≤ 400
      w = all_default (Most 400) s.widths j 0 (omega arith) k.widths

      go : (b : Bool) → elim b as (λ x. ℕ) [
        | true ↦ get_or s.widths j 0
        | false ↦ get_or s.widths j 0 + share s.remaining (length (visible t))
            (length (keep (λ i. ltb i j) (visible t)))
      ] ≤ 801
      go true = omega (arith, w)
      go false = omega (arith, w, share-le s.remaining (length (visible t)) (length (keep (λ i. ltb i j) (visible t))), k.remaining)

  step4_801 : (s : State) → Small s → undecided s ≤ 400 → All (Most 801) (step4 t s)
  unfolding step4
  step4_801 s k u = go (eqb (undecided s) 0) (eqb t.arrangement 2)
    where
      go : (b c : Bool) → All (Most 801) (elim b as (λ x. List ℕ) [
        | false ↦ map (shared s) (numbers t)
        | true ↦ elim c as (λ x. List ℕ)
            [ true ↦ map (widened t s) (numbers t) | false ↦ s.widths ]
      ])
      go false c = all-numbers 801 (shared s) (shared_801 s k u) (numbers t)
      go true true = all-numbers 801 (widened t s) (widened_801 s k) (numbers t)
      go true false = all_imp (Most 400) (Most 801) (λ w h. omega arith) s.widths k.widths

  -- every content width: a share of the target, at most 401, beside a width of at most 400
  pub contents_801 : All (Most 801) (contents t)
  unfolding contents
  contents_801 = go (eqb t.target 0 || eqb t.arrangement 0)
    where
      s3 : State
      s3 = step3 t (step2 t (step1 t (start t)))

      k3 : Small s3
      k3 = small-step3 (step2 t (step1 t (start t))) (small-step2 (step1 t (start t)) (small-step1 (start t) small-start))

      u3 : undecided s3 ≤ 400
      u3 = omega (arith, zeros-le s3.widths, length_steps t, T.columns)

      go : (b : Bool) → All (Most 801) (elim b as (λ x. List ℕ) [
        | true ↦ map (λ j. or_else (first t j) (untargeted t j)) (numbers t)
        | false ↦ step4 t
            (step3 t (step2 t (step1 t (start t))))
      ])
      go true = all-numbers 801 (λ j. or_else (first t j) (untargeted t j))
          (λ j. or_else-le 801 (first t j) (untargeted t j) (omega (arith, first-step_400 t T j)) (omega (arith, untargeted_400 t T j))) (numbers t)
      go false = step4_801 s3 k3 u3
