-- Bounds and offers of a layout are those of the table that it describes. Assumes nothing.
use Prim.Native.Nat.{ℕ, zero, suc, ◌+◌, ◌-◌, ◌*◌, ◌/◌, ◌≤◌, ◌<◌, min}
use mathlib.Core.Path.{◌≡◌, refl, sym, ap, ◌∙◌}
use mathlib.Core.Bool.{Bool, true, false, not, ◌||◌, ◌&&◌, cond}
use mathlib.Core.List.{List}
use mathlib.Core.Option.{Option, none, some}
use native.Mathlib.Omega.{arith}
use lib.ListN.{length, get_or, length-append}
use lib.Dec.{eqb, leb}
use borrow.Author.Tests.{eqb-true, eqb-false, ne_eqb}
use Rattle.std.specs.Prelude as std
use Rattle.std.specs.Prelude.{Some, None, option_map, unwrap_or}
use Rattle.style.specs.Table.{target_of}
use Rattle.style.proofs.Laws.{other}
use Rattle.rules.specs.Text.{up_from, keep}
use Rattle.rules.specs.declared.Width.{Width}
use Rattle.rules.specs.declared.Column.{Column}
use Rattle.rules.specs.Sheet.{Table, most_columns, no_column, column_at, padding, is_hidden}
use Rattle.rules.specs.Limits.{TableLimits}
use Rattle.rules.specs.Style.{any_left, any_right, any_junction, borders_of}
use Rattle.rules.specs.Widths as doc
use Rattle.rules.specs.Widths.{content_of, percent_of, width_of, value_of, lower_width, upper_width, absolute_width, covering, evaluate, above_average}
use Rattle.rules.specs.Widths.{within_average, at_upper, fitting_average, split_at_average, longest_part}
use Rattle.laws.proofs.Lists.{keep_yes, keep_no}
use Rattle.laws.proofs.Cases.{one_if-cond}
use Rattle.style.specs.Column as style
use Rattle.style.specs.declared.column.Width as form
use Rattle.style.specs.declared.column.Width.TheVariants.{Fixed, Percentage}
use Rattle.constraint.specs.declared.Layout.{Layout}
use Rattle.constraint.specs.declared.State.{State}
use Rattle.constraint.specs.Widths.{choose, in_order, column, longest, counting, visible, borders, room, percent_in, value, valued, lower, upper, average, Rule}
use Rattle.constraint.specs.Widths.{absolute, covered, first, first_of}
use Rattle.arrangement.specs.Arrange.{trimmed, untargeted, lower_rule, capped, fit_rule, split_rule}
use Rattle.arrangement.specs.Describes.{Describes}

-- a column isn't hidden
abbrev pub shown : Table → ℕ → Bool
shown t j = not (is_hidden (column_at t j))

choose-cond : (a x : Bool) (n : ℕ) → a ≡ x → choose a n 0 ≡ cond x n 0
choose-cond true x n e = rw (← e)
choose-cond false x n e = rw (← e)

module _ (l : Layout) (t : Table) (d : Describes l t) where
  pub count_as : length l.columns.items ≡ length t.columns
  count_as = ap (λ (cs : List Column). length cs) d.columns

  -- no more columns than there can be
  pub few_as : TableLimits t → length l.columns.items ≤ most_columns
  few_as limits = omega (arith, count_as, limits.columns)

  pub column_as : (j : ℕ) → column l j ≡ column_at t j
  column_as j = ap (λ (cs : List Column). get_or cs j no_column) d.columns

  pub longest_as : (j : ℕ) → j < length l.columns.items → longest l j ≡ doc.longest t j
  longest_as j h = d.longest j (omega (arith, count_as))

  pub hidden_as : (j : ℕ) → is_hidden (column l j) ≡ is_hidden (column_at t j)
  hidden_as j = ap is_hidden (column_as j)

  -- the visible ones of the first n columns
  pub visible_below : (n : ℕ) → n ≤ length l.columns.items → in_order (counting l) n 0 ≡ length (keep (shown t) (up_from 0 n))
  unfolding in_order keep up_from
  visible_below zero h = refl
  visible_below (suc n) h = go (is_hidden (column_at t n)) refl (visible_below n (omega arith))
    where
      go : (b : Bool) → is_hidden (column_at t n) ≡ b → in_order (counting l) n 0 ≡ length (keep (shown t) (up_from 0 n))
          → counting l n (in_order (counting l) n 0) ≡ length (keep (shown t) (up_from 0 (suc n)))
      go true e i = rw (hidden_as n, e, keep_no (shown t) n (ap not e)) i
      go false e i = rw (hidden_as n, e, keep_yes (shown t) n (ap not e), length-append) (omega arith)

  pub visible_as : visible l ≡ length (doc.visible t)
  unfolding visible doc.visible doc.numbers
  visible_as = visible_below (length l.columns.items) (omega arith) ∙ ap (λ (n : ℕ). length (keep (shown t) (up_from 0 n))) count_as

  borders_as : (v : ℕ) → borders l v ≡ borders_of t.style v
  unfolding borders_of
  borders_as v =
      let a = choose-cond l.left (any_left t.style) 1 d.left ∙ one_if-cond (any_left t.style) in
      let b = choose-cond l.right (any_right t.style) 1 d.right ∙ one_if-cond (any_right t.style) in
      let c = choose-cond l.junction (any_junction t.style) (v - 1) d.junction in
      cc

  module _ (v : ℕ) (m : v ≡ length (doc.visible t)) where
    borders_here : borders l v ≡ doc.borders t
    unfolding doc.borders
    borders_here = borders_as v ∙ ap (borders_of t.style) m

    -- by whether there is a target
    in-room : (P : std.Option ℕ → Type 0) → (t.target ≡ 0 → P None) → ((t.target ≡ 0 → ⊥) → P (Some (t.target - doc.borders t))) → P (room l v)
    unfolding target_of
    in-room P f g = rw (d.target, borders_here) (go (eqb t.target 0) refl)
      where
        go : (b : Bool) → eqb t.target 0 ≡ b
            → P (option_map (λ w. w - doc.borders t) (elim b as (λ x. std.Option ℕ) [ true ↦ None | false ↦ Some t.target ]))
        go true e = f (eqb-true t.target 0 e)
        go false e = g (eqb-false t.target 0 e)

    pub room_as : unwrap_or (room l v) 0 ≡ t.target - doc.borders t
    room_as = in-room (λ o. unwrap_or o 0 ≡ t.target - doc.borders t) (λ e. omega arith) (λ n. refl)

    value_as : (w : Width) → value l v (style.width_of w) ≡ width_of t w
    unfolding style.width_of width_of percent_of
    value_as w = go (eqb w.unit 0)
      where
        p : percent_in (room l v) w.value
            ≡ elim (eqb t.target 0) as (λ x. Option ℕ) [ true ↦ none | false ↦ some ((t.target - doc.borders t) * min 100 w.value / 100) ]
        p =
            in-room (λ o. percent_in o w.value
            ≡ elim (eqb t.target 0) as (λ x. Option ℕ) [ true ↦ none | false ↦ some ((t.target - doc.borders t) * min 100 w.value / 100) ])
            (λ e. rw e)
            (λ n. (let a : min w.value 100 ≡ min 100 w.value = omega arith in
            other (eqb t.target 0) none _ (ne_eqb t.target 0 n) (ap (λ (k : ℕ). some ((t.target - doc.borders t) * k / 100)) a)))

        go : (x : Bool) → value l v (elim x as (λ b. form.Width) [ true ↦ Fixed w.value | false ↦ Percentage w.value ])
            ≡ elim x as (λ x. Option ℕ) [
              | true ↦ some w.value
              | false ↦ elim (eqb t.target 0) as (λ x. Option ℕ) [ true ↦ none | false ↦ some ((t.target - doc.borders t) * min 100 w.value / 100) ]
            ]
        go true = refl
        go false = p

    valued_as : (o : Option Width) → valued l v o ≡ value_of t o
    unfolding value_of
    valued_as none = refl
    valued_as (some w) = value_as w

    lower_as : (c : Column) → lower l v c ≡ doc.lower t c
    unfolding lower doc.lower
    lower_as c = valued_as (lower_width c)

    pub upper_as : (c : Column) → upper l v c ≡ doc.upper t c
    unfolding upper doc.upper
    upper_as c = valued_as (upper_width c)

    -- `Absolute` has no lower bound, and only it has a width of its own
    absolute_alone : (c : Column) → eqb c.constraint 3 ≡ true → (doc.absolute t c ≡ value l v (style.width_of c.first)) × (doc.lower t c ≡ none)
    unfolding doc.absolute absolute_width doc.lower lower_width value_of
    absolute_alone c e = let k = eqb-true c.constraint 3 e in (rw k (sym (value_as c.first)), rw k)

    not-absolute : (c : Column) → eqb c.constraint 3 ≡ false → doc.absolute t c ≡ none
    unfolding doc.absolute absolute_width value_of
    not-absolute c e = rw (e, absolute_width)

    -- the first step's offer, by the bounds
    evaluated : Column → ℕ → Option ℕ → Option ℕ → Option ℕ
    evaluated c n a b = elim a [ some w ↦ some (content_of c w) | none ↦ elim b [ some w ↦ covering c n w | none ↦ none ] ]

    first-offered : (c : Column) (n : ℕ) → is_hidden c ≡ false
        → choose (eqb c.constraint 2) (some n) (choose (eqb c.constraint 3) (absolute c (value l v (style.width_of c.first))) (covered c n (lower l v c)))
        ≡ elim (is_hidden c || eqb c.constraint 2) as (λ x. Option ℕ) [ true ↦ some n | false ↦ evaluated c n (doc.absolute t c) (doc.lower t c) ]
    unfolding evaluated
    first-offered c n h = rw h (go (eqb c.constraint 2) (eqb c.constraint 3) refl)
      where
        set : (o : Option ℕ) → absolute c o ≡ evaluated c n o none
        set none = refl
        set (some w) = refl

        unset : (o : Option ℕ) → covered c n o ≡ evaluated c n none o
        unset none = refl
        unset (some w) = refl

        go : (x y : Bool) → eqb c.constraint 3 ≡ y
            → choose x (some n) (choose y (absolute c (value l v (style.width_of c.first))) (covered c n (lower l v c)))
            ≡ elim x as (λ x. Option ℕ) [ true ↦ some n | false ↦ evaluated c n (doc.absolute t c) (doc.lower t c) ]
        go true y e = refl
        go false true e = let k = absolute_alone c e in rw (k.0, k.1) (set (value l v (style.width_of c.first)))
        go false false e = rw (not-absolute c e, lower_as c) (unset (doc.lower t c))

  -- the first step's offer to a visible column
  pub first_as : (i : ℕ) (s : State) → i < length l.columns.items → s.visible ≡ length (doc.visible t) → is_hidden (column_at t i) ≡ false → first l i s ≡ evaluate t i
  unfolding first_of evaluate evaluated
  first_as i s h m e = rw (column_as i, longest_as i h) (first-offered s.visible m (column_at t i) (doc.longest t i) e)

  -- a rule offers what the definitions' rule does by the average
  abbrev pub SameRule : Rule → doc.Rule → Type 0
  SameRule rule r = (i : ℕ) (s : State) → i < length l.columns.items → s.visible ≡ length (doc.visible t) → rule l i s ≡ r i (average s)

  pub lower-same : SameRule lower_rule (above_average t)
  unfolding lower_rule above_average
  lower-same i s h m = rw (column_as i, lower_as s.visible m (column_at t i))

  -- an upper bound, else the longest
  capped_as : (i a : ℕ) → capped a (column_at t i) (doc.longest t i) (doc.upper t (column_at t i)) ≡ fitting_average t i a
  unfolding fitting_average at_upper
  capped_as i a = go (doc.upper t (column_at t i))
    where
      else : Option ℕ → Option ℕ
      else o = elim o as (λ x. Option ℕ) [ some w ↦ some w | none ↦ within_average (doc.longest t i) a ]

      inner : (b : ℕ) (x : Bool) → elim x as (λ x. Option ℕ) [ true ↦ some (content_of (column_at t i) b) | false ↦ within_average (doc.longest t i) a ]
          ≡ else (elim x as (λ x. Option ℕ) [ true ↦ some (content_of (column_at t i) b) | false ↦ none ])
      inner b true = refl
      inner b false = refl

      go : (o : Option ℕ) → capped a (column_at t i) (doc.longest t i) o
          ≡ else (elim o as (λ x. Option ℕ) [
            | some b ↦ elim (leb b (a + padding (column_at t i)) && leb b (doc.longest t i + padding (column_at t i))) [
              | true ↦ some (content_of (column_at t i) b)
              | false ↦ none
            ]
            | none ↦ none
          ])
      go (some b) = inner b (leb b (a + padding (column_at t i)) && leb b (doc.longest t i + padding (column_at t i)))
      go none = refl

  pub fit_same : SameRule fit_rule (fitting_average t)
  unfolding fit_rule
  fit_same i s h m = rw (column_as i, longest_as i h, upper_as s.visible m (column_at t i)) (capped_as i (average s))

  pub split-same : (parts : ℕ → ℕ → ℕ) → ((j a : ℕ) → j < length l.columns.items → parts j a ≡ longest_part t j a) → SameRule (split_rule parts) (split_at_average t)
  unfolding split_rule split_at_average
  split-same parts p i s h m = rw (p i (average s) h)

  -- a column without a target: what is offered, before 0 becomes 1
  unfoldable pub untrimmed : doc.Rule
  untrimmed j a = some (trimmed (column_at t j) (doc.longest t j) (doc.upper t (column_at t j)))

  pub untargeted-same : SameRule untargeted untrimmed
  unfolding untargeted untrimmed
  untargeted-same i s h m = rw (column_as i, longest_as i h, upper_as s.visible m (column_at t i))
