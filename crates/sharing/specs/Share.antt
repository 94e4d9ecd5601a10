-- Step 4: columns that are left share the remaining width; if none is left, visible columns share what is over. Assumes nothing.
use Rattle.std.specs.Prelude.{ℕ, ◌+◌, ◌/◌, ◌%◌, max, length, get_or, set, eqb, ltb}
use Rattle.rules.specs.Sheet.{is_hidden}
use Rattle.constraint.specs.declared.Layout.{Layout}
use Rattle.constraint.specs.declared.State.{State}
use Rattle.constraint.specs.Widths.{choose, in_order, column, undecided, decided, fixed}
use Rattle.style.specs.Table.{is_full}

-- n shared evenly by some, the first ones taking the excess: the part of number k
abbrev pub share : ℕ → ℕ → ℕ → ℕ
share n parts k = choose (ltb k (n % parts)) (n / parts + 1) (n / parts)

-- columns that share a width: the state, and how many have their part
pub record Sharing : Type 0 where
  pub state : State
  pub given : ℕ

-- 4. Undecided columns share n
unfoldable pub sharing : Layout → ℕ → ℕ → ℕ → Sharing → Sharing
sharing t n parts i x =
    choose (decided (column t i) i x.state) x
    (record { state = fixed x.state i (share n parts x.given); given = x.given + 1 })

-- remaining is raised to their number
unfoldable pub distributed : Layout → State → State
distributed t s = (in_order (sharing t (max s.remaining (undecided s)) (undecided s)) (length t.columns.items) (record { state = s; given = 0 })).state

-- the remainder is shared so among visible columns
abbrev pub widened : State → ℕ → ℕ → State
widened s i n =
    record { widths = set s.widths i (get_or s.widths i 0 + n); decided = s.decided; remaining = s.remaining; visible = s.visible }

unfoldable pub widening : Layout → ℕ → ℕ → ℕ → Sharing → Sharing
widening t n parts i x =
    choose (is_hidden (column t i)) x
    (record { state = widened x.state i (share n parts x.given); given = x.given + 1 })

unfoldable pub filled : Layout → State → State
filled t s =
    choose (eqb s.visible 0) s
    (in_order (widening t s.remaining s.visible) (length t.columns.items) (record { state = s; given = 0 })).state

-- if columns are left they share; if none is left and the arrangement is `DynamicFullWidth`, the remainder is shared
unfoldable pub finished : Layout → State → State
finished t s = choose (eqb (undecided s) 0) (choose (is_full t.arrangement) (filled t s) s) (distributed t s)
