-- The report names a step exactly if that rule fixed the column, one for each visible column; and how the width came of it. Assumes nothing.
use Prim.Native.Nat.{ℕ, ◌+◌, ◌≤◌, ◌<◌}
use mathlib.Core.Path.{◌≡◌, refl, sym, ap, ◌∙◌}
use mathlib.Core.Bool.{Bool, true, false, ◌&&◌}
use mathlib.Core.Option.{Option, none, some}
use native.Mathlib.Omega.{arith}
use lib.ListN.{length, get_or}
use lib.Dec.{eqb, leb}
use borrow.Author.Tests.{leb-true, leb-false}
use Rattle.rules.specs.Text.{up_from}
use Rattle.rules.specs.Sheet.{Table, column_at, padding, is_hidden}
use Rattle.rules.specs.Widths.{State, lifted, content_of, longest, numbers, upper, evaluate, noted, first, is_untargeted, below_longest}
use Rattle.rules.specs.Widths.{is_undecided, average, average_is_some, start, pass, above_average, within_average, at_upper, fitting_average}
use Rattle.rules.specs.Widths.{split_at_average, run1, run2, run3, step1, step2, step3, shared}
use Rattle.rules.specs.Fixing.{AtTurn, Any, Fixed, after1, after2, after3, passes1, passes2, passes3}
use Rattle.rules.specs.Fixing.{by_first, by_lower, by_upper, by_longest, by_part, by_share, by_untargeted, by_untargeted_upper}
use Rattle.rules.specs.Reasons.{step_number, untargeted_step, fitted_step, targeted_step, step_of}
use Rattle.rules.specs.declared.WidthStep.{WidthStep}
use Rattle.rules.specs.declared.WidthStep.TheVariants.{FirstConstraint, LowerBound, UpperBound, LongestWithinAverage, SplitPart, EvenShare}
use Rattle.rules.specs.declared.WidthStep.TheVariants.{UntargetedLongest, UntargetedUpper}
use Rattle.laws.proofs.Lists.{get_d_map, get_d-up_from}
use Rattle.laws.proofs.Contents.{length-numbers, length-start, length-step1, length-step2}
use Rattle.laws.proofs.Runs.{Goes, run_goes}
use Rattle.laws.proofs.Turns.{never, any_imp, any_so, noted-width, run_open, turn-first, turn-width, turn_found}

within_fits : (l a w : ℕ) → within_average l a ≡ some w → l ≤ a
unfolding within_average
within_fits l a w e = go (leb l a) refl e
  where
    go : (b : Bool) → leb l a ≡ b → elim b as (λ x. Option ℕ) [ true ↦ some l | false ↦ none ] ≡ some w → l ≤ a
    go true h k = leb-true l a h
    go false h k = let z : ◌≡◌ {A = ℕ} 0 1 = cc in absurd (omega arith)

module _ (t : Table) where
  -- the runs of steps 1 to 3
  pub goes1 : Goes (above_average t) (length t.columns) (start t) (passes1 t) (after1 t)
  unfolding run1 step1
  goes1 = run_goes (λ s. true) (above_average t) (length t.columns) _ (start t)

  pub goes2 : Goes (fitting_average t) (length t.columns) (after1 t) (passes2 t) (after2 t)
  unfolding run2 step2
  goes2 = run_goes average_is_some (fitting_average t) (length t.columns) _ (after1 t)

  pub goes3 : Goes (split_at_average t) (length t.columns) (after2 t) (passes3 t) (after3 t)
  unfolding run3 step3
  goes3 = run_goes (λ s. true) (split_at_average t) (length t.columns) _ (after2 t)

  module _ (j : ℕ) where
    -- a width, if a test holds; and the upper bound's at an average, as `at_upper` has it
    abbrev offering : Bool → ℕ → Option ℕ
    offering x w = elim x [ true ↦ some w | false ↦ none ]

    abbrev else : Option ℕ → Option ℕ → Option ℕ
    else o u = elim o [ some w ↦ some w | none ↦ u ]

    abbrev bounded : ℕ → Option ℕ → Option ℕ
    bounded a o =
        elim o [
          | some b ↦ offering (leb b (a + padding (column_at t j)) && leb b (longest t j + padding (column_at t j))) (content_of (column_at t j) b)
          | none ↦ none
        ]

    -- step 2 at an upper bound, or not
    fit-upper : (a w : ℕ) → at_upper t j a ≡ some w → fitting_average t j a ≡ some w
    unfolding fitting_average
    fit-upper a w e = rw (e, fitting_average)

    fit-longest : (a : ℕ) → at_upper t j a ≡ none → fitting_average t j a ≡ within_average (longest t j) a
    unfolding fitting_average
    fit-longest a e = rw (e, fitting_average)

    -- where the rule offers a width, it is the upper bound's exactly if it would be at an average of the longest
    upper_reached : (a w : ℕ) → fitting_average t j a ≡ some w → at_upper t j (longest t j) ≡ at_upper t j a
    unfolding fitting_average at_upper
    upper_reached a w = go (upper t (column_at t j))
      where
        p : ℕ
        p = padding (column_at t j)

        inner : (b : ℕ) (x y : Bool) → leb b (a + p) ≡ x → leb b (longest t j + p) ≡ y
            → else (offering (x && y) (content_of (column_at t j) b)) (within_average (longest t j) a) ≡ some w
            → offering (y && y) (content_of (column_at t j) b) ≡ offering (x && y) (content_of (column_at t j) b)
        inner b true true e f h = refl
        inner b true false e f h = refl
        inner b false false e f h = refl
        inner b false true e f h =
            absurd (omega (arith, leb-false b (a + p) e, leb-true b (longest t j + p) f, within_fits (longest t j) a w h))

        go : (o : Option ℕ) → else (bounded a o) (within_average (longest t j) a) ≡ some w → bounded (longest t j) o ≡ bounded a o
        go (some b) h = inner b (leb b (a + p)) (leb b (longest t j + p)) refl refl h
        go none h = refl

  module _ (j : ℕ) (l : j < length t.columns) where
    -- ---- the widths between the steps

    first_width : get_or (start t).widths j 0 ≡ noted (evaluate t j)
    unfolding start first numbers
    first_width =
        let e : get_or (up_from 0 (length t.columns)) j 0 ≡ j = get_d-up_from 0 (length t.columns) j 0 l ∙ omega arith in
        get_d_map (first t) (numbers t) j 0 0 (rw (length-numbers t) l) ∙ ap (first t) e

    pub long1 : j < length (start t).widths
    long1 = rw (length-start t) l

    pub long2 : j < length (after1 t).widths
    long2 = rw (length-step1 t (start t)) long1

    pub long3 : j < length (after2 t).widths
    long3 = rw (length-step2 t (after1 t)) long2

    pub start-fixed : (w : ℕ) → evaluate t j ≡ some w → get_or (start t).widths j 0 ≡ lifted w
    unfolding noted
    start-fixed w e = first_width ∙ ap noted e

    pub start_open : evaluate t j ≡ none → is_undecided (start t) j ≡ true
    unfolding noted
    start_open e = ap (λ (w : ℕ). eqb w 0) (first_width ∙ ap noted e)

    start_shut : (w : ℕ) → evaluate t j ≡ some w → is_undecided (start t) j ≡ false
    start_shut w e = noted-width (start t) j w (start-fixed w e)

    -- ---- the step that is named fixed the column

    first_found : is_undecided (start t) j ≡ false → (w : ℕ) × Fixed t j FirstConstraint w
    first_found d = go (evaluate t j) refl
      where
        go : (o : Option ℕ) → evaluate t j ≡ o → (w : ℕ) × Fixed t j FirstConstraint w
        go (some w) e = (w, by_first w e)
        go none e = never (sym (start_open e) ∙ d)

    first-none : is_undecided (start t) j ≡ true → evaluate t j ≡ none
    first-none d = go (evaluate t j) refl
      where
        go : (o : Option ℕ) → evaluate t j ≡ o → o ≡ none
        go (some w) e = never (sym d ∙ start_shut w e)
        go none e = refl

    untargeted_found : is_untargeted t ≡ true → evaluate t j ≡ none → (w : ℕ) × Fixed t j (untargeted_step t j) w
    unfolding untargeted_step
    untargeted_found n e = go (below_longest t j) refl
      where
        go : (o : Option ℕ) → below_longest t j ≡ o
            → (w : ℕ) × Fixed t j (elim o as (λ x. WidthStep) [ some w ↦ UntargetedUpper | none ↦ UntargetedLongest ]) w
        go (some w) f = (w, by_untargeted_upper w n e f)
        go none f = (longest t j, by_untargeted n e f)

    fitted_found : is_untargeted t ≡ false → (w : ℕ) → Any (AtTurn (fitting_average t) j (λ a. fitting_average t j a ≡ some w)) (passes2 t)
        → (v : ℕ) × Fixed t j (fitted_step t j) v
    unfolding fitted_step
    fitted_found n w m = go (at_upper t j (longest t j)) refl
      where
        at-upper : (v : ℕ) → at_upper t j (longest t j) ≡ some v → (s : State) → AtTurn (fitting_average t) j (λ a. fitting_average t j a ≡ some w) s
            → AtTurn (fitting_average t) j (λ a. at_upper t j a ≡ some v) s
        at-upper v e s p = (p.0, sym (upper_reached j (average (pass (fitting_average t) j s)) w p.1) ∙ e)

        at-longest : at_upper t j (longest t j) ≡ none → (s : State) → AtTurn (fitting_average t) j (λ a. fitting_average t j a ≡ some w) s
            → AtTurn (fitting_average t) j (λ a. (at_upper t j a ≡ none) × (within_average (longest t j) a ≡ some w)) s
        at-longest e s p =
            let a = average (pass (fitting_average t) j s) in
            let u : at_upper t j a ≡ none = sym (upper_reached j a w p.1) ∙ e in
            (p.0, (u, sym (fit-longest j a u) ∙ p.1))

        go : (o : Option ℕ) → at_upper t j (longest t j) ≡ o
            → (v : ℕ) × Fixed t j (elim o as (λ x. WidthStep) [ some w ↦ UpperBound | none ↦ LongestWithinAverage ]) v
        go (some v) e = (v, by_upper v n (any_imp _ _ (at-upper v e) (passes2 t) m))
        go none e = (w, by_longest w n (any_imp _ _ (at-longest e) (passes2 t) m))

    targeted_found : is_untargeted t ≡ false → is_undecided (start t) j ≡ true → (w : ℕ) × Fixed t j (targeted_step t j) w
    unfolding targeted_step
    targeted_found n o = go (is_undecided (after1 t) j) (is_undecided (after2 t) j) (is_undecided (after3 t) j) refl refl refl
      where
        go : (a b c : Bool) → is_undecided (after1 t) j ≡ a → is_undecided (after2 t) j ≡ b → is_undecided (after3 t) j ≡ c
            → (w : ℕ) × Fixed t j (elim a as (λ x. WidthStep) [
              | false ↦ LowerBound
              | true ↦ elim b as (λ x. WidthStep) [
                | false ↦ fitted_step t j
                | true ↦ elim c as (λ x. WidthStep) [ false ↦ SplitPart | true ↦ EvenShare ]
              ]
            ]) w
        go false b c x y z = let k = turn_found (above_average t) (length t.columns) j l goes1 o x in (k.0, by_lower k.0 n k.1)
        go true false c x y z =
            let k = turn_found (fitting_average t) (length t.columns) j l goes2 x y in
            fitted_found n k.0 k.1
        go true true false x y z = let k = turn_found (split_at_average t) (length t.columns) j l goes3 y z in (k.0, by_part k.0 n k.1)
        go true true true x y z = (shared (after3 t) j, by_share n z)

    module _ (v : is_hidden (column_at t j) ≡ false) where
      pub step_found : (w : ℕ) × Fixed t j (step_of t j) w
      unfolding step_of
      step_found = rw (v, step_of) (go (is_undecided (start t) j) (is_untargeted t) refl refl)
        where
          go : (u n : Bool) → is_undecided (start t) j ≡ u → is_untargeted t ≡ n
              → (w : ℕ) × Fixed t j (elim u as (λ x. WidthStep) [
                | false ↦ FirstConstraint
                | true ↦ elim n as (λ x. WidthStep) [ true ↦ untargeted_step t j | false ↦ targeted_step t j ]
              ]) w
          go false n u₌ n₌ = first_found u₌
          go true true u₌ n₌ = untargeted_found n₌ (first-none u₌)
          go true false u₌ n₌ = targeted_found n₌ u₌

      -- ---- and the step that fixed the column is named

      step-targeted : is_untargeted t ≡ false → is_undecided (start t) j ≡ true → step_of t j ≡ targeted_step t j
      unfolding step_of
      step-targeted n o = rw (v, o, n, step_of)

      step-untargeted : is_untargeted t ≡ true → evaluate t j ≡ none → step_of t j ≡ untargeted_step t j
      unfolding step_of
      step-untargeted n e = rw (v, start_open e, n, step_of)

      open1 : is_undecided (after1 t) j ≡ true → is_undecided (start t) j ≡ true
      open1 e = run_open (above_average t) (length t.columns) j l goes1 e

      open2 : is_undecided (after2 t) j ≡ true → is_undecided (after1 t) j ≡ true
      open2 e = run_open (fitting_average t) (length t.columns) j l goes2 e

      open3 : is_undecided (after3 t) j ≡ true → is_undecided (after2 t) j ≡ true
      open3 e = run_open (split_at_average t) (length t.columns) j l goes3 e

      -- step 2 fixed it, at a width
      pub fitted-width : (w : ℕ) → Any (AtTurn (fitting_average t) j (λ a. fitting_average t j a ≡ some w)) (passes2 t) → get_or (after2 t).widths j 0 ≡ lifted w
      fitted-width w m = turn-width (fitting_average t) (length t.columns) j l w goes2 long2 m

      step_fitted : is_untargeted t ≡ false → (w : ℕ) → Any (AtTurn (fitting_average t) j (λ a. fitting_average t j a ≡ some w)) (passes2 t)
          → step_of t j ≡ fitted_step t j
      unfolding targeted_step
      step_fitted n w m =
          let a = turn-first (fitting_average t) (length t.columns) j l (λ a. fitting_average t j a ≡ some w) goes2 m in
          step-targeted n (open1 a) ∙ rw (a, noted-width (after2 t) j w (fitted-width w m), targeted_step)

      pub upper-offered : (w : ℕ) → Any (AtTurn (fitting_average t) j (λ a. at_upper t j a ≡ some w)) (passes2 t)
          → Any (AtTurn (fitting_average t) j (λ a. fitting_average t j a ≡ some w)) (passes2 t)
      upper-offered w m = any_imp _ _ (λ s p. (p.0, fit-upper j (average (pass (fitting_average t) j s)) w p.1)) (passes2 t) m

      pub longest-offered : (w : ℕ) → Any (AtTurn (fitting_average t) j (λ a. (at_upper t j a ≡ none) × (within_average (longest t j) a ≡ some w))) (passes2 t)
          → Any (AtTurn (fitting_average t) j (λ a. fitting_average t j a ≡ some w)) (passes2 t)
      longest-offered w m = any_imp _ _ (λ s p. (p.0, fit-longest j (average (pass (fitting_average t) j s)) p.1.0 ∙ p.1.1)) (passes2 t) m

      fitted-upper : (w : ℕ) → Any (AtTurn (fitting_average t) j (λ a. at_upper t j a ≡ some w)) (passes2 t) → fitted_step t j ≡ UpperBound
      unfolding fitted_step
      fitted-upper w m =
          let e : at_upper t j (longest t j) ≡ some w = any_so _ (at_upper t j (longest t j) ≡ some w)
          (λ s p. let a = average (pass (fitting_average t) j s) in upper_reached j a w (fit-upper j a w p.1) ∙ p.1) (passes2 t) m in
          rw (e, fitted_step)

      fitted-longest : (w : ℕ) → Any (AtTurn (fitting_average t) j (λ a. (at_upper t j a ≡ none) × (within_average (longest t j) a ≡ some w))) (passes2 t)
          → fitted_step t j ≡ LongestWithinAverage
      unfolding fitted_step
      fitted-longest w m =
          let e : at_upper t j (longest t j) ≡ none = any_so _ (at_upper t j (longest t j) ≡ none)
          (λ s p. let a = average (pass (fitting_average t) j s) in upper_reached j a w (fit-longest j a p.1.0 ∙ p.1.1) ∙ p.1.0) (passes2 t) m in
          rw (e, fitted_step)

      pub step-only : (r : WidthStep) (w : ℕ) → Fixed t j r w → step_of t j ≡ r
      unfolding step_of targeted_step untargeted_step
      step-only r w (by_first x e) = rw (v, start_shut x e, step_of)
      step-only r w (by_lower x n m) =
          let o = turn-first (above_average t) (length t.columns) j l (λ a. above_average t j a ≡ some x) goes1 m in
          let d = noted-width (after1 t) j x (turn-width (above_average t) (length t.columns) j l x goes1 long1 m) in
          step-targeted n o ∙ rw (d, targeted_step)
      step-only r w (by_upper x n m) = step_fitted n x (upper-offered x m) ∙ fitted-upper x m
      step-only r w (by_longest x n m) = step_fitted n x (longest-offered x m) ∙ fitted-longest x m
      step-only r w (by_part x n m) =
          let b = turn-first (split_at_average t) (length t.columns) j l (λ a. split_at_average t j a ≡ some x) goes3 m in
          let d = noted-width (after3 t) j x (turn-width (split_at_average t) (length t.columns) j l x goes3 long3 m) in
          step-targeted n (open1 (open2 b)) ∙ rw (open2 b, b, d, targeted_step)
      step-only r w (by_share n c) = let b = open3 c in step-targeted n (open1 (open2 b)) ∙ rw (open2 b, b, c, targeted_step)
      step-only r w (by_untargeted n e f) = step-untargeted n e ∙ rw (f, untargeted_step)
      step-only r w (by_untargeted_upper x n e f) = step-untargeted n e ∙ rw (f, untargeted_step)

      -- one of the eight
      pub fixed_number : (r : WidthStep) (x : ℕ) → Fixed t j r x → (1 ≤ step_number r) × (step_number r ≤ 8)
      unfolding step_number
      fixed_number r w (by_first x e) = (omega arith, omega arith)
      fixed_number r w (by_lower x n m) = (omega arith, omega arith)
      fixed_number r w (by_upper x n m) = (omega arith, omega arith)
      fixed_number r w (by_longest x n m) = (omega arith, omega arith)
      fixed_number r w (by_part x n m) = (omega arith, omega arith)
      fixed_number r w (by_share n c) = (omega arith, omega arith)
      fixed_number r w (by_untargeted n e f) = (omega arith, omega arith)
      fixed_number r w (by_untargeted_upper x n e f) = (omega arith, omega arith)
