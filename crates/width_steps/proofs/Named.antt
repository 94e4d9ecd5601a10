-- What is told from the course of the widths is the report. Assumes nothing.
use Prim.Native.Nat.{ℕ, ◌+◌, ◌<◌}
use mathlib.Core.Path.{◌≡◌, refl, sym, ap, ◌∙◌}
use mathlib.Core.Bool.{Bool, true, false, not, ◌||◌, ◌&&◌}
use mathlib.Core.List.{List}
use mathlib.Core.Option.{Option, none, some}
use native.Mathlib.Omega.{arith}
use lib.ListN.{length, get_or}
use lib.Dec.{leb, ltb}
use borrow.Author.Tests.{le-ltb}
use Rattle.rules.specs.declared.WidthStep.{WidthStep}
use Rattle.rules.specs.declared.WidthStep.TheVariants.{FirstConstraint, LowerBound, UpperBound, LongestWithinAverage, SplitPart, EvenShare}
use Rattle.rules.specs.declared.WidthStep.TheVariants.{UntargetedLongest, UntargetedUpper}
use Rattle.rules.specs.Sheet.{Table, column_at, padding, is_hidden}
use Rattle.rules.specs.Calls.{as_array}
use Rattle.rules.specs.Widths as doc
use Rattle.rules.specs.Widths.{is_undecided, is_untargeted, below_longest, at_upper, content_of}
use Rattle.rules.specs.Fixing.{after1, after2, after3}
use Rattle.rules.specs.Reasons.{step_number, untargeted_step, fitted_step, targeted_step, step_of, is_widened, step_numbers, widened_columns}
use Rattle.laws.proofs.Explained.{explained}
use Rattle.table.specs.Held.{IsAccepted, table_of}
use Rattle.style.specs.Table.{is_disabled}
use Rattle.std.specs.Prelude.{is_none, unwrap_or}
use Rattle.style.proofs.Laws.{disabled_as, target_none, target_or}
use Rattle.constraint.specs.declared.Layout.{Layout}
use Rattle.constraint.specs.Set.{contains}
use Rattle.constraint.specs.Widths.{choose, column, longest, visible, upper}
use Rattle.arrangement.specs.declared.Widths.{Widths}
use Rattle.arrangement.specs.declared.dynamic.Course.{Course}
use Rattle.arrangement.specs.declared.Found.{Found}
use Rattle.arrangement.specs.Describes.{Describes}
use Rattle.arrangement.specs.Courses.{CourseIs, FoundIs}
use Rattle.arrangement.specs.Widths.{widths_from}
use Rattle.arrangement.proofs.Offers.{count_as, column_as, longest_as, hidden_as, visible_as, upper_as}
use Rattle.arrangement.proofs.Courses.{course_is}
use Rattle.arrangement.proofs.Arranged.{few_held}
use Rattle.arrangement.proofs.Layouts.{entries_as, widths_found}
use Rattle.width_steps.specs.declared.Report.{Report}
use Rattle.width_steps.specs.Steps.{untargeted_by, fitted_by, targeted_by, step_by, steps_by, widened_by, widened_all_by, report_of}

-- ---- the upper bound or the longest

untargeted-step : (t : Table) (j : ℕ) → untargeted_by (doc.longest t j) (doc.upper t (column_at t j)) ≡ untargeted_step t j
unfolding untargeted_step below_longest
untargeted-step t j = go (doc.upper t (column_at t j))
  where
    named : Option ℕ → WidthStep
    named o = elim o as (λ x. WidthStep) [ some w ↦ UntargetedUpper | none ↦ UntargetedLongest ]

    inner : (b : ℕ) (x : Bool) → choose x UntargetedUpper UntargetedLongest
        ≡ named (elim x as (λ y. Option ℕ) [ true ↦ some (content_of (column_at t j) b) | false ↦ none ])
    inner b true = refl
    inner b false = refl

    go : (o : Option ℕ) → untargeted_by (doc.longest t j) o ≡ named (elim o as (λ y. Option ℕ) [
      | some b ↦ elim (ltb b (doc.longest t j)) [ true ↦ some (content_of (column_at t j) b) | false ↦ none ]
      | none ↦ none
    ])
    go (some b) = inner b (ltb b (doc.longest t j))
    go none = refl

fitted-step : (t : Table) (j : ℕ) → fitted_by (column_at t j) (doc.longest t j) (doc.upper t (column_at t j)) ≡ fitted_step t j
unfolding fitted_step at_upper
fitted-step t j = go (doc.upper t (column_at t j))
  where
    named : Option ℕ → WidthStep
    named o = elim o as (λ x. WidthStep) [ some w ↦ UpperBound | none ↦ LongestWithinAverage ]

    inner : (b : ℕ) (x : Bool) → choose x UpperBound LongestWithinAverage
        ≡ named (elim (x && x) as (λ y. Option ℕ) [ true ↦ some (content_of (column_at t j) b) | false ↦ none ])
    inner b true = refl
    inner b false = refl

    go : (o : Option ℕ) → fitted_by (column_at t j) (doc.longest t j) o ≡ named (elim o as (λ y. Option ℕ) [
      | some b ↦ elim (leb b (doc.longest t j + padding (column_at t j)) && leb b (doc.longest t j + padding (column_at t j)))
          [ true ↦ some (content_of (column_at t j) b) | false ↦ none ]
      | none ↦ none
    ])
    go (some b) = inner b (leb b (doc.longest t j + padding (column_at t j)))
    go none = refl

-- ---- the tests in order

-- as the definitions choose: by a test, and by being undecided
abbrev pick : {A : Type 0} → Bool → A → A → A
pick {A} x p q = elim x as (λ y. A) [ true ↦ p | false ↦ q ]

chosen : {A : Type 0} (x : Bool) (p q : A) → choose x p q ≡ pick x p q
chosen true p q = refl
chosen false p q = refl

-- decided, or not
decided-or : {A : Type 0} (u : Bool) (p q r : A) → q ≡ r → choose (not u) p q ≡ pick u r p
decided-or true p q r e = e
decided-or false p q r e = refl

module _ (l : Layout) (t : Table) (d : Describes l t) (a : Course) (c : CourseIs t a) (j : ℕ) (k : j < length l.columns.items) where
  n : j < length t.columns
  n = omega (arith, count_as l t d)

  bound-here : upper l (visible l) (column l j) ≡ doc.upper t (column_at t j)
  bound-here = ap (upper l (visible l)) (column_as l t d j) ∙ upper_as l t d (visible l) (visible_as l t d) (column_at t j)

  untargeted_named : untargeted_by (longest l j) (upper l (visible l) (column l j)) ≡ untargeted_step t j
  untargeted_named = rw (longest_as l t d j k, bound-here) (untargeted-step t j)

  fitted_named : fitted_by (column l j) (longest l j) (upper l (visible l) (column l j)) ≡ fitted_step t j
  fitted_named = rw (longest_as l t d j k, bound-here, column_as l t d j) (fitted-step t j)

  module _ (v : is_hidden (column_at t j) ≡ false) where
    targeted_named : is_untargeted t ≡ false → targeted_by l a j ≡ targeted_step t j
    unfolding targeted_by targeted_step
    targeted_named e =
        rw (c.lower e j n v, c.fitted e j n v, c.split e j n v, fitted_named)
        (decided-or (is_undecided (after1 t) j) LowerBound _ _
        (decided-or (is_undecided (after2 t) j) (fitted_step t j) _ _
        (decided-or (is_undecided (after3 t) j) SplitPart EvenShare EvenShare refl)))

    by-target : (b : Bool) → is_untargeted t ≡ b → pick b (untargeted_step t j) (targeted_by l a j) ≡ pick b (untargeted_step t j) (targeted_step t j)
    by-target true e = refl
    by-target false e = targeted_named e

    tests : choose (is_none l.target || is_disabled l.arrangement) (untargeted_step t j) (targeted_by l a j)
        ≡ pick (is_untargeted t) (untargeted_step t j) (targeted_step t j)
    tests =
        let e : is_none l.target || is_disabled l.arrangement ≡ is_untargeted t = rw (d.target, target_none t.target, d.arrangement, disabled_as t.arrangement) in
        chosen (is_none l.target || is_disabled l.arrangement) (untargeted_step t j) (targeted_by l a j)
        ∙ ap (λ (x : Bool). pick x (untargeted_step t j) (targeted_by l a j)) e ∙ by-target (is_untargeted t) refl

    shown_named : step_by l a j ≡ step_of t j
    unfolding step_by step_of
    shown_named =
        rw (hidden_as l t d j, v, c.first j n v, untargeted_named, step_of)
        (decided-or (is_undecided (doc.start t) j) FirstConstraint _ _ tests)

    at_split : (u b : Bool) → is_undecided (after3 t) j ≡ u → is_untargeted t ≡ b → widened_by (column l j) a j ≡ is_widened t j
    unfolding widened_by is_widened
    at_split u true e f =
        let z = c.unshared f in
        rw (hidden_as l t d j, v, f, z, is_widened) (go (contains a.split j))
      where
        go : (x : Bool) → choose x (ltb (get_or a.state.widths j 0) (get_or a.state.widths j 0)) false ≡ false
        go true = le-ltb (get_or a.state.widths j 0) (get_or a.state.widths j 0) (omega arith)
        go false = refl
    at_split true false e f = rw (hidden_as l t d j, v, c.split f j n v, f, is_widened, e)
    at_split false false e f = rw (hidden_as l t d j, v, c.split f j n v, f, is_widened, e, c.before f j n, c.content j n)

  pub step_named : step_by l a j ≡ step_of t j
  unfolding step_by step_of
  step_named = go (is_hidden (column_at t j)) refl
    where
      go : (b : Bool) → is_hidden (column_at t j) ≡ b → step_by l a j ≡ step_of t j
      go true h = rw (hidden_as l t d j, h, step_of)
      go false h = shown_named h

  pub widened_named : widened_by (column l j) a j ≡ is_widened t j
  unfolding widened_by
  widened_named = go (is_hidden (column_at t j)) refl
    where
      go : (b : Bool) → is_hidden (column_at t j) ≡ b → widened_by (column l j) a j ≡ is_widened t j
      go true h = rw (hidden_as l t d j, h) (sym ((explained t).hidden j n h).1)
      go false h = at_split h (is_undecided (after3 t) j) (is_untargeted t) refl refl

-- the report on an accepted sheet
module _ (s : List ℕ) (accepted : IsAccepted s) (a : Found) (f : FoundIs (table_of s) a) where
  pub report_found : (w : Widths) (n : ℕ) (xs : List ℕ) (fs : List Bool) → w ≡ widths_from a.layout a.course → n ≡ unwrap_or a.layout.target 0
      → xs ≡ steps_by a.layout a.course → fs ≡ widened_all_by a.layout a.course
      → ◌≡◌ {A = Report} (record { widths = w; target = n; step = xs; widened = fs }) (report_of (table_of s))
  unfolding report_of
  report_found w n xs fs p q g h =
      let l = a.layout in
      let t = table_of s in
      let d = f.describes in
      let few = few_held s accepted l d in
      let c = course_is l t d few a.course f.course in
      let steps : xs ≡ as_array 0 (step_numbers t) =
      g ∙ entries_as l t d few 0 (λ j. step_number (step_by l a.course j)) (λ j. step_number (step_of t j))
      (λ j k. ap step_number (step_named l t d a.course c j k)) in
      let flags : fs ≡ as_array false (widened_columns t) =
      h ∙ entries_as l t d few false (λ j. widened_by (column l j) a.course j) (is_widened t) (widened_named l t d a.course c) in
      rw (widths_found s accepted a f w p, steps, flags, q, d.target, target_or t.target)
