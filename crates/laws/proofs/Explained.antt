-- The report explains each width: the one at which the named step fixed the column and, where it is called widened, a share of the remainder. Assumes nothing.
use Prim.Native.Nat.{ℕ, zero, suc, ◌+◌, ◌≤◌, ◌<◌}
use mathlib.Core.Path.{◌≡◌, refl, sym, ap, ◌∙◌}
use mathlib.Core.List.{List, map}
use mathlib.Core.Bool.{Bool, true, false}
use mathlib.Core.Option.{Option, none, some}
use native.Mathlib.Omega.{arith}
use lib.ListN.{length, get_or}
use lib.Dec.{eqb, ltb}
use borrow.Author.Tests.{eqb-true, eqb-false, ne_eqb, ltb-true, ltb-false, lt-ltb, le-ltb}
use Rattle.rules.specs.Text.{or_else, up_from}
use Rattle.rules.specs.Sheet.{Table, column_at, is_hidden}
use Rattle.rules.specs.Widths.{lifted, numbers, longest, evaluate, noted, first, is_untargeted, below_longest, untargeted, undecided, is_undecided, start}
use Rattle.rules.specs.Widths.{above_average, fitting_average, split_at_average, shared, of_remainder, widened, step4, contents}
use Rattle.rules.specs.Fixing.{Fixed, after1, after2, after3}
use Rattle.rules.specs.Fixing.{by_first, by_lower, by_upper, by_longest, by_part, by_share, by_untargeted, by_untargeted_upper}
use Rattle.rules.specs.Reasons.{step_of, is_widened, ColumnExplained, Explained}
use Rattle.rules.specs.declared.WidthStep.{WidthStep}
use Rattle.rules.specs.declared.WidthStep.TheVariants.{NoStep}
use Rattle.laws.proofs.Lists.{get_d_map, get_d-up_from, all_get_d}
use Rattle.laws.proofs.Contents.{Some, length-numbers, length_steps, decided-some, shared-some, untargeted-some}
use Rattle.laws.proofs.Turns.{never, noted-width, run-width, turn-width}
use Rattle.laws.proofs.Reasons.{goes1, goes2, goes3, long1, long3, start-fixed, upper-offered, longest-offered, fitted-width}
use Rattle.laws.proofs.Reasons.{step_found, step-only, fixed_number}

or_else_own : (a b : ℕ) → eqb a 0 ≡ false → or_else a b ≡ a
or_else_own zero b e = never e
or_else_own (suc a) b e = refl

or_else-other : (a b : ℕ) → a ≡ 0 → or_else a b ≡ b
or_else-other a b e = rw e

zeros_decide : (t : Table) (j : ℕ) → j < length t.columns → undecided (after3 t) ≡ 0 → is_undecided (after3 t) j ≡ false
zeros_decide t j l z =
    let k : 1 ≤ get_or (after3 t).widths j 0 = all_get_d Some (after3 t).widths j 0 (rw (length_steps t) l) (decided-some (after3 t).widths z) in
    ne_eqb (get_or (after3 t).widths j 0) 0 (omega arith)

module _ (t : Table) (j : ℕ) (l : j < length t.columns) where
  -- an entry for each column
  at-column : (f : ℕ → ℕ) → get_or (map f (numbers t)) j 0 ≡ f j
  unfolding numbers
  at-column f =
      let e : get_or (up_from 0 (length t.columns)) j 0 ≡ j = get_d-up_from 0 (length t.columns) j 0 l ∙ omega arith in
      get_d_map f (numbers t) j 0 0 (rw (length-numbers t) l) ∙ ap f e

  -- the width before step 4, and the content width
  abbrev before : ℕ
  before = get_or (after3 t).widths j 0

  abbrev after : ℕ
  after = get_or (contents t) j 0

  -- ---- no target, or `Disabled`

  untargeted-width : is_untargeted t ≡ true → after ≡ or_else (first t j) (untargeted t j)
  unfolding contents
  untargeted-width n = rw (n, contents) (at-column (λ k. or_else (first t k) (untargeted t k)))

  untargeted_still : is_untargeted t ≡ true → is_widened t j ≡ false
  unfolding is_widened
  untargeted_still n = rw (n, is_widened)

  -- ---- a target: how step 4 ends

  data Ends : Type 0 where
    shares : (undecided (after3 t) ≡ 0 → ⊥) → after ≡ shared (after3 t) j → Ends
    widens : undecided (after3 t) ≡ 0 → t.arrangement ≡ 2 → after ≡ widened t (after3 t) j → Ends
    stands : undecided (after3 t) ≡ 0 → (t.arrangement ≡ 2 → ⊥) → after ≡ before → Ends

  module _ (n : is_untargeted t ≡ false) where
    fourth : after ≡ get_or (step4 t (after3 t)) j 0
    unfolding contents
    fourth = rw (n, contents)

    ends : Ends
    unfolding step4
    ends = go (eqb (undecided (after3 t)) 0) (eqb t.arrangement 2) refl refl fourth
      where
        go : (b c : Bool) → eqb (undecided (after3 t)) 0 ≡ b → eqb t.arrangement 2 ≡ c
            → after ≡ get_or (elim b as (λ x. List ℕ) [
              | false ↦ map (shared (after3 t)) (numbers t)
              | true ↦ elim c as (λ x. List ℕ) [ true ↦ map (widened t (after3 t)) (numbers t) | false ↦ (after3 t).widths ]
            ]) j 0
            → Ends
        go false c e f h = shares (eqb-false (undecided (after3 t)) 0 e) (h ∙ at-column (shared (after3 t)))
        go true true e f h = widens (eqb-true (undecided (after3 t)) 0 e) (eqb-true t.arrangement 2 f) (h ∙ at-column (widened t (after3 t)))
        go true false e f h = stands (eqb-true (undecided (after3 t)) 0 e) (eqb-false t.arrangement 2 f) h

    widened_as : is_undecided (after3 t) j ≡ false → is_widened t j ≡ ltb before after
    unfolding is_widened
    widened_as d = rw (n, d, is_widened)

    open_still : is_undecided (after3 t) j ≡ true → is_widened t j ≡ false
    unfolding is_widened
    open_still d = rw (n, d, is_widened)

    -- a column that is decided keeps its width where columns are left
    shared_own : is_undecided (after3 t) j ≡ false → shared (after3 t) j ≡ before
    unfolding shared
    shared_own d = or_else_own before _ d

    equal_still : is_undecided (after3 t) j ≡ false → after ≡ before → is_widened t j ≡ false
    equal_still d e = widened_as d ∙ rw e (le-ltb before before (omega arith))

  -- ---- a hidden column

  hidden-widened : is_hidden (column_at t j) ≡ true → widened t (after3 t) j ≡ before
  unfolding widened
  hidden-widened h = rw (h, widened)

  hidden_still : is_hidden (column_at t j) ≡ true → is_widened t j ≡ false
  hidden_still h = by-target (is_untargeted t) refl
    where
      by_end : (n : is_untargeted t ≡ false) → is_undecided (after3 t) j ≡ false → Ends → is_widened t j ≡ false
      by_end n d (shares z e) = equal_still n d (e ∙ shared_own n d)
      by_end n d (widens z a e) = equal_still n d (e ∙ hidden-widened h)
      by_end n d (stands z a e) = equal_still n d e

      by_turn : (n : is_untargeted t ≡ false) (b : Bool) → is_undecided (after3 t) j ≡ b → is_widened t j ≡ false
      by_turn n true d = open_still n d
      by_turn n false d = by_end n d (ends n)

      by-target : (b : Bool) → is_untargeted t ≡ b → is_widened t j ≡ false
      by-target true n = untargeted_still n
      by-target false n = by_turn n (is_undecided (after3 t) j) refl

  hidden_unnamed : is_hidden (column_at t j) ≡ true → step_of t j ≡ NoStep
  unfolding step_of
  hidden_unnamed h = rw (h, step_of)

  -- ---- a visible column

  module _ (v : is_hidden (column_at t j) ≡ false) where
    visible-widened : widened t (after3 t) j ≡ before + of_remainder t (after3 t) j
    unfolding widened
    visible-widened = rw (v, widened)

    -- the width at which a rule before step 4 fixed it
    data Set (w : ℕ) : Type 0 where
      noted-at : before ≡ lifted w → Set w
      shared_at : is_undecided (after3 t) j ≡ true → w ≡ shared (after3 t) j → Set w

    from2 : (w : ℕ) → get_or (after2 t).widths j 0 ≡ lifted w → before ≡ lifted w
    from2 w e = run-width (split_at_average t) (length t.columns) j l (goes3 t) (noted-width (after2 t) j w e) ∙ e

    from1 : (w : ℕ) → get_or (after1 t).widths j 0 ≡ lifted w → before ≡ lifted w
    from1 w e = from2 w (run-width (fitting_average t) (length t.columns) j l (goes2 t) (noted-width (after1 t) j w e) ∙ e)

    from0 : (w : ℕ) → evaluate t j ≡ some w → before ≡ lifted w
    from0 w f =
        let e = start-fixed t j l w f in
        from1 w (run-width (above_average t) (length t.columns) j l (goes1 t) (noted-width (start t) j w e) ∙ e)

    set_by : is_untargeted t ≡ false → (r : WidthStep) (w : ℕ) → Fixed t j r w → Set w
    set_by n r w (by_first x e) = noted-at (from0 x e)
    set_by n r w (by_lower x m p) = noted-at (from1 x (turn-width (above_average t) (length t.columns) j l x (goes1 t) (long1 t j l) p))
    set_by n r w (by_upper x m p) = noted-at (from2 x (fitted-width t j l v x (upper-offered t j l v x p)))
    set_by n r w (by_longest x m p) = noted-at (from2 x (fitted-width t j l v x (longest-offered t j l v x p)))
    set_by n r w (by_part x m p) = noted-at (turn-width (split_at_average t) (length t.columns) j l x (goes3 t) (long3 t j l) p)
    set_by n r w (by_share m c) = shared_at c refl
    set_by n r w (by_untargeted m e f) = never (sym m ∙ n)
    set_by n r w (by_untargeted_upper x m e f) = never (sym m ∙ n)

    -- ---- not widened

    first_is : (w : ℕ) → evaluate t j ≡ some w → first t j ≡ lifted w
    unfolding first noted
    first_is w e = rw e

    first_isn't : evaluate t j ≡ none → first t j ≡ 0
    unfolding first noted
    first_isn't e = rw e

    untargeted_is : (o : Option ℕ) → below_longest t j ≡ o → untargeted t j ≡ elim o as (λ x. ℕ) [ some w ↦ w | none ↦ lifted (longest t j) ]
    unfolding untargeted
    untargeted_is o e = ap (λ (x : Option ℕ). elim x as (λ y. ℕ) [ some w ↦ w | none ↦ lifted (longest t j) ]) e

    untargeted_kept : is_untargeted t ≡ true → (r : WidthStep) (w : ℕ) → Fixed t j r w → or_else (first t j) (untargeted t j) ≡ lifted w
    untargeted_kept n r w (by_first x e) = rw (first_is x e) (or_else_own (lifted x) (untargeted t j) (ne_eqb (lifted x) 0 (omega arith)))
    untargeted_kept n r w (by_lower x m p) = never (sym n ∙ m)
    untargeted_kept n r w (by_upper x m p) = never (sym n ∙ m)
    untargeted_kept n r w (by_longest x m p) = never (sym n ∙ m)
    untargeted_kept n r w (by_part x m p) = never (sym n ∙ m)
    untargeted_kept n r w (by_share m c) = never (sym n ∙ m)
    untargeted_kept n r w (by_untargeted m e f) = or_else-other (first t j) (untargeted t j) (first_isn't e) ∙ untargeted_is none f
    untargeted_kept n r w (by_untargeted_upper x m e f) =
        or_else-other (first t j) (untargeted t j) (first_isn't e) ∙ omega (arith, untargeted-some t j, untargeted_is (some x) f)

    targeted_kept : (n : is_untargeted t ≡ false) → is_widened t j ≡ false → (w : ℕ) → Set w → Ends → after ≡ lifted w
    targeted_kept n h w (noted-at e) (shares z f) = f ∙ shared_own n (noted-width (after3 t) j w e) ∙ e
    targeted_kept n h w (noted-at e) (widens z a f) =
        let k = ltb-false before after (sym (widened_as n (noted-width (after3 t) j w e)) ∙ h) in
        omega (arith, f, visible-widened, e)
    targeted_kept n h w (noted-at e) (stands z a f) = f ∙ e
    targeted_kept n h w (shared_at c q) (shares z f) = let k = shared-some (after3 t) j (omega arith) in omega (arith, f, q)
    targeted_kept n h w (shared_at c q) (widens z a f) = never (sym c ∙ zeros_decide t j l z)
    targeted_kept n h w (shared_at c q) (stands z a f) = never (sym c ∙ zeros_decide t j l z)

    column_kept : is_widened t j ≡ false → (r : WidthStep) (w : ℕ) → Fixed t j r w → after ≡ lifted w
    column_kept h r w x = go (is_untargeted t) refl
      where
        go : (b : Bool) → is_untargeted t ≡ b → after ≡ lifted w
        go true n = untargeted-width n ∙ untargeted_kept n r w x
        go false n = targeted_kept n h w (set_by n r w x) (ends n)

    -- ---- widened

    -- the remainder is shared, and the column's share of it isn't 0
    abbrev Wider : Type 0
    Wider = (is_untargeted t ≡ false) × (undecided (after3 t) ≡ 0) × (t.arrangement ≡ 2) × (0 < of_remainder t (after3 t) j)

    wider_by : (n : is_untargeted t ≡ false) → is_widened t j ≡ true → is_undecided (after3 t) j ≡ false → Ends → Wider
    wider_by n h d (shares z f) = never (sym h ∙ equal_still n d (f ∙ shared_own n d))
    wider_by n h d (widens z a f) =
        let k = ltb-true before after (sym (widened_as n d) ∙ h) in
        (n, z, a, omega (arith, f, visible-widened))
    wider_by n h d (stands z a f) = never (sym h ∙ equal_still n d f)

    column_wider : is_widened t j ≡ true → Wider
    column_wider h = by-target (is_untargeted t) refl
      where
        by_turn : (n : is_untargeted t ≡ false) (b : Bool) → is_undecided (after3 t) j ≡ b → Wider
        by_turn n true d = never (sym h ∙ open_still n d)
        by_turn n false d = wider_by n h d (ends n)

        by-target : (b : Bool) → is_untargeted t ≡ b → Wider
        by-target true n = never (sym h ∙ untargeted_still n)
        by-target false n = by_turn n (is_undecided (after3 t) j) refl

    column_more : is_widened t j ≡ true → (r : WidthStep) (w : ℕ) → Fixed t j r w → after ≡ lifted w + of_remainder t (after3 t) j
    column_more h r w x = let k = column_wider h in go k.0 k.1 k.2 (set_by k.0 r w x) (ends k.0)
      where
        go : (n : is_untargeted t ≡ false) → undecided (after3 t) ≡ 0 → t.arrangement ≡ 2 → Set w → Ends → after ≡ lifted w + of_remainder t (after3 t) j
        go n z a (noted-at e) (shares y f) = absurd (y z)
        go n z a (noted-at e) (widens y b f) = omega (arith, f, visible-widened, e)
        go n z a (noted-at e) (stands y b f) = absurd (b a)
        go n z a (shared_at c q) y = never (sym c ∙ zeros_decide t j l z)

    column-widened : is_untargeted t ≡ false → undecided (after3 t) ≡ 0 → t.arrangement ≡ 2 → 0 < of_remainder t (after3 t) j → is_widened t j ≡ true
    column-widened n z a h = widened_as n (zeros_decide t j l z) ∙ go (ends n)
      where
        go : Ends → ltb before after ≡ true
        go (shares y f) = absurd (y z)
        go (widens y b f) = lt-ltb before after (omega (arith, f, visible-widened))
        go (stands y b f) = absurd (b a)

    pub column_explained : ColumnExplained t j
    column_explained =
        record {
          fixed = step_found t j l v;
          only = step-only t j l v;
          some_step = let k = step_found t j l v in fixed_number t j l v (step_of t j) k.0 k.1;
          kept = column_kept;
          more = column_more;
          so = column_wider;
          widened = column-widened;
        }

-- what is promised of the report
pub explained : (t : Table) → Explained t
explained t =
    record {
      visible = λ j l v. column_explained t j l v;
      hidden = λ j l h. (hidden_unnamed t j l h, hidden_still t j l h);
    }
