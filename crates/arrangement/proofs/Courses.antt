-- What is arranged is the course of the table's widths. Assumes nothing.
use Prim.Native.Nat.{ℕ, ◌≤◌, ◌<◌}
use mathlib.Core.Path.{◌≡◌, refl, sym, ap, ◌∙◌}
use mathlib.Core.Bool.{Bool, true, false, not, ◌||◌}
use mathlib.Core.List.{List}
use native.Mathlib.Omega.{arith}
use lib.ListN.{length, get_or}
use lib.Seq.{get_or-take}
use lib.Dec.{eqb}
use Rattle.rules.specs.Sheet.{Table, most_columns, is_hidden}
use Rattle.rules.specs.Widths as doc
use Rattle.rules.specs.Widths.{is_untargeted, is_undecided, longest_part}
use Rattle.rules.specs.Fixing.{after1, after2, after3}
use Rattle.constraint.specs.declared.Layout.{Layout}
use Rattle.constraint.specs.declared.State.{State}
use Rattle.constraint.specs.Set.{bit}
use Rattle.constraint.specs.Widths.{choose, column, pass}
use Rattle.arrangement.specs.declared.dynamic.Course.{Course}
use Rattle.arrangement.specs.Arrange.{untargeted, targeted, step1, step2, step3, started, plainly, dynamic, arranged}
use Rattle.arrangement.specs.Describes.{Describes}
use Rattle.arrangement.specs.Courses.{Decided, CourseIs}
use Rattle.style.specs.Table.{is_disabled}
use Rattle.std.specs.Prelude.{is_none}
use Rattle.style.proofs.Laws.{disabled_as, target_none}
use Rattle.arrangement.proofs.Cases.{unlike}
use Rattle.arrangement.proofs.Offers.{count_as, hidden_as}
use Rattle.arrangement.proofs.Agrees.{Agrees, width_as, step1_agrees, step2_agrees, step3_agrees}
use Rattle.arrangement.proofs.Begins.{targeted_agrees}
use Rattle.arrangement.proofs.Arranged.{arranged_widths}

module _ (l : Layout) (t : Table) (d : Describes l t) (few : length l.columns.items ≤ most_columns) where
  -- a visible column is in the set exactly if it is decided
  decided_as : (s : State) (u : doc.State) → Agrees l t s u → Decided t s.decided u
  decided_as s u a j k h = let m : j < length l.columns.items = omega (arith, count_as l t d) in go (is_hidden (column l j)) (hidden_as l t d j ∙ h) (a.noted j m)
    where
      go : (b : Bool) → b ≡ false → choose b true (eqb (bit s.decided.0 j) 1) ≡ not (is_undecided u j) → eqb (bit s.decided.0 j) 1 ≡ not (is_undecided u j)
      go true e n = absurd (unlike true refl e)
      go false e n = n

  tests : is_none l.target || is_disabled l.arrangement ≡ is_untargeted t
  tests = rw (d.target, target_none t.target, d.arrangement, disabled_as t.arrangement)

  -- no target, or `Disabled`; or neither
  arranged-plain : is_untargeted t ≡ true → arranged (longest_part t) l ≡ plainly (started l).decided (pass untargeted l (started l))
  unfolding arranged
  arranged-plain n = rw (tests ∙ n)

  arranged-dynamic : is_untargeted t ≡ false → arranged (longest_part t) l ≡ dynamic (longest_part t) l (started l)
  unfolding arranged
  arranged-dynamic n = rw (tests ∙ n)

  agrees1 : Agrees l t (step1 l (targeted l (started l))) (after1 t)
  agrees1 = step1_agrees l t d few _ _ (targeted_agrees l t d few)

  agrees2 : Agrees l t (step2 l (step1 l (targeted l (started l)))) (after2 t)
  agrees2 = step2_agrees l t d few _ _ agrees1

  agrees3 : Agrees l t (step3 (longest_part t) l (step2 l (step1 l (targeted l (started l))))) (after3 t)
  agrees3 = step3_agrees l t d few (longest_part t) (λ j a h. refl) _ _ agrees2

  first-set : (b : Bool) → is_untargeted t ≡ b → (arranged (longest_part t) l).first ≡ (started l).decided
  first-set true e = ap (λ (c : Course). c.first) (arranged-plain e)
  first-set false e = ap (λ (c : Course). c.first) (arranged-dynamic e)

  pub course_is : (c : Course) → c ≡ arranged (longest_part t) l → CourseIs t c
  course_is c q =
      record {
        first = λ j k h. rw (q, first-set (is_untargeted t) refl) (decided_as (targeted l (started l)) (doc.start t) (targeted_agrees l t d few) j k h);
        lower = λ n j k h. rw (q, arranged-dynamic n) (decided_as _ (after1 t) agrees1 j k h);
        fitted = λ n j k h. rw (q, arranged-dynamic n) (decided_as _ (after2 t) agrees2 j k h);
        split = λ n j k h. rw (q, arranged-dynamic n) (decided_as _ (after3 t) agrees3 j k h);
        before = λ n j k. rw (q, arranged-dynamic n) (width_as l t d few _ (after3 t) agrees3 j (omega (arith, count_as l t d)));
        content = λ j k. (let w = (arranged_widths l t d few (longest_part t) (λ j a h. refl)).widths in
            rw q (sym (get_or-take (length l.columns.items) (arranged (longest_part t) l).state.widths j 0 (omega (arith, count_as l t d))) ∙ ap (λ (ws : List ℕ). get_or ws j 0) w));
        unshared = λ n. rw (q, arranged-plain n);
      }
