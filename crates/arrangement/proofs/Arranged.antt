-- The widths that the code arranges are the document's. Assumes nothing.
use Prim.Native.Nat.{ℕ, ◌≤◌, ◌<◌}
use mathlib.Core.Path.{◌≡◌, refl, sym}
use mathlib.Core.Bool.{Bool, true, false, ◌||◌}
use mathlib.Core.List.{List, map}
use native.Mathlib.Omega.{arith}
use lib.ListN.{length, get_or}
use lib.Dec.{eqb, leb}
use borrow.Author.Tests.{leb-true, leb-false}
use Rattle.rules.specs.Text.{or_else}
use Rattle.rules.specs.Sheet.{Table, most_columns}
use Rattle.rules.specs.Limits.{TableLimits}
use Rattle.rules.specs.Calls.{as_array}
use Rattle.rules.specs.Widths as doc
use Rattle.rules.specs.Widths.{longest_part, contents}
use Rattle.laws.proofs.Accepted.{accepted_limits}
use Rattle.laws.proofs.Lists.{all_default}
use Rattle.table.specs.Held.{IsAccepted, table_of}
use Rattle.table.proofs.Held.{held}
use Rattle.laws.proofs.Bounds as bounds
use Rattle.laws.proofs.Bounds.{Most, small-start, small-step1, small-step2, small-step3}
use Rattle.constraint.specs.declared.Layout.{Layout}
use Rattle.constraint.specs.declared.State.{State}
use Rattle.constraint.specs.Widths.{choose, pass}
use Rattle.arrangement.specs.Arrange.{untargeted, targeted, step1, step2, step3, plainly, dynamic, started, arranged}
use Rattle.arrangement.specs.Describes.{Describes}
use Rattle.sharing.specs.Limits.{Small}
use Rattle.style.specs.Table.{is_disabled}
use Rattle.std.specs.Prelude.{is_none}
use Rattle.style.proofs.Laws.{disabled_as, target_none}
use Rattle.arrangement.proofs.Cases.{unlike}
use Rattle.arrangement.proofs.Offers.{few_as}
use Rattle.arrangement.proofs.Agrees.{Agrees, width_as, step1_agrees, step2_agrees, step3_agrees}
use Rattle.arrangement.proofs.Begins.{targeted_agrees}
use Rattle.arrangement.proofs.Placed.{padded_as}
use Rattle.arrangement.proofs.Ends.{Widths, untargeted_widths, finished_widths}

-- the longest parts that step 3 is told are those of the table's lines
abbrev pub SameParts : Layout → Table → (ℕ → ℕ → ℕ) → Type 0
SameParts l t parts = (j a : ℕ) → j < length l.columns.items → parts j a ≡ longest_part t j a

module _ (l : Layout) (t : Table) (d : Describes l t) (few : length l.columns.items ≤ most_columns) where
  -- small widths stay small in the code's state
  small_as : (s : State) (u : doc.State) → Agrees l t s u → bounds.Small u → Small s
  small_as s u a m =
      record { widths = λ i. at i (leb (length l.columns.items) i) refl; remaining = omega (arith, a.remaining, m.remaining) }
    where
      at : (i : ℕ) (b : Bool) → leb (length l.columns.items) i ≡ b → get_or s.widths i 0 ≤ 400
      at i true e = omega (arith, a.past i (leb-true (length l.columns.items) i e))
      at i false e = omega (arith, width_as l t d few s u a i (leb-false (length l.columns.items) i e), all_default (Most 400) u.widths i 0 (omega arith) m.widths)

  module _ (parts : ℕ → ℕ → ℕ) (p : SameParts l t parts) where
    -- steps 1 to 3
    steps_agree : Agrees l t (step3 parts l (step2 l (step1 l (targeted l (started l))))) (doc.step3 t (doc.step2 t (doc.step1 t (doc.start t))))
    steps_agree = step3_agrees l t d few parts p _ _ (step2_agrees l t d few _ _ (step1_agrees l t d few _ _ (targeted_agrees l t d few)))

    pub arranged_widths : Widths l (contents t) (arranged parts l).state
    unfolding arranged contents
    arranged_widths =
        go (is_none l.target || is_disabled l.arrangement) (eqb t.target 0 || eqb t.arrangement 0)
        (rw (d.target, target_none t.target, d.arrangement, disabled_as t.arrangement))
      where
        go : (x y : Bool) → x ≡ y
            → Widths l (elim y as (λ x. List ℕ) [
              | true ↦ map (λ j. or_else (doc.first t j) (doc.untargeted t j)) (doc.numbers t)
              | false ↦ doc.step4 t (doc.step3 t (doc.step2 t (doc.step1 t (doc.start t))))
            ])
            (choose x (plainly (started l).decided (pass untargeted l (started l))) (dynamic parts l (started l))).state
        go true true e = untargeted_widths l t d few
        go false false e = finished_widths l t d few _ _ steps_agree
        go true false e = absurd (unlike true refl e)
        go false true e = absurd (unlike true refl (sym e))

    -- the content widths, and 0 past the columns
    pub arranged-contents : (arranged parts l).state.widths ≡ as_array 0 (contents t)
    arranged-contents =
        let w = arranged_widths in
        padded_as (length l.columns.items) (arranged parts l).state.widths (contents t) w.long few w.widths w.past

    -- what the steps come to is small
    pub steps_small : TableLimits t → Small (step3 parts l (step2 l (step1 l (targeted l (started l)))))
    steps_small m = small_as _ _ steps_agree (small-step3 t m _ (small-step2 t m _ (small-step1 t m _ (small-start t m))))

-- of an accepted sheet
module _ (s : List ℕ) (accepted : IsAccepted s) where
  pub limits_held : TableLimits (table_of s)
  limits_held = let h = held s accepted in accepted_limits s (table_of s) h.end h.reads

  module _ (l : Layout) (d : Describes l (table_of s)) where
    pub few_held : length l.columns.items ≤ most_columns
    few_held = few_as l (table_of s) d limits_held

    pub small_held : Small (step3 (longest_part (table_of s)) l (step2 l (step1 l (targeted l (started l)))))
    small_held = steps_small l (table_of s) d few_held (longest_part (table_of s)) (λ j a h. refl) limits_held
