-- `sheet::examine` meets its contract. Assumes nothing.
use mathlib.Core.Path.{refl, sym, ◌∙◌}
use mathlib.Core.Logic.{inl, inr}
use Rattle.sheet.proofs.Sections.{examined_good, examined_refused}
use Rattle.sheet.proofs.examine.Goals as goal
use Rattle.sheet.proofs.examine.Goals.{then-pairs-via-then-pairs, then-pairs-via-else-pairs+then-not-at_first}

pub returns-in_default : goal.returns-in_default
returns-in_default c = examined_good _ c.loop-refusal.pairs _ c.in_default.ensures c.loop-refusal.invariant _ refl

pub returns-then-pairs : goal.returns-then-pairs
returns-then-pairs c =
    elim c.then-pairs.branch [
      | then-pairs-via-then-pairs w ↦ examined_refused _ c.loop-refusal.pairs _ c.in-Err.ensures c.loop-refusal.invariant (inl w.if-pairs.true) _ refl
      | then-pairs-via-else-pairs+then-not-at_first w ↦
          examined_refused _ c.loop-refusal.pairs _ c.in-Err.ensures c.loop-refusal.invariant
          (inr (sym w.at_first.ensures ∙ w.if-not-at_first.true)) _ refl
    ]
