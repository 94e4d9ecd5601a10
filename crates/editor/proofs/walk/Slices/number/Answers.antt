-- `editor::walk::Slices::number` meets its contract. Assumes nothing.
use mathlib.Core.Path.{refl, ◌∙◌}
use Rattle.editor.specs.Walk.{walk_of}
use Rattle.editor.proofs.Taking.{number_none, number_value, number_next}
use Rattle.editor.proofs.walk.Slices.number.Goals as goal

pub returns-in_default-clause-next : goal.returns-in_default-clause-next
returns-in_default-clause-next c = number_none _ _ c.in_default.ensures.lookup.3

pub returns-clause-value : goal.returns-clause-value
returns-clause-value c = let h = c.in-Some.ensures.lookup.3 in h.1 0 ∙ number_value _ (walk_of c.args.from) refl h.0

pub returns-clause-next : goal.returns-clause-next
returns-clause-next c = number_next _ _ refl c.in-Some.ensures.lookup.3.0
