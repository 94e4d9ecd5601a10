use mathlib.Core.Path.{◌≡◌, refl, ap, ◌∙◌}
use Rattle.std.specs.Prelude.{Option, Some, None}
use Rattle.std.specs.Option.{option_eq}
use Rattle.style.specs.contracts.column.ColumnConstraintPartialEq.TheImpl as impl
use Rattle.style.specs.declared.column.ColumnConstraint.{ColumnConstraint}
use Rattle.style.specs.declared.column.ColumnConstraint.TheVariants.{Hidden, ContentWidth, Absolute, LowerBoundary, UpperBoundary, Boundaries}
use Rattle.style.proofs.Laws.{hides, hides_as}
use Rattle.style.proofs.column.is_hidden.Goals as goal

hides-eq : (k : Option ColumnConstraint) → option_eq impl.eq-value.it k (Some Hidden) ≡ hides k
hides-eq None = refl
hides-eq (Some Hidden) = refl
hides-eq (Some ContentWidth) = refl
hides-eq (Some (Absolute w)) = refl
hides-eq (Some (LowerBoundary w)) = refl
hides-eq (Some (UpperBoundary w)) = refl
hides-eq (Some (Boundaries v w)) = refl

pub returns : goal.returns
returns c = c.eq.ensures ∙ hides-eq c.of.result ∙ ap hides c.of.ensures ∙ hides_as c.args.c.now
