-- `sheet::examine` meets its contract. The loop: pairs are looked for only where the reading without them stopped at a C2. Assumes nothing.
use mathlib.Core.Path.{◌≡◌}
use mathlib.Core.Bool.{true, false, cond}
use Rattle.sheet.specs.Steps.{reading_of, at_first}
use Rattle.sheet.proofs.examine.Given as goal

abbrev pub invariant-loop-refusal : goal.invariant-loop-refusal
invariant-loop-refusal l = l.pairs ≡ true → at_first l.sheet (reading_of false l.sheet) ≡ true

abbrev pub decreases-loop-refusal : goal.decreases-loop-refusal
decreases-loop-refusal l = cond l.pairs 0 1
