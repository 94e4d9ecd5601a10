-- `sheet::text::all_printable` meets its contract. The loop: the bytes before this one are all printable, or not. Assumes nothing.
use mathlib.Core.Path.{◌≡◌}
use Rattle.sheet.specs.Steps.{printables}
use Rattle.sheet.proofs.text.all_printable.Given as goal

abbrev pub invariant-loop-value : goal.invariant-loop-value
invariant-loop-value l = l.all ≡ printables l.bytes 0 l.value-index
