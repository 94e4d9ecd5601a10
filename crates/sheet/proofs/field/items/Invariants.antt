-- `sheet::field::items` meets its contract. The loop: what is left to read from here comes to what there was to read. Assumes nothing.
use Rattle.rules.specs.Steps.{Step, At, times}
use Rattle.sheet.specs.Steps.{Reads}
use Rattle.sheet.proofs.Loops.{Items}
use Rattle.sheet.proofs.field.items.Given as goal

abbrev pub invariant-loop : goal.invariant-loop
invariant-loop g l =
    (f : Step → Step) → Reads (goal.F-post g l.read) f → Items f l.end l.counter (At l.at) (times l.fn.count.value f (At l.fn.count.next))
