use Rattle.parts.proofs.Parts.{drawable}
use Rattle.parts.proofs.part.row_of.Goals as goal

pub invariant_of-result : goal.invariant_of-result
invariant_of-result c =
    record { drawable = rw c.as_slice.ensures.value (drawable _ _ c.args.p.now.opened _ c.requires.0 c.requires.1) }
