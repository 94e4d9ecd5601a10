-- `sheet::field::two_bytes` meets its contract. Assumes nothing.
use Rattle.sheet.proofs.Fields.{two_there}
use Rattle.sheet.proofs.field.two_bytes.Goals as goal

pub returns-in-Some-len2-up : goal.returns-in-Some-len2-up
returns-in-Some-len2-up c =
    let h = c.in-Some-len2-up.ensures.lookup in
    two_there _ _ _ h.0.2 h.0.3 c.in-Some-len2-up.len_at_least
