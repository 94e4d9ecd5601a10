use native.Mathlib.Omega.{arith}
use mathlib.Core.Path.{sym, ap}
use Rattle.rules.specs.declared.Printed.{Printed}
use Rattle.reader.proofs.Few.{printed_few}
use Rattle.reader.proofs.PageReader.next.Goals as goal

pub overflow_add-self : goal.overflow_add-self
overflow_add-self c =
    let few = printed_few _ _ _ (sym (ap (λ (p : Printed). p.number) c.in_ok-written.ensures.value)) in
    record { fits = omega (arith, few) }
