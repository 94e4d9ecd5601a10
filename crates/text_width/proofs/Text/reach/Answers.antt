use native.Mathlib.Omega.{arith}
use mathlib.Core.Path.{ap, ◌∙◌}
use Rattle.rules.specs.Text.{text_width}
use Prim.Native.Nat.{◌+◌}
use Rattle.text_width.proofs.Measure.{plain_reach, counted_few, reached_from, lent_slice}
use Rattle.text_width.proofs.Text.reach.Goals as goal

pub returns-then-self : goal.returns-then-self
returns-then-self c = plain_reach c.args.self.now.plain c.args.self.now.bytes.now c.args.from c.args.width c.if-self.true (omega arith) c.args.self.now.known

pub overflow_sub-width : goal.overflow_sub-width
overflow_sub-width c =
    let to = c.args.from + c.args.width in
    let counted = c.count-n.ensures ∙ ap text_width (lent_slice c.args.from to c.args.self.now.bytes.now) in
    omega (arith, counted_few c.args.self.now.bytes.now c.args.from to _ (omega arith) counted)

pub returns : goal.returns
returns c =
    let to = c.args.from + c.args.width in
    reached_from _ _ _ _ (omega arith) (c.count-n.ensures ∙ ap text_width (lent_slice c.args.from to c.args.self.now.bytes.now)) c.walk.ensures
