use Rattle.table.proofs.Heads.{nothing-ahead}
use Rattle.table.proofs.step.pass_head.Goals as goal

pub returns : goal.returns
returns c = nothing-ahead _ _ _ c.requires.1 c.if-c-gt0.false c.if-c-gt0-2.false c.if-c-gt0-3.false
