use native.Mathlib.Omega.{arith}
use mathlib.Core.Path.{◌∙◌}
use Rattle.laws.proofs.Text.{width_whole}
use Rattle.after_split.proofs.Trials.{line_whole, line-split}
use Rattle.after_split.proofs.longest_part_of_line.Goals as goal

pub returns-then-n-average : goal.returns-then-n-average
returns-then-n-average c =
    let k = width_whole _ c.args.line.now (rw c.unknown.ensures.0 at c.columns-n.ensures) in
    k ∙ line_whole _ _ _ (omega (arith, k))

pub returns : goal.returns
returns c =
    let k = width_whole _ c.args.line.now (rw c.unknown.ensures.0 at c.columns-n.ensures) in
    line-split _ _ _ _ c.requires.0 (omega (arith, k)) c.longest_part.ensures
