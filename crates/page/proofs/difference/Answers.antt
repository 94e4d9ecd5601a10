use borrow.Author.Rules.{rules}
use mathlib.Core.Path.{◌∙◌}
use mir.Syntax.{w32}
use mir.ValLaws.{to_z-of_z}
use Rattle.page.proofs.Reasoned.{no_difference, some-difference}
use Rattle.page.proofs.difference.Goals as goal

pub returns-then-target-eq0 : goal.returns-then-target-eq0
returns-then-target-eq0 c = search (rules, no_difference)

pub returns : goal.returns
returns c =
    to_z-of_z w32 c.difference.result (record { sfits = c.difference.type_inv })
    ∙ some-difference _ _ _ _ _ c.requires.arranged.1 c.if-target-eq0.false
    (rw c.open_by-p.ensures.same_sheet at c.longest_line-longest.ensures) c.open_by-p.ensures.all_rows c.difference.ensures
