use mathlib.Core.Path.{◌∙◌}
use Rattle.row.specs.declared.CellAlignment.TheVariants.{Left}
use Rattle.display_info.proofs.Opening.{show_hidden, show-visible}
use Rattle.display_info.proofs.show_column.Goals as goal

pub returns-then-is_hidden : goal.returns-then-is_hidden
returns-then-is_hidden c = show_hidden _ _ _ _ _ _ c.is_hidden.ensures c.if-is_hidden.true

pub returns : goal.returns
returns c =
    rw (c.from.ensures, c.from-2.ensures, c.from-3.ensures) at c.push.ensures.items
    ∙ show-visible c.args.columns.now.items c.args.j c.args.c c.args.width c.args.delimiter _ _ _ c.is_hidden.ensures c.if-is_hidden.false
    (c.unwrap_or.ensures ∙ c.set.ensures c.args.delimiter) (c.unwrap_or-2.ensures ∙ c.of.ensures Left)
