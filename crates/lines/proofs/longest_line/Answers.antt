use mathlib.Core.Path.{sym, ◌∙◌}
use Rattle.lines.proofs.Longest.{by_top, by_bottom, no_lines, by_line}
use Rattle.lines.proofs.longest_line.Goals as goal

pub returns-then-is_some : goal.returns-then-is_some
returns-then-is_some c = by_top _ _ c.args.p.now.opened (sym c.is_some.ensures ∙ c.if-is_some.true)

pub returns-then-is_some-2 : goal.returns-then-is_some-2
returns-then-is_some-2 c = by_bottom _ _ c.args.p.now.opened (sym c.is_some-2.ensures ∙ c.if-is_some-2.true)

pub returns-then-is_end : goal.returns-then-is_end
returns-then-is_end c =
    no_lines _ _ c.args.p.now.opened _ c.seek-first.ensures (sym c.is_end.ensures ∙ c.if-is_end.true)

pub returns : goal.returns
returns c =
    by_line _ _ c.args.p.now.opened _ c.seek-first.ensures (sym c.is_some.ensures ∙ c.if-is_some.false)
    (sym c.is_some-2.ensures ∙ c.if-is_some-2.false) (sym c.is_end.ensures ∙ c.if-is_end.false)
