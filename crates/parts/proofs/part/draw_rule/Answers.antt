use Rattle.parts.proofs.Bands.{rule-none, rule-full, rule-one, rule-room}
use Rattle.parts.proofs.part.draw_rule.Goals as goal

pub returns-in-None : goal.returns-in-None
returns-in-None c = rw c.nothing.ensures (rule-none _ _ _ c.in-None.is)

pub returns-then-page-size : goal.returns-then-page-size
returns-then-page-size c =
    rw c.nothing-then-page-size.ensures (rule-full _ _ _ _ c.in-Some.is _ (c.requires.1 _ c.in-Some.is) c.if-page-size.true)

pub draw_line-bytes-requires : goal.draw_line-bytes-requires
draw_line-bytes-requires c =
    record {
      narrow_all = c.requires.0;
      style_in_bounds = rule-room _ _ _ _ c.in-Some.is _ (c.requires.1 _ c.in-Some.is) c.if-page-size.false;
    }

pub returns : goal.returns
returns c =
    rule-one _ _ _ _ c.in-Some.is _ (c.requires.1 _ c.in-Some.is) c.draw_line-bytes.result c.draw_line-bytes.new.page c.if-page-size.false
    c.draw_line-bytes.ensures.value c.draw_line-bytes.ensures.page_after
