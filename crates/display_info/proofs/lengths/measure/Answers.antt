use Rattle.display_info.specs.Lengths.{measured}
use Rattle.display_info.proofs.lengths.measure.Goals as goal

pub returns : goal.returns
unfolding measured
returns c =
    rw (
      c.where_drawn.ensures.0,
      c.where_drawn-2.ensures.0,
      c.where_drawn-3.ensures.0,
      c.saturating_sub-inside.ensures,
      c.visible_width-sum.ensures.0,
    )
