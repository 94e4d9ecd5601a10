use native.Mathlib.Omega.{arith}
use mathlib.Core.Path.{sym}
use Rattle.buffer.specs.Put.{drawn}
use Rattle.borders.specs.Rule.{rule_area}
use Rattle.buffer.proofs.Laws.{two}
use Rattle.borders.proofs.draw_fill.Goals as goal

pub returns : goal.returns
returns c =
    record {
      value = omega (arith, c.draw_edge-p.ensures.value, c.fill.ensures.value);
      page_after = two c.args.page.now c.args.at (drawn c.args.junction) (rule_area c.args.v c.args.fill) c.draw_edge-p.new.dst c.fill.new.dst c.draw_edge-p.result c.draw_edge-p.ensures.dst_after
          c.fill.ensures.dst_after (sym c.draw_edge-p.ensures.value) (omega (arith, c.requires.right_in_bounds));
    }
