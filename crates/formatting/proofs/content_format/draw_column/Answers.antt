use native.Mathlib.Omega.{arith}
use mathlib.Core.Path.{refl, sym, ap, ◌∙◌}
use lib.ListN.{length}
use Rattle.buffer.specs.Put.{put_at, drawn}
use Rattle.formatting.specs.Area.{column_piece}
use Rattle.buffer.proofs.Laws.{two}
use Rattle.formatting.proofs.Area.{piece_is}
use Rattle.formatting.proofs.content_format.draw_column.Goals as goal

pub draw_cell-q-requires : goal.draw_cell-q-requires
draw_cell-q-requires c =
    let ind = c.args.indicator.now in
    let z = ap length (piece_is c.args.sheet.now c.args.v c.args.t c.advance-next.result ind c.args.last _ refl c.advance-next.ensures) in
    record {
      in_sheet = (c.requires.ready.0.line, c.requires.ready.1);
      t_in_bounds = omega (arith, z, c.requires.last_in_bounds, c.draw_edge-p.ensures.value, c.draw_edge-p.auto.dst);
    }

pub returns : goal.returns
returns c =
    let ind = c.args.indicator.now in
    let p = piece_is c.args.sheet.now c.args.v c.args.t c.advance-next.result ind c.args.last _ refl c.advance-next.ensures in
    record {
      place = (omega (arith, c.draw_cell-q.ensures.value, c.draw_edge-p.ensures.value, ap length p), c.advance-next.ensures);
      page_after = two c.args.page.now c.args.at (drawn c.args.junction) (column_piece c.args.sheet.now c.args.v c.args.t ind c.args.last)
          c.draw_edge-p.new.dst c.draw_cell-q.new.page c.draw_edge-p.result c.draw_edge-p.ensures.dst_after (c.draw_cell-q.ensures.page_after ∙ ap (put_at c.draw_edge-p.new.dst c.draw_edge-p.result) p)
          (sym c.draw_edge-p.ensures.value) (omega (arith, c.requires.last_in_bounds));
    }
