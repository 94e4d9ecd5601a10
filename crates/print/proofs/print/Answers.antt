use native.Mathlib.Omega.{arith}
use mathlib.Core.Path.{refl, sym, ◌∙◌}
use lib.Seq.{length-take-le}
use Rattle.page.proofs.Answers.{plain_table}
use Rattle.print.proofs.Rounds.{standing-first, standing_few, round_bytes, round_less}
use Rattle.print.proofs.print.Goals as goal

pub open-p-requires : goal.open-p-requires
open-p-requires g c = plain_table _ _ c.in-Ok.ensures

pub loop-p-init : goal.loop-p-init
loop-p-init g c = (standing-first _ _ c.open-p.result.opened _ c.first-c.ensures, refl)

pub write-part-requires : goal.write-part-requires
write-part-requires g c =
    let O = c.open-p.result.opened in
    let i = c.loop-p.invariant.0 in
    (i.at, standing_few _ _ O _ i)

pub slice_bounds-write_all-end : goal.slice_bounds-write_all-end
slice_bounds-write_all-end g c =
    omega (
      arith,
      round_bytes _ _ c.open-p.result.opened _ c.loop-p.invariant.0 _ _ _ c.write-part.ensures,
      c.write-part.auto.page,
    )

pub slice_bounds-write_all-end-in-loop-p : goal.slice_bounds-write_all-end-in-loop-p
slice_bounds-write_all-end-in-loop-p g c =
    sym (length-take-le _ _ (omega (
      arith,
      round_bytes _ _ c.open-p.result.opened _ c.loop-p.invariant.0 _ _ _ c.write-part.ensures,
      c.write-part.auto.page,
    )))

pub loop-p-smaller : goal.loop-p-smaller
loop-p-smaller g c =
    round_less _ _ c.open-p.result.opened _ c.loop-p.invariant.0 _ _ _ c.write-part.ensures
    (sym c.is_end.ensures ∙ c.loop-p-test.true)
    (omega (arith, c.requires, c.loop-p.invariant.1))
