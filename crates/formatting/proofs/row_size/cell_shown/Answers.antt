use native.Mathlib.Omega.{arith}
use mathlib.Core.Path.{sym, ap, ◌∙◌}
use mathlib.Core.Bool.{◌&&◌}
use Rattle.formatting.proofs.Shown.{showing_begins, showing_ends, showing-on}
use Rattle.formatting.proofs.row_size.cell_shown.Goals as goal

-- the cell isn't seen by the loop, so what it needs is said of any lines that it may be opened at

pub loop-j-init : goal.loop-j-init
loop-j-init c = λ ls S. showing_begins _ _ ls _ _ _ _ c.requires.first_le_end.0 _ S

pub returns-then-not-has_line : goal.returns-then-not-has_line
returns-then-not-has_line c =
    let o = c.open_cell-t.ensures.0 in
    let G = c.loop-j.invariant _ o.stands in (
      showing_ends _ _ _ _ _ _ _ _ _ _ G (sym c.if-not-has_line.true ∙ c.has_line.ensures),
      omega (arith, G.small, G.within, G.onward, c.requires.first_le_end.1),
    )

pub loop-j-preserved : goal.loop-j-preserved
loop-j-preserved c =
    λ ls S.
    let G = c.loop-j.invariant ls S in
    let f = c.if-not-has_line.false in
    showing-on _ _ ls _ _ _ _ _ _ _ G (sym f ∙ c.has_line.ensures)
    c.loop-j-test.true _ c.advance-u.ensures _
    (ap (λ b. b && c.advance-u.result.line.found) c.is_last.ensures) _ c.shown_pairs-n.ensures
