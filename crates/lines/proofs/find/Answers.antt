use mathlib.Core.Path.{sym, ◌∙◌}
use Rattle.lines.proofs.Walks.{found_past, found_short, found_there}
use Rattle.lines.proofs.find.Goals as goal

pub returns-then-is_end : goal.returns-then-is_end
returns-then-is_end c =
    let S = c.seek-sought.ensures in
    (found_past c.args.p.now.sheet.now c.args.p.now.info c.args.k _ S (sym c.is_end.ensures ∙ c.if-is_end.true) c.args.room, S.at)

pub at-part-requires : goal.at-part-requires
at-part-requires c = c.seek-sought.ensures.at.rows

pub line_size-size-requires : goal.line_size-size-requires
line_size-size-requires c =
    let A = c.at-part.ensures in
    record { known = A.known; n_in_bounds = rw A.lines (c.seek-sought.ensures.some (sym c.is_end.ensures ∙ c.if-is_end.false)) }

pub returns-then-room-size : goal.returns-then-room-size
returns-then-room-size c =
    let S = c.seek-sought.ensures in
    let size = rw c.at-part.ensures.lines at c.line_size-size.ensures in
    let short = found_short c.args.p.now.sheet.now c.args.p.now.info c.args.k _ S (sym c.is_end.ensures ∙ c.if-is_end.false) _ size in
    (short c.args.room c.if-room-size.true, S.at)

pub returns : goal.returns
returns c =
    found_there c.args.p.now.sheet.now c.args.p.now.info c.args.k _ c.seek-sought.ensures
    (sym c.is_end.ensures ∙ c.if-is_end.false) _ (rw c.at-part.ensures.lines at c.line_size-size.ensures) c.args.room
    c.if-room-size.false
