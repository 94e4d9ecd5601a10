-- `sheet::text::line_bytes` meets its contract. Assumes nothing.
use Rattle.sheet.proofs.Pairs.{past_whole, past_rest}
use Rattle.sheet.proofs.text.line_bytes.Goals as goal

pub returns-then-end-i : goal.returns-then-end-i
returns-then-end-i c =
    rw (← c.from.ensures)
    (past_whole c.args.pairs _ _ _ _ _ c.requires c.min-inside.ensures c.past_printable-i.ensures c.if-end-i.true)

pub returns : goal.returns
returns c =
    rw (← c.from.ensures)
    (past_rest c.args.pairs _ _ _ _ _ c.requires c.min-inside.ensures c.past_printable-i.ensures _ c.bytes.ensures)
