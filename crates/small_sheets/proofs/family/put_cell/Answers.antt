use Rattle.small_sheets.proofs.Puts.{cell-put}
use Rattle.small_sheets.proofs.family.put_cell.Goals as goal

pub returns-clause-sheet_after : goal.returns-clause-sheet_after
returns-clause-sheet_after c =
    (cell-put c.args.sheet.now c.args.at c.args.t c.copy-p.new.dst c.put_text.new.sheet c.copy-p.result c.put_text.result c.requires
    c.copy-p.ensures.value c.copy-p.ensures.dst_after c.put_text.ensures.value c.put_text.ensures.sheet_after).1
