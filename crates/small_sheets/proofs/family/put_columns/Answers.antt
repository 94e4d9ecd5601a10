use Rattle.small_sheets.proofs.Puts.{columns-put}
use Rattle.small_sheets.proofs.family.put_columns.Goals as goal

pub returns : goal.returns
returns c =
    let r = columns-put c.args.sheet.now c.args.at c.args.columns c.copy-p.new.dst c.fill-q.new.dst c.copy.new.dst c.copy-p.result c.fill-q.result
    c.copy.result c.requires.columns_in_bounds
    c.copy-p.ensures.value c.copy-p.ensures.dst_after c.fill-q.ensures.value c.fill-q.ensures.dst_after c.copy.ensures.value c.copy.ensures.dst_after in record { value = r.0; sheet_after = r.1 }
