use Rattle.small_sheets.proofs.Puts.{head-put}
use Rattle.small_sheets.proofs.family.put_head.Goals as goal

pub returns : goal.returns
returns c =
    let r = head-put c.args.sheet.now c.args.arrangement c.args.target c.copy-p.new.dst c.fill.new.dst c.copy-p.result c.fill.result c.requires.target_in_bounds
    c.copy-p.ensures.value c.copy-p.ensures.dst_after c.fill.ensures.value c.fill.ensures.dst_after in record { value = r.0; sheet_after = r.1 }
