use borrow.Author.Rules.{rules}
use Rattle.small_sheets.proofs.Puts.{put_begins, put-again, put_ends}
use Rattle.small_sheets.proofs.family.put_text.Goals as goal

pub loop-left-init : goal.loop-left-init
loop-left-init c = search (rules, put_begins)

pub loop-left-preserved : goal.loop-left-preserved
loop-left-preserved c = search (rules, put-again)

pub returns : goal.returns
returns c = let r = put_ends c.args.sheet.now c.args.at c.args.t c.loop-left.sheet c.loop-left.left c.loop-left.number c.loop-left.place c.loop-left.invariant c.loop-left-test.false in record { value = r.0; sheet_after = r.1 }
