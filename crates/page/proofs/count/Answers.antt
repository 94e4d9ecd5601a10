-- `page::count` meets its contract. Assumes nothing.
use Rattle.rules.specs.Calls.{count}
use Rattle.page.proofs.Answers.{accepted, plain_table, refused_by, count-all, count_accepted}
use Rattle.page.proofs.count.Goals as goal

pub returns-in-Err : goal.returns-in-Err
unfolding count
returns-in-Err c = rw (c.from.ensures, refused_by _ _ c.in-Err.ensures.checked)

pub open-p-requires : goal.open-p-requires
open-p-requires c = let e = c.in-Ok.ensures in plain_table _ _ e

pub returns : goal.returns
returns c =
    let h = accepted _ _ c.in-Ok.ensures in
    let o = c.open-p.ensures in
    let t = count-all _ h _ o.all_rows _ (rw o.same_sheet at c.count-totals.ensures) in
    count_accepted _ h _ t.0 t.1
