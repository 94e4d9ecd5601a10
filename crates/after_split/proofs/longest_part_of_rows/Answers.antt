use Rattle.after_split.proofs.Knowns.{row_known}
use Rattle.after_split.proofs.Tries.{rows_enough, rows-again, rows_done}
use Rattle.after_split.proofs.longest_part_of_rows.Goals as goal

pub longest_part_of_row-found-requires : goal.longest_part_of_row-found-requires
longest_part_of_row-found-requires c = row_known _ _ _ _ c.loop-c-test.true c.row-row.ensures c.loop-c.invariant.known

pub returns-then-saves_too_little : goal.returns-then-saves_too_little
returns-then-saves_too_little c =
    let found = c.longest_part_of_row-found.ensures in
    let so = c.loop-c.invariant in
    rows_enough _ _ _ _ _ _ _ _ _ c.loop-c-test.true c.row-row.ensures found so _ c.saves_too_little.ensures c.if-saves_too_little.true

pub loop-c-preserved : goal.loop-c-preserved
loop-c-preserved c =
    let found = c.longest_part_of_row-found.ensures in
    let so = c.loop-c.invariant in
    rows-again _ _ _ _ _ _ _ _ _ c.loop-c-test.true c.row-row.ensures found so _ c.saves_too_little.ensures c.if-saves_too_little.false

pub returns : goal.returns
returns c = rows_done _ _ _ _ _ _ _ c.loop-c-test.false c.loop-c.invariant
