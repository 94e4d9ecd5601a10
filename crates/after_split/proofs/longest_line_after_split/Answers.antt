use Prim.Native.Nat.{◌≤◌}
use native.Mathlib.Omega.{arith}
use Rattle.rules.specs.Widths.{lifted}
use Rattle.table.specs.Held.{table_of}
use Rattle.after_split.proofs.Knowns.{header_known, all_known}
use Rattle.after_split.proofs.Tries.{header-behind, tried-le, tried_header, tried_both, otherwise_is}
use Rattle.after_split.proofs.longest_line_after_split.Goals as goal

pub longest_part_of_rows-first-requires : goal.longest_part_of_rows-first-requires
longest_part_of_rows-first-requires c =
    let delimiter = otherwise_is (table_of c.args.sheet.now.bytes.now) c.args.column _ _ c.requires c.delimiter-otherwise.ensures in
    header_known _ _ _ _ c.args.sheet.now.accepted delimiter c.header-header.ensures.0 c.header-header.ensures.1

pub overflow_cast-result : goal.overflow_cast-result
overflow_cast-result c =
    let k : c.longest_part_of_rows-first.result.longest ≤ lifted c.from-a.result = tried-le _ _ _ _ _ _ c.longest_part_of_rows-first.ensures in
    let f = c.ranges.average.fits in
    record { fits = omega (arith, c.from-a.ensures) }

pub returns-then-saves_too_little : goal.returns-then-saves_too_little
returns-then-saves_too_little c =
    let column = c.requires in
    let delimiter = otherwise_is (table_of c.args.sheet.now.bytes.now) c.args.column _ _ column c.delimiter-otherwise.ensures in
    rw (← c.from-a.ensures) (tried_header _ _ _ _ _ _ c.longest_part_of_rows-first.ensures _ c.header-header.ensures.0 delimiter _ c.saves_too_little.ensures
    c.if-saves_too_little.true)

pub rows-rows-requires : goal.rows-rows-requires
rows-rows-requires c =
    let found = c.longest_part_of_rows-first.ensures in
    header-behind _ _ _ _ _ _ _ c.saves_too_little.ensures c.if-saves_too_little.false found c.header-header.ensures.1

pub longest_part_of_rows-others-requires : goal.longest_part_of_rows-others-requires
longest_part_of_rows-others-requires c =
    let delimiter = otherwise_is (table_of c.args.sheet.now.bytes.now) c.args.column _ _ c.requires c.delimiter-otherwise.ensures in
    all_known _ _ _ _ c.args.sheet.now.accepted delimiter c.rows-rows.ensures.0 c.rows-rows.ensures.1

pub overflow_cast-result-2 : goal.overflow_cast-result-2
overflow_cast-result-2 c =
    let k : c.longest_part_of_rows-first.result.longest ≤ lifted c.from-a.result = tried-le _ _ _ _ _ _ c.longest_part_of_rows-first.ensures in
    let l : c.longest_part_of_rows-others.result.longest ≤ lifted c.from-a.result = tried-le _ _ _ _ _ _ c.longest_part_of_rows-others.ensures in
    let f = c.ranges.average.fits in
    record { fits = omega (arith, c.max.ensures, c.from-a.ensures) }

pub returns : goal.returns
returns c =
    let column = c.requires in
    let delimiter = otherwise_is (table_of c.args.sheet.now.bytes.now) c.args.column _ _ column c.delimiter-otherwise.ensures in
    let others = c.longest_part_of_rows-others.ensures in
    let rows = c.rows-rows.ensures.0 in
    rw (← c.from-a.ensures) (tried_both _ _ _ _ _ _ c.longest_part_of_rows-first.ensures _ c.header-header.ensures.0 delimiter _ _ _ others c.max.ensures rows)
