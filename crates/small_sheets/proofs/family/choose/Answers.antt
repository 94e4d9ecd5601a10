use mathlib.Core.Path.{sym}
use native.Mathlib.Omega.{arith}
use Rattle.small_sheets.proofs.Tables.{one-row-count, two_rows-count}
use Rattle.small_sheets.proofs.Numbers.{one_choice, two_choice}
use Rattle.small_sheets.proofs.family.choose.Goals as goal

pub place_in-requires-clause-rows_counted : goal.place_in-requires-clause-rows_counted
place_in-requires-clause-rows_counted c = sym one-row-count

pub one_column-requires : goal.one_column-requires
one_column-requires c = omega (arith, c.place_in.ensures.row, one-row-count)

pub returns-then-n-lt-ONE_COLUMN : goal.returns-then-n-lt-ONE_COLUMN
returns-then-n-lt-ONE_COLUMN c = one_choice _ _ _ c.if-n-lt-ONE_COLUMN.true c.place_in.ensures c.one_column.ensures

pub place_in-requires-2-clause-rows_counted : goal.place_in-requires-2-clause-rows_counted
place_in-requires-2-clause-rows_counted c = sym two_rows-count

pub two_columns-requires : goal.two_columns-requires
two_columns-requires c = omega (arith, c.place_in-2.ensures.row, two_rows-count)

pub returns : goal.returns
returns c = two_choice _ _ _ c.if-n-lt-ONE_COLUMN.false c.place_in-2.ensures c.two_columns.ensures
