-- A set of columns as a number with a bit for each. Assumes nothing.
use Rattle.std.specs.Prelude.{ℕ, ◌+◌, ◌/◌, ◌%◌, ◌^◌, Bool, eqb}
use Rattle.std.specs.Int.Count.{ones}
use Rattle.constraint.specs.declared.column_set.ColumnSet.{ColumnSet}

-- the columns that the number has bits for
abbrev pub set_width : ℕ
set_width = 16

abbrev pub bit : ℕ → ℕ → ℕ
bit s i = s / 2 ^ i % 2

abbrev pub contains : ColumnSet → ℕ → Bool
contains s i = eqb (bit s.0 i) 1

-- a column that isn't in the set is added
abbrev pub insert : ColumnSet → ℕ → ColumnSet
insert s i = record { 0 = s.0 + 2 ^ i }

abbrev pub len : ColumnSet → ℕ
len s = ones s.0
