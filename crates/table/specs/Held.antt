-- What an accepted sheet holds, and the records that the code hands out of it. Assumes nothing.
use Rattle.std.specs.Prelude.{ℕ, ◌≡◌, List, []}
use Rattle.arrayvec.specs.ArrayVec.{ArrayVec}
use Rattle.rules.specs.declared.Column.{Column}
use Rattle.rules.specs.Sheet.{Table}
use Rattle.rules.specs.Field.{Read, got, refused}
use Rattle.rules.specs.Format.{sheet}
use Rattle.rules.specs.Calls.{check}
use Rattle.table.specs.declared.records.Settings.{Settings}

-- the check answers 0
abbrev pub IsAccepted : List ℕ → Type 0
IsAccepted s = (check s).number ≡ 0

abbrev no_table : Table
no_table = record { edition = 0; arrangement = 0; target = 0; delimiter = 0; indicator = []; style = []; columns = []; header = []; rows = [] }

abbrev held_by : Read Table → Table
held_by (got t p) = t
held_by (refused n p) = no_table

-- the definition's table of a sheet that passes
unfoldable pub table_of : List ℕ → Table
table_of s = held_by (sheet s)

-- the settings of the whole table
unfoldable pub settings_of : Table → Settings
settings_of t = record { arrangement = t.arrangement; target = t.target; delimiter = t.delimiter }

-- the columns
unfoldable pub columns_of : Table → ArrayVec Column
columns_of t = record { items = t.columns }
