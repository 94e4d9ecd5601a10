-- The pass over the desk's sheet, 81 bytes: which lines are ahead at its beginning, after its first step and at its end. Assumes nothing.
use Rattle.std.specs.Prelude.{◌≡◌, refl, [], ◌∷◌}
use Rattle.rules.specs.Opened.{rules}
use Rattle.rules.specs.Examples.{house}
use Rattle.rules.specs.CellLines.{in_column, lines_of_cells}
use Rattle.rules.specs.Places.{past, parts, line_stop, cell_stop, row_stop, header_place}
use Rattle.rules.specs.Description.{stands, part_at}
use Rattle.table.specs.Step.{lines_at, cells_at, rows_at, section_stop, in_sections, in_rows, in_cells, ahead, ahead_end}
use Rattle.table.specs.Pass.{start}
use Rattle.table.specs.declared.step.Left.{Left}

-- behind "ab" a cell of the only row is left, whose line has its length byte at 65; behind that nothing is
abbrev behind_first : Left
behind_first = record { sections = 0; rows = 0; cells = 1; begun = 1; lines = 0 }

abbrev behind_last : Left
behind_last = record { sections = 0; rows = 0; cells = 0; begun = 2; lines = 0 }

pub record Desk : Type 0 where
  pub begins : (start house).at ≡ 53
  pub all : ahead house 53 (start house).left ≡ in_column 0 59 ∷ in_column 1 65 ∷ []
  pub first_taken : ahead house 62 behind_first ≡ in_column 1 65 ∷ []
  pub last_taken : ahead house 81 behind_last ≡ []
  pub ends : ahead_end house 53 (start house).left ≡ 81

pub desk : Desk
unfolding rules stands part_at past parts line_stop cell_stop row_stop header_place lines_of_cells lines_at cells_at rows_at section_stop in_sections in_rows in_cells ahead ahead_end
desk = record { begins = refl; all = refl; first_taken = refl; last_taken = refl; ends = refl }
