use mathlib.Core.Path.{◌∙◌}
use Rattle.after_split.proofs.Knowns.{cell_known}
use Rattle.after_split.proofs.Tries.{row_short, row_enough, row_there}
use Rattle.after_split.proofs.longest_part_of_row.Goals as goal

pub returns-then-c-eq0 : goal.returns-then-c-eq0
returns-then-c-eq0 c = row_short _ _ _ _ _ _ _ c.skip_cells-c.ensures c.if-c-eq0.true

pub longest_part_of_lines-longest-requires : goal.longest_part_of_lines-longest-requires
longest_part_of_lines-longest-requires c =
    let cell = c.cell-cell.ensures in
    cell_known _ _ _ _ _ _ _ c.skip_cells-c.ensures c.if-c-eq0.false cell (c.unwrap_or.ensures ∙ c.set.ensures _) c.requires

pub returns-then-saves_too_little : goal.returns-then-saves_too_little
returns-then-saves_too_little c =
    let skipped = c.skip_cells-c.ensures in
    let cell = c.cell-cell.ensures in
    let found = c.longest_part_of_lines-longest.ensures in
    row_enough _ _ _ _ _ _ _ skipped _ _ _ c.if-c-eq0.false cell (c.unwrap_or.ensures ∙ c.set.ensures _) found _ c.saves_too_little.ensures _ c.if-saves_too_little.true

pub returns : goal.returns
returns c =
    let skipped = c.skip_cells-c.ensures in
    let cell = c.cell-cell.ensures in
    let found = c.longest_part_of_lines-longest.ensures in
    row_there _ _ _ _ _ _ _ skipped _ _ _ c.if-c-eq0.false cell (c.unwrap_or.ensures ∙ c.set.ensures _) found _ c.saves_too_little.ensures _ c.skip_cells-last.ensures
