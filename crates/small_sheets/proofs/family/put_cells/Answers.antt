use native.Mathlib.Omega.{arith}
use Rattle.small_sheets.proofs.Puts.{first-room, second-room, cells-put-one, cells-put_two}
use Rattle.small_sheets.proofs.family.put_cells.Goals as goal

pub put_cell-p-requires : goal.put_cell-p-requires
put_cell-p-requires c = omega (arith, c.requires, first-room c.args.c)

pub put_cell-requires : goal.put_cell-requires
put_cell-requires c =
    omega (arith, c.requires, second-room c.args.c _ c.in-Some.is, c.put_cell-p.ensures.value, c.put_cell-p.auto.sheet)

pub returns-in-Some : goal.returns-in-Some
returns-in-Some c =
    cells-put_two c.args.c _ c.args.sheet.now c.args.at c.put_cell-p.new.sheet c.put_cell.new.sheet c.put_cell-p.result
    c.in-Some.is c.requires c.put_cell-p.ensures.value c.put_cell-p.ensures.sheet_after c.put_cell.ensures.sheet_after

pub returns-in_default : goal.returns-in_default
returns-in_default c = cells-put-one c.args.c c.args.sheet.now c.args.at c.put_cell-p.new.sheet c.in_default.is c.put_cell-p.ensures.sheet_after
