use native.Mathlib.Omega.{arith}
use mathlib.Core.Path.{ap, ◌∙◌}
use Prim.Native.Nat.{◌+◌}
use lib.ListN.{length}
use Rattle.buffer.specs.Put.{put_at}
use Rattle.small_sheets.specs.Parts.{columns_bytes}
use Rattle.small_sheets.proofs.Puts.{parts-length, sheet-put}
use Rattle.small_sheets.proofs.family.put_sheet.Goals as goal

pub put_head-p-requires-clause-target_in_bounds : goal.put_head-p-requires-clause-target_in_bounds
put_head-p-requires-clause-target_in_bounds c = omega (arith, c.requires, parts-length c.args.c)

pub put_columns-q-requires-clause-columns_in_bounds : goal.put_columns-q-requires-clause-columns_in_bounds
put_columns-q-requires-clause-columns_in_bounds c =
    rw c.columns.ensures.0 (omega (arith, c.requires, parts-length c.args.c, c.put_head-p.ensures.value, c.put_head-p.auto.sheet))

pub put_cells-requires : goal.put_cells-requires
put_cells-requires c =
    omega (
      arith,
      c.requires,
      parts-length c.args.c,
      c.put_head-p.ensures.value,
      c.put_head-p.auto.sheet,
      ap (λ n. length (columns_bytes n)) c.columns.ensures.0,
      c.put_columns-q.ensures.value,
      c.put_columns-q.auto.sheet,
    )

pub returns : goal.returns
returns c =
    let e = c.columns.ensures.0 in
    sheet-put c.args.sheet.now c.args.c c.put_head-p.new.sheet c.put_columns-q.new.sheet c.put_cells.new.sheet c.put_head-p.result c.put_columns-q.result
    c.put_head-p.ensures.value c.put_head-p.ensures.sheet_after
    (c.put_columns-q.ensures.value ∙ ap (λ n. c.put_head-p.result + length (columns_bytes n)) e)
    (c.put_columns-q.ensures.sheet_after ∙ ap (λ n. put_at c.put_head-p.new.sheet c.put_head-p.result (columns_bytes n)) e)
    c.put_cells.ensures
