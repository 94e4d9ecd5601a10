use mathlib.Core.Path.{ap}
use native.Mathlib.Omega.{arith}
use Rattle.small_sheets.proofs.Puts.{second_length, sheet_size}
use Rattle.small_sheets.proofs.family.size.Goals as goal
use Rattle.small_sheets.proofs.family.size.Goals.{in-Some, in-None}

pub returns : goal.returns
returns c =
    elim c.match-c.branch [
      | in-Some w ↦ omega (arith, c.columns.ensures.0, sheet_size c.args.c, w.second-is, ap second_length w.in-Some.is)
      | in-None w ↦ omega (arith, c.columns.ensures.0, sheet_size c.args.c, w.second-is, ap second_length w.in-None.is)
    ]
