use Rattle.std.proofs.Common.{rules}
use native.Mathlib.Omega.{arith}
use Rattle.constraint.specs.Set.{set_width}
use Rattle.constraint.proofs.Bits.{add-lt, bit-zero, shift}
use Rattle.constraint.proofs.column_set.ColumnSet.insert.Goals as goal

pub overflow_add-self : goal.overflow_add-self
overflow_add-self c =
    let s = c.args.self.now.0 in
    let i = c.args.i in
    record { fits = rw (shift i (omega arith)) (add-lt set_width s i (omega arith) (search rules) (bit-zero s i c.requires.1)) }
