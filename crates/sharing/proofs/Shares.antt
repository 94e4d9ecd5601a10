-- The columns that are still to be widened. Assumes nothing.
use Prim.Native.Nat.{ℕ, ◌+◌, ◌≤◌}
use mathlib.Core.Path.{sym, subst}
use native.Mathlib.Omega.{arith}
use lib.ListN.{get_or}
use lib.Seq.{get_or-set_other}
use Rattle.constraint.specs.declared.State.{State}
use Rattle.sharing.specs.Share.{widened}

-- the columns that are still to come keep their widths
abbrev pub Ahead : ℕ → State → Type 0
Ahead i s = (k : ℕ) → i ≤ k → get_or s.widths k 0 ≤ 400

pub widened_ahead : (s : State) (i n : ℕ) → Ahead i s → Ahead (i + 1) (widened s i n)
widened_ahead s i n h k l = subst (λ (z : ℕ). z ≤ 400) (sym (get_or-set_other s.widths i k _ 0 (λ e. omega arith))) (h k (omega arith))
