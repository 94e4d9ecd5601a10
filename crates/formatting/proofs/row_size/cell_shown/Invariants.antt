use Prim.Native.Nat.{ℕ}
use mathlib.Core.List.{List}
use Rattle.row.specs.Pending.{Stands}
use Rattle.formatting.proofs.Shown.{Showing}
use Rattle.formatting.proofs.row_size.cell_shown.Given as goal

abbrev pub invariant-loop-j : goal.invariant-loop-j
invariant-loop-j l = (ls : List (List ℕ)) → Stands l.sheet l.v ls l.first l.initial.t
    → Showing l.sheet l.v ls l.indicator l.limit l.first l.end l.t l.n l.j
