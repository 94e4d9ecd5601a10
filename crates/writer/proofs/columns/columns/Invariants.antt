-- `writer::columns::columns` meets its contract. The loop: what is left to walk from here comes to what there was to walk. Assumes nothing.
use Prim.Native.Nat.{◌-◌}
use mathlib.Core.Path.{◌≡◌}
use Rattle.rules.specs.Format.{column}
use Rattle.editor.specs.Walk.{state, walk_of, again, walked}
use Rattle.writer.proofs.columns.columns.Given as goal

abbrev pub invariant-loop : goal.invariant-loop
invariant-loop l = again (l.end - l.counter) (λ u. walked column l.table.numbers.now l.table.text.now u) (state (walk_of l.at) l.sheet)
    ≡ again l.end (λ u. walked column l.table.numbers.now l.table.text.now u) (state (walk_of l.initial.at) l.initial.sheet)
