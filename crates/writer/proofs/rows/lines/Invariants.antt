-- `writer::rows::lines` meets its contract. The loop: what is left to walk from here comes to what there was to walk. Assumes nothing.
use Prim.Native.Nat.{◌-◌}
use mathlib.Core.Path.{◌≡◌}
use Rattle.rules.specs.Format.{line}
use Rattle.editor.specs.Walk.{state, walk_of, again, walked}
use Rattle.writer.proofs.rows.lines.Given as goal

abbrev pub invariant-loop : goal.invariant-loop
invariant-loop l = again (l.end - l.counter) (λ u. walked line l.table.numbers.now l.table.text.now u) (state (walk_of l.at) l.sheet)
    ≡ again l.end (λ u. walked line l.table.numbers.now l.table.text.now u) (state (walk_of l.initial.at) l.initial.sheet)
