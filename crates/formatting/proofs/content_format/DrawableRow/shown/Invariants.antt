use Prim.Native.Nat.{◌+◌, ◌-◌, ◌*◌}
use Rattle.std.specs.Prelude.{length}
use Rattle.rules.specs.Limits.{most_lines}
use Rattle.table.specs.Walk.{first_row}
use Rattle.row.specs.Visible.{KnownLeft}
use Rattle.row.proofs.Heights.{Adding}
use Rattle.formatting.specs.Shown.{pairs_shown}
use Rattle.formatting.proofs.content_format.DrawableRow.shown.Given as goal

abbrev pub invariant-loop-v : goal.invariant-loop-v
invariant-loop-v l =
    Adding (pairs_shown l.indicator l.limit l.first (l.end - l.first)) (32768 * (most_lines + 1)) l.self.sheet.now l.self.columns.now (first_row l.self.sheet.now l.self.here).cells
    l.v-iterator l.sum (length l.yielded)
    × KnownLeft l.self.plain l.v-iterator
