use Prim.Native.Nat.{◌+◌}
use mathlib.Core.Path.{◌≡◌}
use Rattle.rules.specs.Text.{text_width}
use Rattle.std.specs.Slice.Iter.{chunks_rest, chunks_size}
use Rattle.text_width.proofs.count.Given as goal

abbrev pub invariant-loop-few : goal.invariant-loop-few
invariant-loop-few l = (goal.iterator-loop-few).can_next l.few-iterator × (goal.iterator-loop-few).is_finite l.few-iterator
    × (chunks_size l.few-iterator ≡ 255) × (l.n + text_width (chunks_rest l.few-iterator) ≡ text_width l.text)
