use Prim.Native.Nat.{max}
use mathlib.Core.Path.{◌≡◌}
use mathlib.Core.List.{map}
use Rattle.rules.specs.Wrap.{split}
use Rattle.rules.specs.Text.{text_width, greatest}
use Rattle.content_split.specs.Steps.{lines_left}
use Rattle.content_split.proofs.SplitText.longest_part.Given as goal

abbrev pub invariant-loop-part : goal.invariant-loop-part
invariant-loop-part l = (l.part-iterator.split ≡ l.self)
    × (greatest (map text_width (split l.self.width l.self.delimiter l.self.text.bytes.now)) ≡ max l.longest (greatest (map text_width (lines_left l.part-iterator))))
