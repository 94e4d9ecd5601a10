-- The wrapped lines of a text, taken one after another. Assumes nothing.
use Rattle.std.specs.Prelude.{◌≡◌, ℕ, List, [], drop, Option, Some, None}
use Rattle.rules.specs.Wrap.{split}
use Rattle.content_split.specs.Parts.{LineIs}
use Rattle.content_split.specs.declared.Part.{Part}
use Rattle.content_split.specs.declared.Parts.{Parts}

-- the lines that are still to come
abbrev pub lines_left : Parts → List (List ℕ)
lines_left s = split s.split.width s.split.delimiter (drop s.from s.split.text.bytes.now)

-- the next of them was given, and those after it are left; or there was none
abbrev pub GivesPart : Parts → Option Part → Parts → Type 0
GivesPart s (Some p) t = (t.split ≡ s.split) × (t.from ≡ p.next)
    × LineIs s.split.width s.split.delimiter s.split.text.bytes.now s.from p.start p.end p.next
GivesPart s None t = (lines_left s ≡ []) × (lines_left t ≡ [])
