-- From what `next` ensures of the lines of a text to what is said of them all. Assumes nothing.
use Prim.Native.Nat.{ℕ, max}
use mathlib.Core.Path.{◌≡◌, ap, sym, ◌∙◌}
use mathlib.Core.List.{List, [], ◌∷◌, map}
use native.Mathlib.Omega.{arith}
use lib.ListN.{length}
use lib.Seq.{slice}
use Rattle.std.specs.Prelude.{Some}
use Rattle.std.specs.Iterator.{Yields, Drains}
use Rattle.rules.specs.Text.{text_width, greatest}
use Rattle.content_split.specs.Steps.{lines_left, GivesPart}
use Rattle.content_split.specs.declared.Part.{Part}
use Rattle.content_split.specs.declared.Parts.{Parts}

-- a line was given, and those after it are left
pub line_given : (s t : Parts) (p : Part) → GivesPart s (Some p) t → lines_left s ≡ slice p.start p.end s.split.text.bytes.now ∷ lines_left t
line_given s t p g = rw (g.0, g.1) g.2.wraps

-- as many are given as there are
given_all : (xs : List Part) (s t : Parts) → Yields GivesPart s xs t → lines_left t ≡ [] → length xs ≡ length (lines_left s)
given_all [] s t e n = sym (ap length (ap lines_left e ∙ n))
given_all (p ∷ xs) s t y n = omega (arith, given_all xs y.0 t y.2 n, ap length (line_given s y.0 p y.1))

pub counted_all : (xs : List Part) (s : Parts) → Drains GivesPart s xs → length xs ≡ length (lines_left s)
counted_all xs s d = given_all xs s d.1.0 d.1.1 d.1.2.0

-- the longest of those that are left, once one was given
pub longest-on : (s t : Parts) (p : Part) → GivesPart s (Some p) t
    → greatest (map text_width (lines_left s)) ≡ max (text_width (slice p.start p.end s.split.text.bytes.now)) (greatest (map text_width (lines_left t)))
unfolding greatest
longest-on s t p g = rw (line_given s t p g)

pub longest-none : {ls : List (List ℕ)} → ls ≡ [] → greatest (map text_width ls) ≡ 0
unfolding greatest
longest-none q = rw q
