-- Where characters begin: a text is sound with a printable delimiter, and so is what follows a part of it. Assumes nothing.
use Prim.Native.Nat.{ℕ}
use mathlib.Core.Path.{◌≡◌}
use mathlib.Core.List.{List}
use mathlib.Core.Bool.{false}
use native.Mathlib.Omega.{arith}
use lib.ListN.{get_or}
use Rattle.rules.specs.Text.{is_second}
use Rattle.rules.specs.Limits.{Printable, IsText}
use Rattle.laws.proofs.Texts.{printable-first, text-after, text_begins}
use Rattle.content_split.specs.Cut.{Sound}

-- a text, from a character on
pub sound_text : (d : ℕ) (t : List ℕ) (n : ℕ) → Printable d → IsText t → is_second (get_or t n 0) ≡ false → Sound d t n
sound_text d t n p h b = record {
  first = printable-first d p;
  begins = b;
  after = λ k l e. text-after h k (omega (arith, e, p.0), omega (arith, e, p.1));
}

-- all of it
pub sound-all : (d : ℕ) (t : List ℕ) → Printable d → IsText t → Sound d t 0
sound-all d t p h = sound_text d t 0 p h (text_begins h)
