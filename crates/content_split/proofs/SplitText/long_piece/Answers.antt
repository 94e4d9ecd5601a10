use Prim.Native.Nat.{ℕ, ◌-◌}
use mathlib.Core.Path.{◌≡◌, refl}
use mathlib.Core.List.{List}
use mathlib.Core.Bool.{Bool, true, false}
use native.Mathlib.Omega.{arith}
use lib.Dec.{ltb}
use borrow.Author.Tests.{ltb-true, ltb-false}
use Rattle.text_width.specs.Measure.{Reach}
use Rattle.text_width.proofs.Measure.{reached-all}
use Rattle.content_split.specs.Cut.{Near, Long}
use Rattle.content_split.proofs.Back.{few_bytes, few_columns, past-width, within-width}
use Rattle.content_split.proofs.SplitText.long_piece.Goals as goal

-- a piece that goes on past the width is longer
told : (w d : ℕ) (t : List ℕ) (s z e : ℕ) → Reach t s w z → Near d t s (z - s) e → (b : Bool) → ltb z e ≡ b → Long w d t s b
told w d t s z e r n true q = past-width w d t s r n (ltb-true z e q)
told w d t s z e r n false q = within-width w d t s r n (ltb-false z e q)

pub returns-then-text-from : goal.returns-then-text-from
returns-then-text-from c = few_bytes _ _ _ _ c.if-text-from.true

pub returns-then-far-gt0 : goal.returns-then-far-gt0
returns-then-far-gt0 c = few_columns _ _ _ _ c.reach-far.ensures c.if-far-gt0.true

pub returns : goal.returns
returns c = told _ _ _ _ _ _ (reached-all _ (omega arith) c.reach-far.ensures) c.piece_end-e.ensures _ refl
