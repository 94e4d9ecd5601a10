-- What is written where. Assumes nothing.
use Rattle.std.specs.Prelude.{ℕ, zero, suc, List, [], ◌∷◌, ◌++◌, Option, Some, None, length, take, drop}

-- d with the list l written over its start
unfoldable pub over : List ℕ → List ℕ → List ℕ
over l d = l ++ drop (length l) d

-- d with the list l written over it from place at
unfoldable pub put_at : List ℕ → ℕ → List ℕ → List ℕ
unfolding over
put_at d at l = take at d ++ over l (drop at d)

-- the pieces g 0, g 1, .. g (n - 1), one after the other
abbrev pub build : (ℕ → List ℕ) → ℕ → List ℕ
build g zero = []
build g (suc n) = build g n ++ g n

-- a character that is drawn, if there is one
abbrev pub drawn : Option ℕ → List ℕ
drawn (Some b) = b ∷ []
drawn None = []

-- a junction stands before every visible column but the first
abbrev pub lead : ℕ → Option ℕ → Option ℕ
lead zero junction = None
lead (suc i) junction = junction
