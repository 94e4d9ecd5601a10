-- The bytes of a small sheet, part by part, as they are written. Assumes nothing.
use Rattle.std.specs.Prelude.{ℕ, ◌*◌, List, [], ◌∷◌, ◌++◌, length, replicate}

-- the bytes of a cell; those before the cells: up to the style, and from the column count on
abbrev pub cell_bytes : List ℕ → List ℕ
cell_bytes x = 0 ∷ 0 ∷ 1 ∷ length x ∷ x

abbrev pub head_bytes : ℕ → ℕ → List ℕ
head_bytes a w = 1 ∷ a ∷ w ∷ 0 ∷ 0 ∷ 0 ∷ 22 ∷ replicate 22 0

abbrev pub columns_bytes : ℕ → List ℕ
columns_bytes n = (n ∷ replicate (n * 11) 0) ++ (0 ∷ 1 ∷ 0 ∷ n ∷ [])
