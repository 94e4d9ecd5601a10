-- The alignments, by the sheet's codes for them. Assumes nothing.
use Rattle.std.specs.Prelude.{ℕ, zero, suc, true, false, eqb}
use Rattle.row.specs.declared.CellAlignment.{CellAlignment}
use Rattle.row.specs.declared.CellAlignment.TheVariants.{Left, Right, Center}

-- 2 right, 3 centre, else left
unfoldable pub of_code : ℕ → CellAlignment
of_code n = elim (eqb n 2) [ true ↦ Right | false ↦ elim (eqb n 3) [ true ↦ Center | false ↦ Left ] ]

-- the code of an alignment
abbrev pub code_of : CellAlignment → ℕ
code_of Left = 1
code_of Right = 2
code_of Center = 3

-- what a code chooses, 0 choosing nothing
abbrev pub aligned : ℕ → CellAlignment → CellAlignment
aligned zero other = other
aligned (suc n) other = of_code (suc n)
