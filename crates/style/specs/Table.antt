-- The arrangement by the sheet's code, and the target. Assumes nothing.
use Rattle.std.specs.Prelude.{ℕ, Bool, true, false, Option, Some, None, eqb}
use Rattle.style.specs.declared.table.ContentArrangement.{ContentArrangement}
use Rattle.style.specs.declared.table.ContentArrangement.TheVariants.{Disabled, Dynamic, DynamicFullWidth}

-- 0 `Disabled`, 2 `DynamicFullWidth`, else `Dynamic`
unfoldable pub arrangement_of : ℕ → ContentArrangement
arrangement_of n = elim (eqb n 0) [ true ↦ Disabled | false ↦ elim (eqb n 2) [ true ↦ DynamicFullWidth | false ↦ Dynamic ] ]

abbrev pub is_disabled : ContentArrangement → Bool
is_disabled Disabled = true
is_disabled Dynamic = false
is_disabled DynamicFullWidth = false

abbrev pub is_full : ContentArrangement → Bool
is_full Disabled = false
is_full Dynamic = false
is_full DynamicFullWidth = true

-- target 0 is none
unfoldable pub target_of : ℕ → Option ℕ
target_of n = elim (eqb n 0) [ true ↦ None | false ↦ Some n ]
