-- The course of a table's widths. Assumes nothing.
use Rattle.std.specs.Prelude.{ℕ, ◌<◌, ◌≡◌, true, false, not, length, get_or}
use Rattle.rules.specs.Sheet.{Table, column_at, is_hidden}
use Rattle.rules.specs.Widths.{State, is_untargeted, is_undecided, start, longest_part, contents}
use Rattle.rules.specs.Fixing.{after1, after2, after3}
use Rattle.constraint.specs.declared.column_set.ColumnSet.{ColumnSet}
use Rattle.constraint.specs.Set.{contains}
use Rattle.arrangement.specs.declared.dynamic.Course.{Course}
use Rattle.arrangement.specs.declared.Found.{Found}
use Rattle.arrangement.specs.Arrange.{arranged}
use Rattle.arrangement.specs.Describes.{Describes}

-- of the visible columns the set has exactly those that are decided
abbrev pub Decided : Table → ColumnSet → State → Type 0
Decided t set s = (j : ℕ) → j < length t.columns → is_hidden (column_at t j) ≡ false → contains set j ≡ not (is_undecided s j)

-- the columns decided after each step, and the widths before and after step 4
pub record CourseIs (t : Table) (c : Course) : Type 0 where
  pub first : Decided t c.first (start t)
  pub lower : is_untargeted t ≡ false → Decided t c.lower (after1 t)
  pub fitted : is_untargeted t ≡ false → Decided t c.fitted (after2 t)
  pub split : is_untargeted t ≡ false → Decided t c.split (after3 t)
  pub before : is_untargeted t ≡ false → (j : ℕ) → j < length t.columns → get_or c.before j 0 ≡ get_or (after3 t).widths j 0
  pub content : (j : ℕ) → j < length t.columns → get_or c.state.widths j 0 ≡ get_or (contents t) j 0
  pub unshared : is_untargeted t ≡ true → c.before ≡ c.state.widths

-- the layout describes the table, and the course is that of its widths by this layout
pub record FoundIs (t : Table) (a : Found) : Type 0 where
  pub describes : Describes a.layout t
  pub course : a.course ≡ arranged (longest_part t) a.layout
