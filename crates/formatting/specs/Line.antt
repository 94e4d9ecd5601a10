-- A text line, by what stands ready for each visible column. Assumes nothing.
use Rattle.std.specs.Prelude.{ℕ, ◌≤◌, ◌<◌, ◌≡◌, List, [], ◌∷◌, ◌++◌, Bool, length}
use Rattle.rules.specs.Sheet.{most_columns}
use Rattle.buffer.specs.Put.{build, drawn, lead}
use Rattle.row.specs.declared.Pending.{Pending}
use Rattle.row.specs.View.{View, visible_at}
use Rattle.row.specs.Pending.{pending_at, Ready}
use Rattle.formatting.specs.Area.{After, column_piece}
use Rattle.buffer.specs.declared.Edges.{Edges}

-- what visible column i adds, ind being the indicator
unfoldable pub line_piece : List ℕ → View → List ℕ → Edges → List Pending → Bool → ℕ → List ℕ
line_piece s view ind style ts last i = drawn (lead i style.junction) ++ column_piece s (visible_at view i) (pending_at ts i) ind last

-- the line with its 0A
unfoldable pub line_bytes : List ℕ → View → List ℕ → Edges → List Pending → Bool → List ℕ
line_bytes s view ind style ts last =
    drawn style.left ++ (build (line_piece s view ind style ts last) (length view) ++ (drawn style.right ++ (10 ∷ [])))

-- every visible column has a width, and its cell stands in the sheet
pub record ReadyAll (s : List ℕ) (view : View) (ts : List Pending) : Type 0 where
  pub size : length ts ≡ most_columns
  pub most : length view ≤ most_columns
  pub each : (i : ℕ) → i < length view → Ready s (visible_at view i) (pending_at ts i)

-- every visible column's cell at its next line
pub record AfterAll (s : List ℕ) (view : View) (ts us : List Pending) : Type 0 where
  pub size : length us ≡ most_columns
  pub each : (i : ℕ) → i < length view → After s (visible_at view i).width (pending_at ts i) (pending_at us i)
