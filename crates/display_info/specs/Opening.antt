-- A line's edges are chosen, and a visible column joins a view. Assumes nothing.
use Rattle.std.specs.Prelude.{ℕ, Bool, true, false, [], ◌∷◌, ◌++◌}
use Rattle.std.specs.Bool.{then_some}
use Rattle.rules.specs.Text.{or_else}
use Rattle.rules.specs.declared.Column.{Column}
use Rattle.rules.specs.Sheet.{is_hidden}
use Rattle.rules.specs.Style.{glyph}
use Rattle.buffer.specs.declared.Edges.{Edges}
use Rattle.row.specs.Alignment.{of_code}
use Rattle.row.specs.declared.VisibleColumn.{VisibleColumn}
use Rattle.row.specs.View.{View}

-- the edges that are drawn of a line with these characters
abbrev pub edges_of : Bool → Bool → Bool → ℕ → ℕ → ℕ → Edges
edges_of opens joined closes left junction right = record {
  left = then_some opens (glyph left);
  junction = then_some joined (glyph junction);
  right = then_some closes (glyph right);
}

-- column j as it is drawn: w is its content width, d stands in for an unset delimiter
abbrev pub shown_from : ℕ → Column → ℕ → ℕ → VisibleColumn
shown_from j c w d = record {
  number = j;
  width = w;
  left = c.left;
  right = c.right;
  delimiter = or_else c.delimiter d;
  alignment = of_code (or_else c.alignment 1);
}

abbrev pub behind : View → VisibleColumn → View
behind view v = view ++ (v ∷ [])

-- column j stands behind those that are shown already, unless it is hidden
unfoldable pub showing : View → ℕ → Column → ℕ → ℕ → View
showing view j c w d = elim (is_hidden c) [ true ↦ view | false ↦ behind view (shown_from j c w d) ]
