-- A border or a rule, by its visible columns. Assumes nothing.
use Rattle.std.specs.Prelude.{ℕ, ◌+◌, ◌≤◌, ◌<◌, List, [], ◌∷◌, ◌++◌, replicate, Bool, length}
use Rattle.std.specs.Bool.{then_some}
use Rattle.rules.specs.Sheet.{most_columns}
use Rattle.rules.specs.Style.{glyph_at, glyph, any_left, any_right}
use Rattle.buffer.specs.Put.{build, drawn, lead}
use Rattle.row.specs.View.{View, visible_at}
use Rattle.row.specs.declared.VisibleColumn.{VisibleColumn}
use Rattle.borders.specs.declared.RuleStyle.{RuleStyle}

-- a column's fill
abbrev pub rule_area : VisibleColumn → ℕ → List ℕ
rule_area v f = replicate (v.left + (v.width + v.right)) f

-- what visible column i adds
unfoldable pub rule_piece : View → RuleStyle → ℕ → List ℕ
rule_piece view style i = drawn (lead i style.edges.junction) ++ rule_area (visible_at view i) style.fill

-- the line
unfoldable pub rule_text : View → RuleStyle → List ℕ
rule_text view style = drawn style.edges.left ++ (build (rule_piece view style) (length view) ++ drawn style.edges.right)

-- the line with its 0A
unfoldable pub rule_bytes : View → RuleStyle → List ℕ
rule_bytes view style = drawn style.edges.left ++ (build (rule_piece view style) (length view) ++ (drawn style.edges.right ++ (10 ∷ [])))

-- visible widths are small
pub record NarrowAll (view : View) : Type 0 where
  pub most : length view ≤ most_columns
  pub each : (i : ℕ) → i < length view → (visible_at view i).left + ((visible_at view i).width + (visible_at view i).right) < 65536

-- the characters of a border or a rule, whose four begin at k
unfoldable pub rule_style_of : List ℕ → Bool → ℕ → RuleStyle
rule_style_of S joined k = record {
  edges = record {
    left = then_some (any_left S) (glyph (glyph_at S k));
    junction = then_some joined (glyph (glyph_at S (k + 2)));
    right = then_some (any_right S) (glyph (glyph_at S (k + 3)));
  };
  fill = glyph (glyph_at S (k + 1));
}
