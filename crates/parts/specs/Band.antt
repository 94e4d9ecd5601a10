-- The first of some rows and the rule after it, by the styles that they are drawn with. Assumes nothing.
use Rattle.std.specs.Prelude.{ℕ, ◌+◌, ◌*◌, ◌≤◌, ◌<◌, ◌≡◌, List, [], ◌∷◌, ◌++◌, Bool, Option, Some, None, length, get_or, ltb}
use Rattle.std.specs.Bool.{then_some}
use Rattle.std.specs.Option.{ForSome, option_and_then}
use Rattle.rules.specs.Sheet.{Row, no_row}
use Rattle.rules.specs.Limits.{longest_line}
use Rattle.rules.specs.Page.{closed}
use Rattle.row.specs.View.{View}
use Rattle.table.specs.Held.{table_of}
use Rattle.row.specs.Height.{added_up_to, pairs_held}
use Rattle.formatting.specs.RowText.{row_lines, row_height, Sized}
use Rattle.formatting.specs.Shown.{pairs_shown}
use Rattle.borders.specs.Rule.{rule_text}
use Rattle.borders.specs.declared.RuleStyle.{RuleStyle}
use Rattle.display_info.specs.declared.RowStyle.{RowStyle}

-- a border or a rule, if there is one
abbrev pub rule_by : View → Option RuleStyle → List (List ℕ)
rule_by view None = []
rule_by view (Some y) = rule_text view y ∷ []

-- its line takes n bytes, its 0A included
abbrev pub SizedRule : View → Option RuleStyle → ℕ → Type 0
SizedRule view y n = ForSome y (λ x. n ≡ length (rule_text view x) + 1)

-- the lines of the first of some rows and of the rule after it
unfoldable pub band_lines : List ℕ → View → RowStyle → List Row → List (List ℕ)
band_lines s view y [] = []
band_lines s view y (r ∷ rs) = row_lines s y.lines r ++ rule_by view y.rule

-- in the body a rule stands only between two rows
abbrev pub body_style : RowStyle → ℕ → RowStyle
body_style y left = record { lines = y.lines; rule = option_and_then (then_some (ltb 1 left)) y.rule }

-- the rule takes n bytes, its 0A included; each text line takes as many and the pairs that it shows, all of them the pairs that are shown, or held if there is no limit
pub record SizedBand (s : List ℕ) (view : View) (y : RowStyle) (rs : List Row) (plain : Bool) (n : ℕ) : Type 0 where
  pub text : 0 < length rs → Sized s y.lines (get_or rs 0 no_row) plain view n
  pub held : 0 < length rs → (get_or rs 0 no_row).limit ≡ 0
      → length (closed (row_lines s y.lines (get_or rs 0 no_row)))
      ≡ row_height s (get_or rs 0 no_row) * n + added_up_to pairs_held (get_or rs 0 no_row).cells view (length view)
  pub shown : 0 < length rs → (k : ℕ) → row_height s (get_or rs 0 no_row) ≤ k
      → length (closed (row_lines s y.lines (get_or rs 0 no_row)))
      ≡ row_height s (get_or rs 0 no_row) * n
      + added_up_to (pairs_shown (table_of s).indicator (get_or rs 0 no_row).limit 0 k) (get_or rs 0 no_row).cells view (length view)
  pub rule : SizedRule view y.rule n
  pub small : n ≤ longest_line + 1
