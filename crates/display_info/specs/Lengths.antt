-- How long a page's lines are. Assumes nothing.
use Rattle.std.specs.Prelude.{ℕ, zero, suc, ◌+◌, ◌-◌, ◌≤◌, ◌≡◌, List, length, cond, is_some}
use Rattle.rules.specs.Limits.{longest_line}
use Rattle.rules.specs.Widths.{contents}
use Rattle.rules.specs.Page.{line_length, border_length}
use Rattle.table.specs.Held.{table_of}
use Rattle.buffer.specs.declared.Edges.{Edges}
use Rattle.row.specs.View.{View, visible_at}
use Rattle.display_info.specs.declared.lengths.Lengths.{Lengths}

-- the visible widths of the first n columns
unfoldable pub width_up_to : View → ℕ → ℕ
width_up_to view zero = 0
width_up_to view (suc n) = width_up_to view n + ((visible_at view n).left + ((visible_at view n).width + (visible_at view n).right))

-- the lengths of lines over these columns, where text lines have these edges
unfoldable pub measured : View → Edges → Lengths
measured view y = record {
  line = cond (is_some y.left) 1 0 + cond (is_some y.right) 1 0 + cond (is_some y.junction) (length view - 1) 0 + width_up_to view (length view);
  border = cond (is_some y.left) 1 0 + cond (is_some y.right) 1 0 + (length view - 1) + width_up_to view (length view);
}

-- the lengths are the page's
pub record LengthsAre (s : List ℕ) (l : Lengths) : Type 0 where
  pub line : l.line ≡ line_length (table_of s) (contents (table_of s))
  pub border : l.border ≡ border_length (table_of s) (contents (table_of s))
  pub line_small : l.line ≤ longest_line
  pub border_small : l.border ≤ longest_line
