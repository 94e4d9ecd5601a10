-- The pairs that the lines of a row show. Assumes nothing.
use Rattle.std.specs.Prelude.{ℕ, List, map}
use Rattle.rules.specs.Text.{sum, up_from, or_else}
use Rattle.rules.specs.Sheet.{Cell}
use Rattle.rules.specs.Wrap.{wrap_lines, cut}
use Rattle.laws.proofs.RowBytes.{pairs_at}
use Rattle.row.specs.declared.VisibleColumn.{VisibleColumn}

-- those of n of a cell's lines, from line a on
unfoldable pub shown_in : List (List ℕ) → ℕ → ℕ → ℕ
shown_in ls a n = sum (map (pairs_at ls) (up_from a n))

-- the lines of the cell x in a column that a limit leaves, ind being the indicator
abbrev pub kept_lines : List ℕ → ℕ → Cell → VisibleColumn → List (List ℕ)
kept_lines ind limit x v = cut v.width ind limit (wrap_lines v.width (or_else x.delimiter v.delimiter) x.lines)

-- the pairs in n of them, from line a on
abbrev pub pairs_shown : List ℕ → ℕ → ℕ → ℕ → Cell → VisibleColumn → ℕ
pairs_shown ind limit a n x v = shown_in (kept_lines ind limit x v) a n
