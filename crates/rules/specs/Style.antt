-- The 22 style characters, in the sheet's order, 0 where unset. Assumes nothing.
use Rattle.std.specs.Prelude.{ℕ, zero, suc, ◌+◌, ◌-◌, List, Bool, true, false, ◌||◌, cond, get_or}
use Rattle.rules.specs.Text.{one_if}

-- where each of `TableStyle`'s fields begins: a border or a rule has left, fill, junction, right, and a line style left, junction, right
abbrev pub top_border : ℕ
top_border = 0

abbrev pub header_lines : ℕ
header_lines = 4

abbrev pub header_rule : ℕ
header_rule = 7

abbrev pub content_lines : ℕ
content_lines = 11

abbrev pub row_rule : ℕ
row_rule = 14

abbrev pub bottom_border : ℕ
bottom_border = 18

-- and how many characters there are
abbrev pub style_characters : ℕ
style_characters = 22

abbrev pub glyph_at : List ℕ → ℕ → ℕ
glyph_at S k = get_or S k 0

-- a character is set
abbrev pub is_set : ℕ → Bool
is_set zero = false
is_set (suc c) = true

-- unset characters print as a space
abbrev pub glyph : ℕ → ℕ
glyph zero = 32
glyph (suc c) = suc c

-- any left is set, any right, any junction
abbrev pub any_left : List ℕ → Bool
any_left S =
    is_set (glyph_at S top_border) || is_set (glyph_at S header_lines) || is_set (glyph_at S header_rule)
    || is_set (glyph_at S content_lines) || is_set (glyph_at S row_rule) || is_set (glyph_at S bottom_border)

abbrev pub any_right : List ℕ → Bool
any_right S =
    is_set (glyph_at S (top_border + 3)) || is_set (glyph_at S (header_lines + 2)) || is_set (glyph_at S (header_rule + 3))
    || is_set (glyph_at S (content_lines + 2)) || is_set (glyph_at S (row_rule + 3)) || is_set (glyph_at S (bottom_border + 3))

abbrev pub any_junction : List ℕ → Bool
any_junction S =
    is_set (glyph_at S (top_border + 2)) || is_set (glyph_at S (header_lines + 1)) || is_set (glyph_at S (header_rule + 2))
    || is_set (glyph_at S (content_lines + 1)) || is_set (glyph_at S (row_rule + 2)) || is_set (glyph_at S (bottom_border + 2))

-- a border or rule is visible if one of its characters, which begin at k, is set
abbrev pub is_visible : List ℕ → ℕ → Bool
is_visible S k = is_set (glyph_at S k) || is_set (glyph_at S (k + 1)) || is_set (glyph_at S (k + 2)) || is_set (glyph_at S (k + 3))

-- borders drawn, n columns being visible: left if any `left` is set, right likewise, and n less one, not below 0, if any `junction` is set
unfoldable pub borders_of : List ℕ → ℕ → ℕ
borders_of S n = one_if (any_left S) + one_if (any_right S) + cond (any_junction S) (n - 1) 0
