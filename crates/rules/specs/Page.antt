-- Aligning and drawing: areas, lines, the page. ws: each column's content width. Assumes nothing.
use Rattle.std.specs.Prelude.{ℕ, ◌+◌, ◌-◌, ◌/◌, List, [], ◌∷◌, ◌++◌, map, Bool, true, false, ◌||◌, cond, length, get_or, replicate, eqb, leb}
use Rattle.rules.specs.Text.{text_width, blank, or_else, one_if, greatest, sum, up_from}
use Rattle.rules.specs.Sheet.{Column, Cell, Row, Table, column_at, cell_at, padding}
use Rattle.rules.specs.Style.{top_border, header_lines, header_rule, content_lines, row_rule, bottom_border, glyph_at, glyph, any_left, any_right, any_junction, is_visible}
use Rattle.rules.specs.Wrap.{delimiter_of, wrap_lines, cut}
use Rattle.rules.specs.Widths.{visible, borders, contents}

-- alignment: the cell's, else column's, else left
abbrev pub alignment_of : Column → Cell → ℕ
alignment_of c x = or_else x.alignment (or_else c.alignment 1)

-- the spaces before a line with n columns free: 2 right, 3 centre, which puts the odd space left
abbrev pub before : ℕ → ℕ → ℕ
before a n = cond (eqb a 2) n (cond (eqb a 3) (n - n / 2) 0)

-- a line of a cell in a content width w, paddings included
unfoldable pub area : Column → ℕ → ℕ → List ℕ → List ℕ
area c w a l =
    blank (c.left + before a (w - text_width l)) ++ (l ++ blank ((w - text_width l - before a (w - text_width l)) + c.right))

-- content plus both paddings
abbrev pub visible_width : Table → List ℕ → ℕ → ℕ
visible_width t ws j = get_or ws j 0 + padding (column_at t j)

-- the visible widths, left to right
unfoldable pub visible_widths : Table → List ℕ → List ℕ
visible_widths t ws = map (visible_width t ws) (visible t)

-- column j's cell in a row, wrapped; a missing cell is one blank line
unfoldable pub wrapped : Table → List ℕ → Row → ℕ → List (List ℕ)
wrapped t ws r j = wrap_lines (get_or ws j 0) (delimiter_of t (column_at t j) (cell_at r j)) (cell_at r j).lines

-- the same after cutting
unfoldable pub cell_lines : Table → List ℕ → Row → ℕ → List (List ℕ)
cell_lines t ws r j = cut (get_or ws j 0) t.indicator r.limit (wrapped t ws r j)

-- a row has as many lines as its visible cell with the most
unfoldable pub height : Table → List ℕ → Row → ℕ
height t ws r = greatest (map (λ j. length (cell_lines t ws r j)) (visible t))

-- column j's area in line k of a row; a cell with fewer lines than its row gets blank ones below
unfoldable pub area_at : Table → List ℕ → Row → ℕ → ℕ → List ℕ
area_at t ws r k j = area (column_at t j) (get_or ws j 0) (alignment_of (column_at t j) (cell_at r j)) (get_or (cell_lines t ws r j) k [])

-- a row's lines, each its areas from left to right
unfoldable pub areas : Table → List ℕ → Row → List (List (List ℕ))
areas t ws r = map (λ k. map (area_at t ws r k) (visible t)) (up_from 0 (height t ws r))

-- parts with a junction, one character or none, between each two
unfoldable pub joined_more : List ℕ → List (List ℕ) → List ℕ
joined_more j [] = []
joined_more j (p ∷ ps) = j ++ (p ++ joined_more j ps)

unfoldable pub joined : List ℕ → List (List ℕ) → List ℕ
joined j [] = []
joined j (p ∷ ps) = p ++ joined_more j ps

-- every line: left, parts joined, right
unfoldable pub line_of : List ℕ → List ℕ → List ℕ → List (List ℕ) → List ℕ
line_of l j r ps = l ++ (joined j ps ++ r)

-- a character where it is drawn; unset characters print as a space
abbrev pub edge : Bool → ℕ → List ℕ
edge true c = glyph c ∷ []
edge false c = []

-- a border or a rule, whose characters begin at k: borders always put a junction between columns, rules only if some junction is set
unfoldable pub ruled : List ℕ → Bool → ℕ → List ℕ → List ℕ
ruled S always k vs =
    line_of (edge (any_left S) (glyph_at S k)) (edge (always || any_junction S) (glyph_at S (k + 2))) (edge (any_right S) (glyph_at S (k + 3)))
    (map (λ v. replicate v (glyph (glyph_at S (k + 1)))) vs)

-- a text line, whose characters begin at k; junctions only if some junction is set
unfoldable pub text_line : List ℕ → ℕ → List (List ℕ) → List ℕ
text_line S k ps = line_of (edge (any_left S) (glyph_at S k)) (edge (any_junction S) (glyph_at S (k + 1))) (edge (any_right S) (glyph_at S (k + 2))) ps

-- the length of a text line, and of a rule: the borders that are drawn (`borders`) and the visible widths
unfoldable pub line_length : Table → List ℕ → ℕ
line_length t ws = borders t + sum (visible_widths t ws)

-- the length of a border: its junctions are drawn even where none is set (`ruled`, always)
unfoldable pub border_length : Table → List ℕ → ℕ
border_length t ws = one_if (any_left t.style) + one_if (any_right t.style) + (length (visible t) - 1) + sum (visible_widths t ws)

-- a border or a rule where it is visible
unfoldable pub shown : List ℕ → Bool → ℕ → List ℕ → List (List ℕ)
shown S always k vs = elim (is_visible S k) [ true ↦ ruled S always k vs ∷ [] | false ↦ [] ]

-- the header rule follows the header
unfoldable pub headed : (Row → List (List ℕ)) → List (List ℕ) → List Row → List (List ℕ)
headed text rule [] = []
headed text rule (r ∷ rs) = text r ++ (rule ++ headed text rule rs)

-- a row rule stands between two rows
unfoldable pub ruled_more : (Row → List (List ℕ)) → List (List ℕ) → List Row → List (List ℕ)
ruled_more text rule [] = []
ruled_more text rule (r ∷ rs) = rule ++ (text r ++ ruled_more text rule rs)

unfoldable pub ruled_rows : (Row → List (List ℕ)) → List (List ℕ) → List Row → List (List ℕ)
ruled_rows text rule [] = []
ruled_rows text rule (r ∷ rs) = text r ++ ruled_more text rule rs

-- a row's text lines
unfoldable pub row_text : Table → List ℕ → ℕ → Row → List (List ℕ)
row_text t ws k r = map (text_line t.style k) (areas t ws r)

-- lines over some rows: top border, header, header rule, the rows with rules between them, bottom border
unfoldable pub framed : Table → List ℕ → List Row → List (List ℕ)
framed t ws rs =
    shown t.style true top_border (visible_widths t ws)
    ++ (headed (row_text t ws header_lines) (shown t.style false header_rule (visible_widths t ws)) t.header
    ++ (ruled_rows (row_text t ws content_lines) (shown t.style false row_rule (visible_widths t ws)) rs
    ++ shown t.style true bottom_border (visible_widths t ws)))

-- the page's lines
unfoldable pub page_lines : Table → List (List ℕ)
page_lines t = framed t (contents t) t.rows

-- each line closed by byte 0A
unfoldable pub closed : List (List ℕ) → List ℕ
closed [] = []
closed (l ∷ ls) = l ++ (10 ∷ closed ls)

-- the first of some lines, as many as n bytes hold, each with its 0A
unfoldable pub whole_lines : ℕ → List (List ℕ) → List (List ℕ)
whole_lines n [] = []
whole_lines n (l ∷ ls) = elim (leb (length l + 1) n) [ true ↦ l ∷ whole_lines (n - (length l + 1)) ls | false ↦ [] ]

-- the page
unfoldable pub page : Table → List ℕ
page t = closed (page_lines t)

-- line k, its 0A included
unfoldable pub line_at : Table → ℕ → List ℕ
line_at t k = get_or (page_lines t) k [] ++ (10 ∷ [])

-- the page's line and byte counts
unfoldable pub line_count : Table → ℕ
line_count t = length (page_lines t)

unfoldable pub byte_count : Table → ℕ
byte_count t = length (page t)
