-- Every line of the page of an accepted sheet is text: printable characters, and pairs. Assumes nothing.
use Prim.Native.Nat.{ℕ, zero, suc, ◌+◌, ◌-◌}
use mathlib.Core.Logic.{inl, inr}
use mathlib.Core.Path.{refl}
use mathlib.Core.List.{List, [], ◌∷◌, map}
use mathlib.Core.Bool.{Bool, true, false}
use native.Mathlib.Omega.{arith}
use lib.ListN.{get_or, replicate}
use lib.Dec.{leb}
use Rattle.rules.specs.Text.{text_width, blank, or_else, up_from, All}
use Rattle.rules.specs.Sheet.{Cell, Row, Table, no_cell, no_column, column_at, cell_at}
use Rattle.rules.specs.declared.Column.{Column}
use Rattle.rules.specs.Limits.{Printable, IsText, nothing, plain, Optional, ColumnLimits, LineLimits, CellLimits, RowLimits, TableLimits}
use Rattle.rules.specs.Style.{glyph_at, glyph, is_visible}
use Rattle.rules.specs.Wrap.{delimiter_of, shown_indicator, cut_line}
use Rattle.rules.specs.Widths.{visible, contents}
use Rattle.rules.specs.Page.{alignment_of, before, area, wrapped, cell_lines, height, area_at, areas, joined_more, joined, line_of, edge, ruled, text_line}
use Rattle.rules.specs.Page.{shown, row_text, framed, page_lines}
use Rattle.laws.proofs.Lists.{all_imp, all_append, all_map, all-map_imp, all_replicate, all_default}
use Rattle.laws.proofs.Texts.{text-all, text-append, text-first}
use Rattle.laws.proofs.Split.{text-wrap_lines}
use Rattle.laws.proofs.Fits.{all-cut}
use Rattle.laws.proofs.Rows.{all-headed, all-ruled_rows}

-- a line is text, from its parts
text-joined_more : (j : List ℕ) → IsText j → (ps : List (List ℕ)) → All IsText ps → IsText (joined_more j ps)
unfolding joined_more
text-joined_more j h [] k = nothing
text-joined_more j h (p ∷ ps) k = text-append h (text-append k.0 (text-joined_more j h ps k.1))

text-joined : (j : List ℕ) → IsText j → (ps : List (List ℕ)) → All IsText ps → IsText (joined j ps)
unfolding joined
text-joined j h [] k = nothing
text-joined j h (p ∷ ps) k = text-append k.0 (text-joined_more j h ps k.1)

-- and so the whole line
pub text-line_of : (l j r : List ℕ) → IsText l → IsText j → IsText r → (ps : List (List ℕ)) → All IsText ps → IsText (line_of l j r ps)
unfolding line_of
text-line_of l j r hl hj hr ps k = text-append hl (text-append (text-joined j hj ps k) hr)

-- an unset character prints as a space
pub printable-glyph : (c : ℕ) → Optional c → Printable (glyph c)
printable-glyph zero h = omega arith
printable-glyph (suc c) (inl e) = absurd (omega arith)
printable-glyph (suc c) (inr h) = h

-- a code that stands in for another
printable-or_else : (a b : ℕ) → Optional a → Printable b → Printable (or_else a b)
printable-or_else zero b h k = k
printable-or_else (suc a) b (inl e) k = absurd (omega arith)
printable-or_else (suc a) b (inr h) k = h

-- lines drawn with a style whose characters are unset or printable
module _ (S : List ℕ) (chars : All Optional S) where
  printable-at : (k : ℕ) → Printable (glyph (glyph_at S k))
  printable-at k = printable-glyph (glyph_at S k) (all_default Optional S k 0 (inl refl) chars)

  printable-edge : (b : Bool) (k : ℕ) → IsText (edge b (glyph_at S k))
  printable-edge true k = plain (glyph (glyph_at S k)) [] (printable-at k) nothing
  printable-edge false k = nothing

  printable-runs : (k : ℕ) (vs : List ℕ) → All IsText (map (λ v. replicate v (glyph (glyph_at S k))) vs)
  printable-runs k vs =
      let fill = glyph (glyph_at S k) in
      all_map IsText (λ v. replicate v fill) (λ v. text-all (replicate v fill) (all_replicate Printable fill v (printable-at k))) vs

  pub printable-ruled : (always : Bool) (k : ℕ) (vs : List ℕ) → IsText (ruled S always k vs)
  unfolding ruled
  printable-ruled always k vs = search (text-line_of, printable-edge, printable-runs)

  pub printable-shown : (always : Bool) (k : ℕ) (vs : List ℕ) → All IsText (shown S always k vs)
  unfolding shown
  printable-shown always k vs = go (is_visible S k)
    where
      go : (b : Bool) → All IsText (elim b as (λ x. List (List ℕ)) [ true ↦ ruled S always k vs ∷ [] | false ↦ [] ])
      go true = (printable-ruled always k vs, tt)
      go false = tt

  -- a text line, of areas that are text
  pub printable-text_line : (k : ℕ) (ps : List (List ℕ)) → All IsText ps → IsText (text_line S k ps)
  unfolding text_line
  printable-text_line k ps h = search (text-line_of, printable-edge)

-- an area's characters
text-blank : (n : ℕ) → IsText (blank n)
text-blank n = text-all (blank n) (all_replicate Printable 32 n (omega arith, omega arith))

pub printable-area : (c : Column) (w a : ℕ) (l : List ℕ) → IsText l → IsText (area c w a l)
unfolding area
printable-area c w a l h =
    let free = w - text_width l in
    text-append (text-blank (c.left + before a free)) (text-append h (text-blank ((free - before a free) + c.right)))

printable-cut_line : (w : ℕ) (i l : List ℕ) → All Printable i → IsText l → IsText (cut_line w i l)
unfolding cut_line shown_indicator
printable-cut_line w i l h k = text-append (text-first (w - text_width (shown_indicator w i)) k) (go (leb (text_width i) w))
  where
    go : (b : Bool) → IsText (elim b as (λ x. List ℕ) [ true ↦ i | false ↦ [] ])
    go true = text-all i h
    go false = nothing

-- what a cell, missing or not, has
abbrev Legible : Cell → Type 0
Legible x = Optional x.delimiter × All IsText x.lines

legible-cell : (x : Cell) → CellLimits x → Legible x
legible-cell x h = (h.delimiter, all_imp LineLimits IsText (λ l k. k.characters) x.lines h.texts)

-- and every cell of some rows
pub rows_cells : (rs : List Row) (n : ℕ) → All (RowLimits n) rs → All (λ r. All CellLimits r.cells) rs
rows_cells rs n h = all_imp (RowLimits n) (λ r. All CellLimits r.cells) (λ r k. k.each) rs h

module _ (t : Table) (T : TableLimits t) (ws : List ℕ) where
  module _ (r : Row) (R : All CellLimits r.cells) where
    legible-at : (j : ℕ) → Legible (cell_at r j)
    legible-at j = all_default Legible r.cells j no_cell (inl refl, (nothing, tt)) (all_imp CellLimits Legible legible-cell r.cells R)

    -- the delimiter chosen, the cell's lines, its areas
    pub printable_delimiter : (j : ℕ) → Printable (delimiter_of t (column_at t j) (cell_at r j))
    printable_delimiter j =
        let space : Printable 32 = omega arith in
        let c = all_default (λ c. Optional c.delimiter) t.columns j no_column (inl refl)
        (all_imp ColumnLimits (λ c. Optional c.delimiter) (λ c k. k.delimiter) t.columns T.each_column) in
        printable-or_else (cell_at r j).delimiter _ (legible-at j).0 (printable-or_else (column_at t j).delimiter _ c
        (printable-or_else t.delimiter 32 T.delimiter space))

    pub printable-cell : (j : ℕ) → All IsText (cell_lines t ws r j)
    unfolding cell_lines wrapped
    printable-cell j =
        all-cut IsText (get_or ws j 0) t.indicator r.limit (wrapped t ws r j) nothing
        (λ l k. printable-cut_line (get_or ws j 0) t.indicator l T.indicator_characters k)
        (text-wrap_lines (delimiter_of t (column_at t j) (cell_at r j)) (printable_delimiter j) (get_or ws j 0) (cell_at r j).lines (legible-at j).1)

    pub printable-area_at : (k j : ℕ) → IsText (area_at t ws r k j)
    unfolding area_at
    printable-area_at k j =
        printable-area (column_at t j) (get_or ws j 0) (alignment_of (column_at t j) (cell_at r j)) (get_or (cell_lines t ws r j) k [])
        (all_default IsText (cell_lines t ws r j) k [] nothing (printable-cell j))

    printable-row_text : (k : ℕ) → All IsText (row_text t ws k r)
    unfolding row_text areas
    printable-row_text k =
        all-map_imp (All IsText) IsText (text_line t.style k) (printable-text_line t.style T.style_characters_fit k) (areas t ws r)
        (all_map (All IsText) (λ n. map (area_at t ws r n) (visible t)) (λ n. all_map IsText (area_at t ws r n) (printable-area_at n) (visible t))
        (up_from 0 (height t ws r)))

  -- over any of its rows
  pub printable-framed : (rs : List Row) → All (λ r. All CellLimits r.cells) rs → All IsText (framed t ws rs)
  unfolding framed
  printable-framed rs h =
      let shows = printable-shown t.style T.style_characters_fit in
      let text : (k : ℕ) (qs : List Row) → All (λ r. All CellLimits r.cells) qs → All (λ r. All IsText (row_text t ws k r)) qs
      = λ k qs g. all_imp (λ r. All CellLimits r.cells) (λ r. All IsText (row_text t ws k r)) (λ r c. printable-row_text r c k) qs g in
      let header = rows_cells t.header _ T.header_row in
      search (all_append, all-headed, all-ruled_rows, shows, text, header)

-- the page's lines are text
pub printable-page : (t : Table) → TableLimits t → All IsText (page_lines t)
unfolding page_lines
printable-page t T = printable-framed t T (contents t) t.rows (rows_cells t.rows _ T.each_row)
