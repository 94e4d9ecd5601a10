-- A row's areas by their places, and demand 3's agreement as equal lists of areas. Assumes nothing.
use Prim.Native.Nat.{ℕ, ◌+◌, ◌≤◌, ◌<◌}
use mathlib.Core.Path.{◌≡◌, ap, sym, ◌∙◌}
use mathlib.Core.List.{List, [], map}
use native.Mathlib.Omega.{arith}
use lib.ListN.{length, get_or, length-map}
use lib.Seq.{ext_get_or}
use Rattle.rules.specs.Text.{characters_in, up_from, All}
use Rattle.rules.specs.Sheet.{Row, Table, no_row, all_rows}
use Rattle.rules.specs.Widths.{numbers, visible, contents}
use Rattle.rules.specs.Page.{visible_width, visible_widths, height, area_at, areas}
use Rattle.rules.specs.Words.{row_at, widths_of, lines_of, area_of}
use Rattle.rules.specs.Demand3.{Agree}
use Rattle.laws.proofs.Lists.{all_get_d, all_imp, all_keep, all-map_imp, below-up_from, get_d_map, get_d-up_from, length-up_from, map-append}
use Rattle.laws.proofs.Cancel.{at_length}
use Rattle.laws.proofs.Contents.{length-contents, contents-some}

-- a visible column is a column
pub visible_below : (t : Table) → All (λ j. j < length t.columns) (visible t)
unfolding visible numbers
visible_below t = all_keep (λ j. j < length t.columns) _ (up_from 0 (length t.columns))
    (below-up_from 0 (length t.columns) (length t.columns) (omega arith))

-- its content width is at least 1
pub content-some : (t : Table) (j : ℕ) → j < length t.columns → 1 ≤ get_or (contents t) j 0
content-some t j h = all_get_d (λ w. 1 ≤ w) (contents t) j 0 (omega (arith, length-contents t)) (contents-some t)

-- so are those of all visible columns
pub visible-some : (t : Table) → All (λ j. 1 ≤ get_or (contents t) j 0) (visible t)
visible-some t = all_imp (λ j. j < length t.columns) (λ j. 1 ≤ get_or (contents t) j 0) (content-some t) (visible t) (visible_below t)

-- a visible width is at least 1
pub widths-some : (t : Table) → All (λ v. 1 ≤ v) (widths_of t)
unfolding visible_widths
widths-some t = all-map_imp (λ j. 1 ≤ get_or (contents t) j 0) (λ v. 1 ≤ v) (visible_width t (contents t)) (λ j h. omega arith)
    (visible t) (visible-some t)

-- as many visible widths as visible columns
pub length_widths : (t : Table) (ws : List ℕ) → length (visible_widths t ws) ≡ length (visible t)
unfolding visible_widths
length_widths t ws = length-map (visible t) (visible_width t ws)

module _ (t : Table) (ws : List ℕ) (r : Row) where
  -- a row has as many lines of areas as it has lines
  pub length-areas : length (areas t ws r) ≡ height t ws r
  unfolding areas
  length-areas = length-map (up_from 0 (height t ws r)) (λ k. map (area_at t ws r k) (visible t)) ∙ length-up_from 0 (height t ws r)

  -- line k of the row
  pub line_at : (k : ℕ) → k < height t ws r → get_or (areas t ws r) k [] ≡ map (area_at t ws r k) (visible t)
  unfolding areas
  line_at k h =
      let e : 0 + k ≡ k = omega arith in
      get_d_map (λ k. map (area_at t ws r k) (visible t)) (up_from 0 (height t ws r)) k 0 [] (omega (arith, length-up_from 0 (height t ws r))) ∙ rw
      (get_d-up_from 0 (height t ws r) k 0 h, e)

  length-line : (k : ℕ) → k < height t ws r → length (get_or (areas t ws r) k []) ≡ length (visible t)
  length-line k h = ap length (line_at k h) ∙ length-map (visible t) (area_at t ws r k)

  -- and its area in visible column c
  pub area-at : (k c : ℕ) → k < height t ws r → c < length (visible t) → get_or (get_or (areas t ws r) k []) c [] ≡ area_at t ws r k (get_or (visible t) c 0)
  area-at k c h l = rw (line_at k h) (get_d_map (area_at t ws r k) (visible t) c 0 [] l)

-- two rows with equal areas in every place
areas-same : (t u : Table) (ws vs : List ℕ) (r q : Row) → length (visible t) ≡ length (visible u) → height t ws r ≡ height u vs q
    → ((k c : ℕ) → k < height t ws r → c < length (visible t) → area_at t ws r k (get_or (visible t) c 0) ≡ area_at u vs q k (get_or (visible u) c 0)) →
    areas t ws r ≡ areas u vs q
areas-same t u ws vs r q n m e =
    ext_get_or [] (areas t ws r) (areas u vs q) (length-areas t ws r ∙ m ∙ sym (length-areas u vs q))
    (λ k h. line k (omega (arith, length-areas t ws r)))
  where
    line : (k : ℕ) → k < height t ws r → get_or (areas t ws r) k [] ≡ get_or (areas u vs q) k []
    line k h =
        ext_get_or [] (get_or (areas t ws r) k []) (get_or (areas u vs q) k []) (length-line t ws r k h ∙ n ∙ sym (length-line u vs q k (omega arith)))
        (λ c l. let i : c < length (visible t) = omega (arith, length-line t ws r k h) in
        area-at t ws r k c h i ∙ e k c h i ∙ sym (area-at u vs q k c (omega arith) (omega arith)))

-- what a table shows, header and rows
abbrev pub shown_in : Table → Row → List (List (List ℕ))
shown_in t = areas t (contents t)

-- two tables that show the same
pub record Alike (t u : Table) : Type 0 where
  pub widths : widths_of t ≡ widths_of u
  pub header : map (shown_in t) t.header ≡ map (shown_in u) u.header
  pub rows : map (shown_in t) t.rows ≡ map (shown_in u) u.rows

module _ (t u : Table) where
  as_many_columns : widths_of t ≡ widths_of u → length (visible t) ≡ length (visible u)
  as_many_columns e = sym (length_widths t (contents t)) ∙ ap length e ∙ length_widths u (contents u)

  module _ (a : Alike t u) where
    all_rows_lem : map (shown_in t) (all_rows t) ≡ map (shown_in u) (all_rows u)
    all_rows_lem = map-append (shown_in t) t.header t.rows ∙ rw (a.header, a.rows) (sym (map-append (shown_in u) u.header u.rows))

    as_many_rows : length (all_rows t) ≡ length (all_rows u)
    as_many_rows = sym (length-map (all_rows t) (shown_in t)) ∙ ap length all_rows_lem ∙ length-map (all_rows u) (shown_in u)

    row-alike : (i : ℕ) → i < length (all_rows t) → shown_in t (row_at t i) ≡ shown_in u (row_at u i)
    row-alike i h =
        sym (get_d_map (shown_in t) (all_rows t) i no_row [] h) ∙ ap (λ l. get_or l i []) all_rows_lem ∙ get_d_map (shown_in u) (all_rows u) i no_row []
        (omega (arith, as_many_rows))

    lines-alike : (i : ℕ) → i < length (all_rows t) → lines_of t i ≡ lines_of u i
    lines-alike i h = sym (length-areas t (contents t) (row_at t i)) ∙ ap length (row-alike i h) ∙ length-areas u (contents u) (row_at u i)

    area-alike : (i k c : ℕ) → i < length (all_rows t) → k < lines_of t i → c < length (visible t) → area_of t i k c ≡ area_of u i k c
    area-alike i k c h l m =
        sym (area-at t (contents t) (row_at t i) k c l m) ∙ ap (λ x. get_or (get_or x k []) c []) (row-alike i h)
        ∙ area-at u (contents u) (row_at u i) k c (omega (arith, lines-alike i h)) (omega (arith, as_many_columns a.widths))

    -- equal lists of areas are equal area by area
    pub alike_agree : Agree t u
    alike_agree = record {
      header = sym (length-map t.header (shown_in t)) ∙ ap length a.header ∙ length-map u.header (shown_in u);
      widths = a.widths;
      rows = as_many_rows;
      lines = lines-alike;
      areas = λ i k c h l m. ap characters_in (area-alike i k c h l m);
    }

  -- where the areas' characters tell their bytes
  module _ (a : Agree t u)
      (told : (i k c : ℕ) → i < length (all_rows t) → k < lines_of t i → c < length (visible t) → area_of t i k c ≡ area_of u i k c) where
    rows_agree : map (shown_in t) (all_rows t) ≡ map (shown_in u) (all_rows u)
    rows_agree = ext_get_or [] (map (shown_in t) (all_rows t)) (map (shown_in u) (all_rows u))
        (length-map (all_rows t) (shown_in t) ∙ a.rows ∙ sym (length-map (all_rows u) (shown_in u)))
        (λ i h. row i (omega (arith, length-map (all_rows t) (shown_in t))))
      where
        row : (i : ℕ) → i < length (all_rows t) → get_or (map (shown_in t) (all_rows t)) i [] ≡ get_or (map (shown_in u) (all_rows u)) i []
        row i h =
            get_d_map (shown_in t) (all_rows t) i no_row [] h
            ∙ areas-same t u (contents t) (contents u) (row_at t i) (row_at u i) (as_many_columns a.widths) (a.lines i h)
            (λ k c l m. told i k c h l m)
            ∙ sym (get_d_map (shown_in u) (all_rows u) i no_row [] (omega (arith, a.rows)))

    -- and the other way round
    pub agree-alike : Alike t u
    agree-alike =
        let p = at_length (map (shown_in t) t.header) (map (shown_in u) u.header) (map (shown_in t) t.rows) (map (shown_in u) u.rows)
        (length-map t.header (shown_in t) ∙ a.header ∙ sym (length-map u.header (shown_in u)))
        (sym (map-append (shown_in t) t.header t.rows) ∙ rows_agree ∙ map-append (shown_in u) u.header u.rows) in
        record { widths = a.widths; header = p.0; rows = p.1 }
