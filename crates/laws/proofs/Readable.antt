-- Demand 3. Assumes nothing.
use Prim.Native.Nat.{ℕ, ◌<◌}
use mathlib.Core.Path.{◌≡◌, refl, ap, sym, ◌∙◌}
use mathlib.Core.Logic.{◌≢◌, ◌↔◌}
use mathlib.Core.List.{List, map}
use mathlib.Core.Bool.{Bool, true, false, not, ◌||◌}
use native.Mathlib.Omega.{arith}
use lib.ListN.{length, get_or}
use lib.Dec.{eqb, ltb}
use borrow.Author.Tests.{eq-eqb}
use Rattle.rules.specs.Text.{keep, characters_in, text_width, up_from, flat, All}
use Rattle.rules.specs.Sheet.{Row, Table, no_row, all_rows, column_at, cell_at}
use Rattle.rules.specs.Limits.{IsText, CellLimits, RowLimits, TableLimits}
use Rattle.rules.specs.Wrap.{delimiter_of}
use Rattle.rules.specs.Widths.{visible, contents}
use Rattle.rules.specs.Page.{visible_width, visible_widths, closed, page_lines, page}
use Rattle.rules.specs.Words.{Readable, Accepted, wrote, Answered, row_at, column_of, widths_of, lines_of, area_of, is_delimiter, left_out}
use Rattle.rules.specs.Demand3.{Agree, SameText, Comparable, Demand3}
use Rattle.laws.proofs.Lists.{all_imp, all_append, all_default, all_right, all_places, get_d_map, map_below}
use Rattle.laws.proofs.Texts.{text_unbroken, text_tells}
use Rattle.laws.proofs.Cancel.{closed_cancel}
use Rattle.laws.proofs.Fits.{width-area_at}
use Rattle.laws.proofs.Characters.{rows_cells, printable-area_at, printable-page}
use Rattle.laws.proofs.Drawn.{Fits, rows_fit, drawn, framed-drawn, shown-drawn, drawn_widths, drawn-shown}
use Rattle.laws.proofs.Areas.{widths-some, length_widths, length-areas, shown_in, Alike, alike_agree, agree-alike}
use Rattle.laws.proofs.CellText.{place-characters}
use Rattle.laws.proofs.Accepted.{accepted_limits}
use Rattle.laws.proofs.Wrote.{wrote-page}

lines-drawn : (t : Table) → page_lines t ≡ drawn t.style (widths_of t) (shown_in t) t.header t.rows
unfolding page_lines
lines-drawn t = framed-drawn t (contents t) t.rows

-- no byte 0A in a line
unbroken : (t : Table) → TableLimits t → All (All (λ c. c ≢ 10)) (page_lines t)
unbroken t T = all_imp IsText (All (λ c. c ≢ 10)) (λ l h. text_unbroken h) (page_lines t) (printable-page t T)

-- the cells of every row keep their limits
row_cells : (t : Table) → TableLimits t → (i : ℕ) → All CellLimits (row_at t i).cells
row_cells t T i =
    all_default (λ r. All CellLimits r.cells) (all_rows t) i no_row tt
    (all_append (λ r. All CellLimits r.cells) t.header t.rows (rows_cells t.header _ T.header_row)
    (rows_cells t.rows _ T.each_row))

-- rows with a line
lined : (t : Table) → ((i : ℕ) → i < length (all_rows t) → 0 < lines_of t i) → All (λ r. 0 < length (shown_in t r)) t.rows
lined t h =
    all_right (λ r. 0 < length (shown_in t r)) t.header t.rows
    (all_places (λ r. 0 < length (shown_in t r)) (all_rows t) no_row (λ i l. let k = h i l in omega (arith, length-areas t (contents t) (row_at t i))))

module _ (t u : Table) (one : t.style ≡ u.style) where
  -- tables that show the same have one page, in any style
  pub alike-page : Alike t u → page t ≡ page u
  unfolding page
  alike-page a =
      ap closed (
      lines-drawn t ∙ shown-drawn t.style (shown_in t) (shown_in u) t.header u.header t.rows u.rows (widths_of t) a.header a.rows
      ∙ ap (λ S. drawn S (widths_of t) (shown_in u) u.header u.rows) one ∙ ap (λ vs. drawn u.style vs (shown_in u) u.header u.rows)
      a.widths ∙ sym (lines-drawn u)
      )

  module _ (T : TableLimits t) (U : TableLimits u) (R : Readable t.style) (t-column : 0 < length (visible t)) (u-column : 0 < length (visible u))
      (t-lines : (i : ℕ) → i < length (all_rows t) → 0 < lines_of t i) (u-lines : (i : ℕ) → i < length (all_rows u) → 0 < lines_of u i) where
    t_fits : (rs : List Row) → All (RowLimits (length t.columns)) rs → All (λ r. All (Fits (widths_of t)) (shown_in t r)) rs
    t_fits rs h = rows_fit t T (contents t) rs (rows_cells rs _ h)

    -- the second table's areas, at the first one's widths
    u_fits : widths_of t ≡ widths_of u → (rs : List Row) → All (RowLimits (length u.columns)) rs
        → All (λ r. All (Fits (widths_of t)) (shown_in u r)) rs
    u_fits w rs h = rw w (rows_fit u U (contents u) rs (rows_cells rs _ h))

    -- in a readable style, tables with one page show the same
    pub page-alike : page t ≡ page u → Alike t u
    unfolding page
    page-alike e =
        let S = t.style in
        let l = closed_cancel (page_lines t) (page_lines u) (unbroken t T) (unbroken u U) e in
        let m : drawn S (widths_of t) (shown_in t) t.header t.rows ≡ drawn S (widths_of u) (shown_in u) u.header u.rows
        = sym (lines-drawn t) ∙ l ∙ lines-drawn u ∙ ap (λ S. drawn S (widths_of u) (shown_in u) u.header u.rows) (sym one) in
        let some : 0 < length (widths_of t) = omega (arith, length_widths t (contents t)) in
        let w = drawn_widths S (shown_in t) (shown_in u) t.header u.header t.rows u.rows R (widths_of t) (widths_of u) some
        (omega (arith, length_widths u (contents u))) m in
        let n = m ∙ ap (λ vs. drawn S vs (shown_in u) u.header u.rows) (sym w) in
        let s = drawn-shown S (shown_in t) (shown_in u) t.header u.header t.rows u.rows R (widths_of t) some (widths-some t)
        (t_fits t.header T.header_row) (u_fits w u.header U.header_row)
        (t_fits t.rows T.each_row) (u_fits w u.rows U.each_row) (lined t t-lines) (lined u u-lines) n in
        record { widths = w; header = s.0; rows = s.1 }

    -- the characters of an area tell its bytes
    areas-told : Agree t u → (i k c : ℕ) → i < length (all_rows t) → k < lines_of t i → c < length (visible t) → area_of t i k c ≡ area_of u i k c
    areas-told a i k c h l m =
        text_tells (printable-area_at t T (contents t) (row_at t i) (row_cells t T i) k (column_of t c))
        (printable-area_at u U (contents u) (row_at u i) (row_cells u U i) k (column_of u c)) (a.areas i k c h l m)

    -- so pages are equal exactly where the tables agree
    pub pages-on-tables : (page t ≡ page u) ↔ Agree t u
    pages-on-tables = ((λ e. alike_agree t u (page-alike e)), (λ a. alike-page (agree-alike t u a (areas-told a))))

or_right : (a b : Bool) → b ≡ true → a || b ≡ true
or_right true b h = refl
or_right false b h = h

or_left : (a b : Bool) → a ≡ true → a || b ≡ true
or_left a b h = rw h

is_delimiter_lem : (t : Table) (i c : ℕ) → ltb (column_of t c) (length (row_at t i).cells) ≡ true
    → is_delimiter t i c (delimiter_of t (column_at t (column_of t c)) (cell_at (row_at t i) (column_of t c))) ≡ true
is_delimiter_lem t i c h = let d = delimiter_of t (column_at t (column_of t c)) (cell_at (row_at t i) (column_of t c)) in rw (h, is_delimiter) (eq-eqb d d refl)

-- agreeing tables' cells hold the same text
pub texts-on-tables : (t u : Table) → Agree t u → SameText t u
texts-on-tables t u a i c hi hc x y =
    let q = left_out t u i c in
    let dt = delimiter_of t (column_at t (column_of t c)) (cell_at (row_at t i) (column_of t c)) in
    let du = delimiter_of u (column_at u (column_of u c)) (cell_at (row_at u i) (column_of u c)) in
    sym (place-characters q refl t i c hc (λ h. or_left (eqb dt 32 || is_delimiter t i c dt) (is_delimiter u i c dt)
    (or_right (eqb dt 32) (is_delimiter t i c dt) (is_delimiter_lem t i c h))) x)
    ∙ ap (λ l. keep (λ ch. not (q ch)) (flat l)) (map_below (λ k. characters_in (area_of t i k c)) (λ k. characters_in (area_of u i k c)) 0
    (lines_of t i) (lines_of t i) (omega arith) (λ k l. a.areas i k c hi l hc))
    ∙ ap (λ n. keep (λ ch. not (q ch)) (flat (map (λ k. characters_in (area_of u i k c)) (up_from 0 n)))) (a.lines i hi)
    ∙ place-characters q refl u i c (omega (arith, length_widths t (contents t), length_widths u (contents u), ap length a.widths))
    (λ h. or_right (eqb du 32 || is_delimiter t i c du) (is_delimiter u i c du) (is_delimiter_lem u i c h)) y

-- an area holds as many characters as its column's visible width
area-filled : (t : Table) (i k c : ℕ) → c < length (visible t) → length (characters_in (area_of t i k c)) ≡ get_or (widths_of t) c 0
unfolding text_width visible_widths
area-filled t i k c h =
    width-area_at t (contents t) (row_at t i) k (column_of t c) ∙ sym (get_d_map (visible_width t (contents t)) (visible t) c 0 0 h)

-- demand 3, over the calls
pub demand_3 : Demand3
demand_3 = record { filled = filled; pages = pages; texts = texts }
  where
    limits : (s : List ℕ) (t : Table) → Accepted s t → TableLimits t
    limits s t a = accepted_limits s t a.end a.reads

    filled : (s : List ℕ) (t : Table) → Accepted s t → (i k c : ℕ) → i < length (all_rows t) → k < lines_of t i → c < length (visible t)
        → length (characters_in (area_of t i k c)) ≡ get_or (widths_of t) c 0
    filled s t a i k c h l m = area-filled t i k c m

    pages : (s v : List ℕ) (t u : Table) → Comparable s v t u → (b d : List ℕ) → Answered s b → Answered v d → (wrote s b ≡ wrote v d) ↔ Agree t u
    pages s v t u C b d m n =
        let e = wrote-page s b t C.first_accepted m in
        let f = wrote-page v d u C.second_accepted n in
        let p = pages-on-tables t u C.one_style (limits s t C.first_accepted) (limits v u C.second_accepted) C.readable C.first_column
        C.second_column C.first_lines C.second_lines in
        ((λ g. p.0 (sym e ∙ g ∙ f)), (λ a. e ∙ p.1 a ∙ sym f))

    texts : (s v : List ℕ) (t u : Table) → Comparable s v t u → (b d : List ℕ) → Answered s b → Answered v d → wrote s b ≡ wrote v d → SameText t u
    texts s v t u C b d m n g = texts-on-tables t u ((pages s v t u C b d m n).0 g)
