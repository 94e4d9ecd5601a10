-- Whole lines: what is drawn is the document's text line, and a row's height. Assumes nothing.
use Prim.Native.Nat.{ℕ, zero, suc, ◌+◌, ◌≤◌, ◌<◌, max}
use mathlib.Core.Path.{◌≡◌, refl, sym, ap, ◌∙◌}
use mathlib.Core.List.{List, [], ◌∷◌, ◌++◌, map, append_assoc}
use mathlib.Core.Bool.{Bool, true, false, ◌&&◌, ◌||◌}
use native.Mathlib.Omega.{arith}
use lib.ListN.{length, get_or}
use lib.Dec.{ltb}
use borrow.Author.Tests.{lt-ltb, le-ltb, ltb-true, ltb-false}
use Rattle.rules.specs.Text.{greatest, up_from, or_else}
use Rattle.rules.specs.Sheet.{Row, Table, column_at, cell_at, no_cell}
use Rattle.rules.specs.Style.{glyph_at, any_left, any_right, any_junction}
use Rattle.rules.specs.Widths.{visible}
use Rattle.rules.specs.Page.{area_at, cell_lines, wrapped, height, line_of, text_line}
use Rattle.laws.proofs.Lists.{up_from-last}
use Rattle.buffer.specs.Put.{build, drawn, lead}
use Rattle.row.specs.Alignment.{of_code}
use Rattle.row.specs.View.{View, visible_at, shown_of, number_of, Views}
use Rattle.row.specs.Pending.{pending_at, any_found}
use Rattle.row.specs.Open.{OpenedAt, OpenedRow}
use Rattle.row.specs.declared.VisibleColumn.{VisibleColumn}
use Rattle.row.specs.declared.Pending.{Pending}
use Rattle.row.proofs.Alignment.{aligned_or}
use Rattle.row.proofs.Joined.{map_snoc, build-joined, map_numbered, build-same, edge_same}
use Rattle.formatting.specs.Area.{column_piece}
use Rattle.formatting.specs.Line.{line_piece, line_bytes, AfterAll, ReadyAll}
use Rattle.formatting.specs.RowText.{styled}
use Rattle.formatting.specs.Stand.{StandsCell, StandsRow, in_limit, last_of, text_style_of}
use Rattle.buffer.specs.declared.Edges.{Edges}
use Rattle.formatting.proofs.Stand.{piece-area, stands_found, cut_has, stands_on}

-- ---- a text line

-- a line drawn by the characters at k is the document's
pub styled_text : (S : List ℕ) (k : ℕ) (ps : List (List ℕ)) → styled (text_style_of S k) ps ≡ text_line S k ps
unfolding styled text_style_of text_line
styled_text S k ps = rw (
  edge_same (any_left S) (glyph_at S k),
  edge_same (any_junction S) (glyph_at S (k + 1)),
  edge_same (any_right S)
      (glyph_at S (k + 2)),
)

module _ (s : List ℕ) (t : Table) (ws : List ℕ) (r : Row) (view : View) (W : Views t ws view) (j : ℕ) (ts : List Pending)
    (R : StandsRow s t ws r view j ts) where
  pub line-styled : (y : Edges) → in_limit r.limit j ≡ true
      → line_bytes s view t.indicator y ts (last_of r.limit j) ≡ styled y (map (area_at t ws r j) (visible t)) ++ (10 ∷ [])
  unfolding line_bytes line_piece styled line_of
  line-styled y e =
      let g : ℕ → List ℕ = λ i. area_at t ws r j (number_of t i) in
      let p : build (λ i. drawn (lead i y.junction) ++ column_piece s (visible_at view i) (pending_at ts i) t.indicator
      (last_of r.limit j)) (length view)
      ≡ build (λ i. drawn (lead i y.junction) ++ g i) (length view) =
      build-same _ _ (length view) (λ i h. ap (λ l. drawn (lead i y.junction) ++ l)
      (piece-area s t ws r view W j i (pending_at ts i) h (R.each i h) e)) in
      let q : map (area_at t ws r j) (visible t) ≡ map g (up_from 0 (length view)) = map_numbered (area_at t ws r j) 0 (visible t) ∙ ap
      (λ n. map g (up_from 0 n)) (sym W.count) in
      rw (p, build-joined y.junction g (length view), q) (simp append_assoc)

-- ---- a row's height

below-max : (j a b : ℕ) → ltb j (max a b) ≡ (ltb j a || ltb j b)
below-max j a b = go (ltb j a) refl (ltb j b) refl
  where
    go : (x : Bool) → ltb j a ≡ x → (y : Bool) → ltb j b ≡ y → ltb j (max a b) ≡ (x || y)
    go true e y f = lt-ltb j (max a b) (omega (arith, ltb-true j a e))
    go false e true f = lt-ltb j (max a b) (omega (arith, ltb-true j b f))
    go false e false f = le-ltb j (max a b) (omega (arith, ltb-false j a e, ltb-false j b f))

pub greatest_snoc : (ns : List ℕ) (n : ℕ) → greatest (ns ++ (n ∷ [])) ≡ max (greatest ns) n
unfolding greatest
greatest_snoc [] n = omega arith
greatest_snoc (m ∷ ns) n = omega (arith, greatest_snoc ns n)

both_either : (x a b : Bool) → ((x && a) || (x && b)) ≡ (x && (a || b))
both_either true a b = refl
both_either false a b = refl

pub no_lines : (f : ℕ → ℕ) → greatest (map f (up_from 0 0)) ≡ 0
unfolding greatest up_from
no_lines f = refl

pub map_up : (f : ℕ → ℕ) (n : ℕ) → map f (up_from 0 (suc n)) ≡ map f (up_from 0 n) ++ (f n ∷ [])
map_up f n =
    let z : 0 + n ≡ n = omega arith in
    ap (map f) (up_from-last 0 n ∙ ap (λ m. up_from 0 n ++ (m ∷ [])) z) ∙ map_snoc f (up_from 0 n) n

-- a row's height by the numbers of its visible columns
pub height_numbered : (t : Table) (ws : List ℕ) (r : Row) (view : View) → Views t ws view → height t ws r ≡ greatest
    (map (λ i. length (cell_lines t ws r (number_of t i))) (up_from 0 (length view)))
unfolding height
height_numbered t ws r view W =
    ap greatest (map_numbered (λ c. length (cell_lines t ws r c)) 0 (visible t) ∙ ap
    (λ n. map (λ i. length (cell_lines t ws r (number_of t i))) (up_from 0 n)) (sym W.count))

module _ (s : List ℕ) (t : Table) (ws : List ℕ) (r : Row) (view : View) (W : Views t ws view) (j : ℕ) (ts : List Pending)
    (R : StandsRow s t ws r view j ts) where
  lines_in : ℕ → ℕ
  lines_in i = length (cell_lines t ws r (number_of t i))

  column_has : (i : ℕ) → i < length view → ltb j (lines_in i) ≡ (in_limit r.limit j && (pending_at ts i).line.found)
  unfolding lines_in cell_lines
  column_has i h =
      cut_has (get_or ws (number_of t i) 0) t.indicator r.limit j (wrapped t ws r (number_of t i))
      ∙ ap (λ b. in_limit r.limit j && b) (sym (stands_found s (visible_at view i) (wrapped t ws r (number_of t i)) j (pending_at ts i)
      (R.each i h).stands))

  up_to : (n : ℕ) → n ≤ length view → ltb j (greatest (map lines_in (up_from 0 n))) ≡ (in_limit r.limit j && any_found ts n)
  unfolding any_found
  up_to zero h = none (in_limit r.limit j)
    where
      none : (x : Bool) → ltb j (greatest (map lines_in (up_from 0 0))) ≡ (x && false)
      none true = le-ltb j (greatest (map lines_in (up_from 0 0))) (omega (arith, no_lines lines_in))
      none false = le-ltb j (greatest (map lines_in (up_from 0 0))) (omega (arith, no_lines lines_in))
  up_to (suc n) h =
      ap (ltb j) (ap greatest (map_up lines_in n) ∙ greatest_snoc (map lines_in (up_from 0 n)) (lines_in n))
      ∙ below-max j (greatest (map lines_in (up_from 0 n))) (lines_in n)
      ∙ rw (up_to n (omega arith), column_has n (omega arith)) (both_either (in_limit r.limit j) (any_found ts n) (pending_at ts n).line.found)

  -- a row has line j if the limit leaves it and it is pending in some visible column
  pub height_has : ltb j (height t ws r) ≡ (in_limit r.limit j && any_found ts (length view))
  unfolding lines_in
  height_has = ap (ltb j) (height_numbered t ws r view W) ∙ up_to (length view) (omega arith)

-- ---- a row opened

opened-cell : (s : List ℕ) (t : Table) (ws : List ℕ) (r : Row) (i : ℕ) (v : VisibleColumn) (j : ℕ) (st : Pending) → v ≡ shown_of t ws (number_of t i)
    → OpenedAt s (get_or r.cells v.number no_cell) v j st → StandsCell s t ws r v i j st
unfolding shown_of wrapped
opened-cell s t ws r i v j st e o =
    let n : v.number ≡ number_of t i = ap (λ (u : VisibleColumn). u.number) e in
    let w : v.width ≡ get_or ws (number_of t i) 0 = ap (λ (u : VisibleColumn). u.width) e in
    let d : v.delimiter ≡ or_else (column_at t (number_of t i)).delimiter (or_else t.delimiter 32) = ap (λ (u : VisibleColumn). u.delimiter) e in
    let a : v.alignment ≡ of_code (or_else (column_at t (number_of t i)).alignment 1) = ap (λ (u : VisibleColumn). u.alignment) e in
    let x = cell_at r (number_of t i) in
    let y : get_or r.cells v.number no_cell ≡ x = ap (λ k. get_or r.cells k no_cell) n in
    record {
      stands = rw (← w, ← d, ← y) o.stands;
      delimiter = o.delimiter ∙ rw (d, y);
      alignment = o.alignment ∙ rw (a, y) (aligned_or x.alignment (or_else (column_at t (number_of t i)).alignment 1));
    }

pub opened-stands : (s : List ℕ) (t : Table) (ws : List ℕ) (r : Row) (view : View) (j : ℕ) (ts : List Pending) → Views t ws view
    → OpenedRow s r.cells view j ts → StandsRow s t ws r view j ts
opened-stands s t ws r view j ts W o = record {
  size = o.size;
  each = λ i h. opened-cell s t ws r i (visible_at view i) j (pending_at ts i) (W.each i h) (o.each i h);
}

-- the next line of a row
pub stands_after : (s : List ℕ) (t : Table) (ws : List ℕ) (r : Row) (view : View) (j : ℕ) (ts us : List Pending) → StandsRow s t ws r view j ts →
    AfterAll s view ts us → StandsRow s t ws r view (j + 1) us
stands_after s t ws r view j ts us R A = record {
  size = A.size;
  each = λ i h.
      let c = R.each i h in
      let a = A.each i h in
      record {
        stands = stands_on s (visible_at view i) (wrapped t ws r (number_of t i)) j (pending_at ts i) c.stands (pending_at us i) a;
        delimiter = a.delimiter ∙ c.delimiter;
        alignment = a.alignment ∙ c.alignment;
      };
}

-- what is pending can be drawn
pub stands_ready : (s : List ℕ) (t : Table) (ws : List ℕ) (r : Row) (view : View) (j : ℕ) (ts : List Pending) → Views t ws view → StandsRow s t ws r
    view j ts → ReadyAll s view ts
stands_ready s t ws r view j ts W R = record { size = R.size; most = W.most; each = λ i h. (R.each i h).stands.ready }
