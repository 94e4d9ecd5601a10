-- How long lines are: rules have one length, borders another; a text line has a rule's columns, and a byte more for each pair. Assumes nothing.
use Prim.Native.Nat.{ℕ, ◌+◌, ◌-◌, ◌*◌, ◌≤◌}
use mathlib.Core.Path.{◌≡◌, refl, sym, ◌∙◌}
use mathlib.Core.List.{List, [], ◌∷◌, ◌++◌, map}
use mathlib.Core.Bool.{Bool, true, false, ◌||◌, cond}
use mathlib.Core.Logic.{inl}
use native.Mathlib.Omega.{arith}
use lib.ListN.{length, get_or, replicate, length-append, length-replicate, length-map}
use Rattle.rules.specs.Text.{text_width, sum, one_if, All}
use Rattle.rules.specs.Sheet.{Row, Table}
use Rattle.rules.specs.Limits.{Printable, Optional, Plain, PlainRow, CellLimits, TableLimits}
use Rattle.rules.specs.Style.{glyph_at, glyph, any_left, any_right, any_junction, borders_of}
use Rattle.rules.specs.Widths.{visible, borders, contents}
use Rattle.rules.specs.Page.{edge, joined_more, joined, line_of, ruled, text_line, cell_lines, area_at}
use Rattle.rules.specs.Page.{visible_width, visible_widths, line_length, border_length}
use Rattle.laws.proofs.Lists.{all_default, all_imp, all_replicate}
use Rattle.laws.proofs.Text.{width-nil, width-append, width-le}
use Rattle.laws.proofs.Texts.{plain-all}
use Rattle.laws.proofs.Fits.{width-area_at, length-area_at, area_widths}
use Rattle.laws.proofs.PairCounts.{PairsUpTo, plain-shown}
use Rattle.laws.proofs.Characters.{printable-glyph}
use Rattle.laws.proofs.Areas.{visible-some}

-- m: bytes or columns, in either of which an edge that is drawn counts one
module _ (m : List ℕ → ℕ) (none : m [] ≡ 0) (add : (l k : List ℕ) → m (l ++ k) ≡ m l + m k) where
  -- a junction, if it is drawn, before each of some parts
  measured_more : (b : Bool) (c : ℕ) → m (edge b c) ≡ one_if b → (ps : List (List ℕ))
      → m (joined_more (edge b c) ps) ≡ sum (map m ps) + cond b (length ps) 0
  unfolding joined_more sum
  measured_more true c e [] = none
  measured_more false c e [] = none
  measured_more true c e (p ∷ ps) = simp add (omega (arith, e, measured_more true c e ps))
  measured_more false c e (p ∷ ps) = simp add (omega (arith, e, measured_more false c e ps))

  -- parts, and a junction between each two, if it is drawn
  measured-joined : (b : Bool) (c : ℕ) → m (edge b c) ≡ one_if b → (ps : List (List ℕ))
      → m (joined (edge b c) ps) ≡ sum (map m ps) + cond b (length ps - 1) 0
  unfolding joined sum
  measured-joined true c e [] = none
  measured-joined false c e [] = none
  measured-joined true c e (p ∷ ps) = simp add (omega (arith, measured_more true c e ps))
  measured-joined false c e (p ∷ ps) = simp add (omega (arith, measured_more false c e ps))

  -- every line
  measured-line : (a b d : Bool) (l c r : ℕ) → m (edge a l) ≡ one_if a → m (edge b c) ≡ one_if b → m (edge d r) ≡ one_if d → (ps : List (List ℕ))
      → m (line_of (edge a l) (edge b c) (edge d r) ps) ≡ one_if a + one_if d + cond b (length ps - 1) 0 + sum (map m ps)
  unfolding line_of
  measured-line a b d l c r e f g ps = simp add (omega (arith, e, g, measured-joined b c f ps))

  -- drawn with characters that count one each
  module _ (S : List ℕ) (edges : (b : Bool) (n : ℕ) → m (edge b (glyph_at S n)) ≡ one_if b)
      (fills : (v n : ℕ) → m (replicate v (glyph (glyph_at S n))) ≡ v) where
    -- the parts of a border or rule have the widths
    measured_fills : (n : ℕ) (vs : List ℕ) → map m (map (λ v. replicate v (glyph (glyph_at S n))) vs) ≡ vs
    measured_fills n [] = refl
    measured_fills n (v ∷ vs) = let e = fills v n in let i = measured_fills n vs in cc

    measured-ruled : (always : Bool) (k : ℕ) (vs : List ℕ)
        → m (ruled S always k vs) ≡ one_if (any_left S) + one_if (any_right S) + cond (always || any_junction S) (length vs - 1) 0 + sum vs
    unfolding ruled
    measured-ruled always k vs =
        measured-line (any_left S) (always || any_junction S) (any_right S) (glyph_at S k) (glyph_at S (k + 2)) (glyph_at S (k + 3))
        (edges (any_left S) k) (edges (always || any_junction S) (k + 2)) (edges (any_right S) (k + 3))
        (map (λ v. replicate v (glyph (glyph_at S (k + 1)))) vs)
        ∙ rw (measured_fills (k + 1) vs, length-map)

    measured_text : (k : ℕ) (ps : List (List ℕ)) → m (text_line S k ps) ≡ borders_of S (length ps) + sum (map m ps)
    unfolding text_line borders_of
    measured_text k ps =
        measured-line (any_left S) (any_junction S) (any_right S) (glyph_at S k) (glyph_at S (k + 1)) (glyph_at S (k + 2))
        (edges (any_left S) k) (edges (any_junction S) (k + 1)) (edges (any_right S) (k + 2)) ps

-- bytes
length-edge : (b : Bool) (c : ℕ) → length (edge b c) ≡ one_if b
length-edge true c = refl
length-edge false c = refl

length-ruled : (S : List ℕ) (always : Bool) (k : ℕ) (vs : List ℕ)
    → length (ruled S always k vs) ≡ one_if (any_left S) + one_if (any_right S) + cond (always || any_junction S) (length vs - 1) 0 + sum vs
length-ruled S =
    measured-ruled length refl length-append S (λ b n. length-edge b (glyph_at S n)) (λ v n. length-replicate v (glyph (glyph_at S n)))

length-text_line : (S : List ℕ) (k : ℕ) (ps : List (List ℕ)) → length (text_line S k ps) ≡ borders_of S (length ps) + sum (map length ps)
length-text_line S =
    measured_text length refl length-append S (λ b n. length-edge b (glyph_at S n)) (λ v n. length-replicate v (glyph (glyph_at S n)))

-- a rule
pub rule-length : (t : Table) (ws : List ℕ) (k : ℕ) → length (ruled t.style false k (visible_widths t ws)) ≡ line_length t ws
unfolding line_length borders visible_widths borders_of
rule-length t ws k = length-ruled t.style false k (visible_widths t ws) ∙ rw length-map

-- a border
pub border-length : (t : Table) (ws : List ℕ) (k : ℕ) → length (ruled t.style true k (visible_widths t ws)) ≡ border_length t ws
unfolding border_length visible_widths
border-length t ws k = length-ruled t.style true k (visible_widths t ws) ∙ rw length-map

-- columns, where the style's characters are unset or printable
module _ (t : Table) (optional : All Optional t.style) (ws : List ℕ) where
  glyphs : (n : ℕ) → Printable (glyph (glyph_at t.style n))
  glyphs n = printable-glyph (glyph_at t.style n) (all_default Optional t.style n 0 (inl refl) optional)

  width-edge : (b : Bool) (n : ℕ) → text_width (edge b (glyph_at t.style n)) ≡ one_if b
  width-edge true n = plain-all (glyph (glyph_at t.style n) ∷ []) (glyphs n, tt)
  width-edge false n = width-nil

  width_fill : (v n : ℕ) → text_width (replicate v (glyph (glyph_at t.style n))) ≡ v
  width_fill v n =
      let fill = glyph (glyph_at t.style n) in
      plain-all (replicate v fill) (all_replicate Printable fill v (glyphs n)) ∙ length-replicate v fill

  width-ruled : (always : Bool) (k : ℕ) (vs : List ℕ) → text_width (ruled t.style always k vs) ≡ length (ruled t.style always k vs)
  width-ruled always k vs =
      measured-ruled text_width width-nil width-append t.style width-edge width_fill always k vs ∙ sym (length-ruled t.style always k vs)

  -- a rule
  pub rule-width : (k : ℕ) → text_width (ruled t.style false k (visible_widths t ws)) ≡ line_length t ws
  rule-width k = width-ruled false k (visible_widths t ws) ∙ rule-length t ws k

  -- a border
  pub border-width : (k : ℕ) → text_width (ruled t.style true k (visible_widths t ws)) ≡ border_length t ws
  border-width k = width-ruled true k (visible_widths t ws) ∙ border-length t ws k

  -- a text line of a row
  pub text-width : (r : Row) (i k : ℕ) → text_width (text_line t.style i (map (area_at t ws r k) (visible t))) ≡ line_length t ws
  unfolding line_length borders visible_widths
  text-width r i k =
      measured_text text_width width-nil width-append t.style width-edge width_fill i (map (area_at t ws r k) (visible t))
      ∙ rw (area_widths t ws r k (visible t), length-map)

module _ (t : Table) (ws : List ℕ) (r : Row) (i k : ℕ) where
  -- its bytes: the borders drawn, and those of its areas
  pub text_bytes : length (text_line t.style i (map (area_at t ws r k) (visible t)))
      ≡ borders t + sum (map length (map (area_at t ws r k) (visible t)))
  unfolding borders
  text_bytes = length-text_line t.style i (map (area_at t ws r k) (visible t)) ∙ rw length-map

  -- an area has a byte for each column, and one for each pair
  area_bytes : (n : ℕ) (js : List ℕ) → All (λ j. PairsUpTo n (get_or (cell_lines t ws r j) k [])) js
      → sum (map length (map (area_at t ws r k) js)) ≤ sum (map (visible_width t ws) js) + n * length js
  unfolding sum
  area_bytes n [] h = omega arith
  area_bytes n (j ∷ js) h = omega (arith, length-area_at t ws r k j, h.0, area_bytes n js h.1)

  area_columns : (js : List ℕ) → sum (map (visible_width t ws) js) ≤ sum (map length (map (area_at t ws r k) js))
  unfolding sum
  area_columns [] = omega arith
  area_columns (j ∷ js) = omega (arith, width-area_at t ws r k j, width-le (area_at t ws r k j), area_columns js)

  -- at most n pairs in each of its areas
  pub text-bound : (n : ℕ) → All (λ j. PairsUpTo n (get_or (cell_lines t ws r j) k [])) (visible t)
      → length (text_line t.style i (map (area_at t ws r k) (visible t))) ≤ line_length t ws + n * length (visible t)
  unfolding line_length visible_widths
  text-bound n h = omega (arith, text_bytes, area_bytes n (visible t) h)

  -- no pair in any of them
  pub plain-length : All (λ j. Plain (get_or (cell_lines t ws r j) k [])) (visible t)
      → length (text_line t.style i (map (area_at t ws r k) (visible t))) ≡ line_length t ws
  unfolding line_length visible_widths
  plain-length h =
      let none = all_imp (λ j. Plain (get_or (cell_lines t ws r j) k [])) (λ j. PairsUpTo 0 (get_or (cell_lines t ws r j) k [])) (λ j e. omega (arith, e))
      (visible t) h in
      omega (arith, text_bytes, area_bytes 0 (visible t) none, area_columns (visible t))

-- no pair in any cell of the row
pub plain_row : (t : Table) → TableLimits t → (r : Row) → All CellLimits r.cells → PlainRow r → (i k : ℕ)
    → length (text_line t.style i (map (area_at t (contents t) r k) (visible t))) ≡ line_length t (contents t)
plain_row t T r R h i k =
    plain-length t (contents t) r i k (all_imp (λ j. 1 ≤ get_or (contents t) j 0) (λ j. Plain (get_or (cell_lines t (contents t) r j) k []))
    (λ j some. plain-shown t T (contents t) r R h k j some) (visible t) (visible-some t))
