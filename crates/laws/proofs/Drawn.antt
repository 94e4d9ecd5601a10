-- In a readable style the lines drawn tell the visible widths, the header and what every row shows. Assumes nothing.
use Prim.Native.Nat.{ℕ, zero, suc, ◌+◌, ◌≤◌, ◌<◌}
use mathlib.Core.Path.{◌≡◌, refl, sym, ◌∙◌}
use mathlib.Core.Logic.{◌≢◌}
use mathlib.Core.List.{List, [], ◌∷◌, ◌++◌, map, append_assoc, append_cancel_left, append_cancel_right}
use mathlib.Core.Bool.{Bool, true, false}
use native.Mathlib.Nat.{not-suc-le-zero}
use lib.ListN.{length}
use Rattle.rules.specs.Text.{text_width, up_from, All}
use Rattle.rules.specs.Limits.{IsText, CellLimits, TableLimits}
use Rattle.rules.specs.Sheet.{Row, Table}
use Rattle.rules.specs.Style.{top_border, header_lines, header_rule, content_lines, row_rule, bottom_border, glyph_at, is_set, glyph}
use Rattle.rules.specs.Style.{any_left, any_right, any_junction, is_visible}
use Rattle.rules.specs.Widths.{visible}
use Rattle.rules.specs.Page.{visible_width, visible_widths, height, area_at, areas, line_of, joined, edge, ruled, text_line, shown}
use Rattle.rules.specs.Page.{headed, ruled_rows, row_text, framed}
use Rattle.rules.specs.Words.{Readable}
use Rattle.laws.proofs.Lists.{all_map, all_imp}
use Rattle.laws.proofs.Cancel.{line_cancel, border_cancel, runs}
use Rattle.laws.proofs.Fits.{area_widths}
use Rattle.laws.proofs.Characters.{printable-area_at}
use Rattle.laws.proofs.Rows.{Tells, apart, headed-same, rows_same}

given-set : (c : ℕ) → c ≢ 0 → is_set c ≡ true
given-set zero h = absurd (h refl)
given-set (suc n) h = refl

-- a visible border or rule is one line
pub shown-visible : (S : List ℕ) (always : Bool) (k : ℕ) (vs : List ℕ) → is_visible S k ≡ true → shown S always k vs ≡ ruled S always k vs ∷ []
unfolding shown
shown-visible S always k vs h = rw (h, shown)

-- texts of known widths
abbrev pub Fits : List ℕ → List (List ℕ) → Type 0
Fits vs x = (map text_width x ≡ vs) × All IsText x

-- a text line tells its areas
text_tells : (S : List ℕ) (k : ℕ) (vs : List ℕ) → Tells (Fits vs) (text_line S k)
unfolding text_line
text_tells S k vs x y f g e =
    line_cancel (edge (any_left S) (glyph_at S k)) (edge (any_junction S) (glyph_at S (k + 1))) (edge (any_right S) (glyph_at S (k + 2))) x y
    f.1 g.1 (f.0 ∙ sym g.0) e

-- a line that begins with neither of two characters
abbrev Unlike : ℕ → ℕ → List ℕ → Type 0
Unlike a b [] = ⊥
Unlike a b (c ∷ l) = (c ≢ a) × (c ≢ b)

-- the fill of a rule whose first column has a width
fill_of : (x y f g v : ℕ) (vs j k r s : List ℕ) → line_of (x ∷ []) j r (runs f (suc v ∷ vs)) ≡ line_of (y ∷ []) k s (runs g (suc v ∷ vs)) → f ≡ g
unfolding line_of joined
fill_of x y f g v vs j k r s e = cc

module _ (S : List ℕ) (R : Readable S) where
  -- its lefts are drawn, and its top border
  left-drawn : any_left S ≡ true
  left-drawn = rw (given-set (glyph_at S top_border) R.top_left)

  top-visible : is_visible S top_border ≡ true
  top-visible = rw (given-set (glyph_at S top_border) R.top_left)

  -- the top border tells the widths
  top_tells : (vs ws : List ℕ) → 0 < length vs → 0 < length ws → ruled S true top_border vs ≡ ruled S true top_border ws → vs ≡ ws
  unfolding ruled
  top_tells vs ws h k e =
      border_cancel (edge (any_left S) (glyph_at S top_border)) (edge (any_right S) (glyph_at S (top_border + 3))) (glyph (glyph_at S (top_border + 2)))
      (glyph (glyph_at S (top_border + 1))) R.top vs ws h k e

  -- a rule begins like no text line
  abbrev Rule : List ℕ → Type 0
  Rule l = Unlike (glyph (glyph_at S header_lines)) (glyph (glyph_at S content_lines)) l

  header_text : (x : List (List ℕ)) → ¬ Rule (text_line S header_lines x)
  unfolding text_line line_of
  header_text x = rw left-drawn (λ p. p.0 refl)

  content_text : (x : List (List ℕ)) → ¬ Rule (text_line S content_lines x)
  unfolding text_line line_of
  content_text x = rw left-drawn (λ p. p.1 refl)

  header_rule_shown : (vs : List ℕ) → Rule (ruled S false header_rule vs)
  unfolding ruled line_of
  header_rule_shown vs = rw left-drawn ((λ e. R.header_header (sym e)), (λ e. R.content_header (sym e)))

  row_rule_shown : (vs : List ℕ) → Rule (ruled S false row_rule vs)
  unfolding ruled line_of
  row_rule_shown vs = rw left-drawn ((λ e. R.header_row (sym e)), (λ e. R.content_row (sym e)))

  -- the two rules differ
  rules_differ : (vs : List ℕ) → 0 < length vs → All (λ v. 1 ≤ v) vs → ruled S false header_rule vs ≢ ruled S false row_rule vs
  unfolding ruled
  rules_differ [] h k e = not-suc-le-zero h
  rules_differ (zero ∷ vs) h k e = not-suc-le-zero k.0
  rules_differ (suc v ∷ vs) h k e =
      R.fills (fill_of (glyph (glyph_at S header_rule)) (glyph (glyph_at S row_rule)) (glyph (glyph_at S (header_rule + 1)))
      (glyph (glyph_at S (row_rule + 1))) v vs
      (edge (any_junction S) (glyph_at S (header_rule + 2))) (edge (any_junction S) (glyph_at S (row_rule + 2)))
      (edge (any_right S) (glyph_at S (header_rule + 3))) (edge (any_right S) (glyph_at S (row_rule + 3))) (rw left-drawn at e))

-- every line of a row's areas has the visible widths
pub areas_fit : (t : Table) → TableLimits t → (ws : List ℕ) (r : Row) → All CellLimits r.cells → All (Fits (visible_widths t ws)) (areas t ws r)
unfolding areas visible_widths
areas_fit t T ws r R =
    all_map (Fits (map (visible_width t ws) (visible t))) (λ k. map (area_at t ws r k) (visible t))
    (λ k. (area_widths t ws r k (visible t), all_map IsText (area_at t ws r k) (printable-area_at t T ws r R k) (visible t))) (up_from 0 (height t ws r))

-- of all rows
pub rows_fit : (t : Table) → TableLimits t → (ws : List ℕ) (rs : List Row) → All (λ r. All CellLimits r.cells) rs
    → All (λ r. All (Fits (visible_widths t ws)) (areas t ws r)) rs
rows_fit t T ws rs h = all_imp (λ r. All CellLimits r.cells) (λ r. All (Fits (visible_widths t ws)) (areas t ws r)) (areas_fit t T ws) rs h

-- the lines drawn in a style S, for visible widths vs and what each row shows
unfoldable pub drawn : List ℕ → List ℕ → (Row → List (List (List ℕ))) → List Row → List Row → List (List ℕ)
drawn S vs a hs rs =
    shown S true top_border vs
    ++ (headed (λ r. map (text_line S header_lines) (a r)) (shown S false header_rule vs) hs
    ++ (ruled_rows (λ r. map (text_line S content_lines) (a r)) (shown S false row_rule vs) rs
    ++ shown S true bottom_border vs))

-- so a table is drawn
pub framed-drawn : (t : Table) (ws : List ℕ) (rs : List Row) → framed t ws rs ≡ drawn t.style (visible_widths t ws) (areas t ws) t.header rs
unfolding framed row_text drawn
framed-drawn t ws rs = refl

module _ (S : List ℕ) (a b : Row → List (List (List ℕ))) (hs is rs qs : List Row) where
  -- what is shown settles what is drawn
  pub shown-drawn : (vs : List ℕ) → map a hs ≡ map b is → map a rs ≡ map b qs → drawn S vs a hs rs ≡ drawn S vs b is qs
  unfolding drawn
  shown-drawn vs h r =
      let i = headed-same a b (text_line S header_lines) (shown S false header_rule vs) hs is h in
      let j = rows_same a b (text_line S content_lines) (shown S false row_rule vs) rs qs r in
      rw (i, j)

  module _ (R : Readable S) where
    -- the first line tells the widths
    pub drawn_widths : (vs ws : List ℕ) → 0 < length vs → 0 < length ws → drawn S vs a hs rs ≡ drawn S ws b is qs → vs ≡ ws
    unfolding drawn
    drawn_widths vs ws h k e = top_tells S R vs ws h k (cc (
      shown-visible S true top_border vs (top-visible S R),
      shown-visible S true top_border ws
          (top-visible S R),
    ))

    -- the others tell the rest
    pub drawn-shown : (vs : List ℕ) → 0 < length vs → All (λ v. 1 ≤ v) vs
        → All (λ r. All (Fits vs) (a r)) hs → All (λ r. All (Fits vs) (b r)) is → All (λ r. All (Fits vs) (a r)) rs
        → All (λ r. All (Fits vs) (b r)) qs → All (λ r. 0 < length (a r)) rs → All (λ r. 0 < length (b r)) qs
        → drawn S vs a hs rs ≡ drawn S vs b is qs → (map a hs ≡ map b is) × (map a rs ≡ map b qs)
    unfolding drawn
    drawn-shown vs some wide fh fi fr fq la lb e =
        let H = ruled S false header_rule vs in
        let Q = ruled S false row_rule vs in
        let x : shown S false header_rule vs ≡ H ∷ [] = shown-visible S false header_rule vs R.header_rule_shown in
        let y : shown S false row_rule vs ≡ Q ∷ [] = shown-visible S false row_rule vs R.row_rule_shown in
        let f = append_cancel_left (shown S true top_border vs) _ _ e in
        let g = rw (x, y) at f in
        let ta = headed (λ r. map (text_line S header_lines) (a r)) (H ∷ []) hs in
        let tb = headed (λ r. map (text_line S header_lines) (b r)) (H ∷ []) is in
        let ra = ruled_rows (λ r. map (text_line S content_lines) (a r)) (Q ∷ []) rs in
        let rb = ruled_rows (λ r. map (text_line S content_lines) (b r)) (Q ∷ []) qs in
        let z = shown S true bottom_border vs in
        apart (Fits vs) (Rule S R) (text_line S header_lines) (text_line S content_lines) H Q (text_tells S header_lines vs) (text_tells S content_lines vs)
        (header_text S R) (content_text S R) (header_rule_shown S R vs) (row_rule_shown S R vs) (rules_differ S R vs some wide) a b hs is rs qs fh fi fr fq la lb
        (append_cancel_right (ta ++ ra) (tb ++ rb) z (append_assoc ta ra z ∙ g ∙ sym (append_assoc tb rb z)))
