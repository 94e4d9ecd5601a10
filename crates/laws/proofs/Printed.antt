-- The longest of a page's lines, in characters: a border where one is drawn, else any line. Assumes nothing.
use Prim.Native.Nat.{ℕ, ◌-◌, ◌≤◌, ◌<◌, max}
use mathlib.Core.Path.{◌≡◌, refl, sym, ap, ◌∙◌, subst}
use mathlib.Core.List.{List, [], ◌∷◌, ◌++◌, map}
use mathlib.Core.Bool.{Bool, true, false}
use native.Mathlib.Omega.{arith}
use lib.ListN.{length}
use Rattle.rules.specs.Text.{text_width, greatest, up_from, All}
use Rattle.rules.specs.Sheet.{Row, Table}
use Rattle.rules.specs.Limits.{Optional}
use Rattle.rules.specs.Style.{top_border, header_lines, header_rule, content_lines, row_rule, bottom_border, any_junction, borders_of, is_visible}
use Rattle.rules.specs.Widths.{visible, borders}
use Rattle.rules.specs.Page.{visible_widths, area_at, areas, height, text_line, ruled, shown, headed, ruled_rows, row_text, framed, line_length, border_length}
use Rattle.laws.proofs.Lists.{all_of, all_map, all-map_imp, all_append, map-append, greatest-append}
use Rattle.laws.proofs.Lines.{rule-width, border-width, text-width}
use Rattle.laws.proofs.Rows.{all-headed, all-ruled_rows}
use Rattle.laws.proofs.Counts.{cond-le}

-- lines of one width
same-most : (n : ℕ) (ls : List (List ℕ)) → All (λ l. text_width l ≡ n) ls → greatest (map text_width ls) ≤ n
unfolding greatest
same-most n [] h = omega arith
same-most n (l ∷ ls) h = omega (arith, h.0, same-most n ls h.1)

same_some : (n : ℕ) (ls : List (List ℕ)) → All (λ l. text_width l ≡ n) ls → 0 < length ls → greatest (map text_width ls) ≡ n
unfolding greatest
same_some n [] h k = absurd (omega arith)
same_some n (l ∷ ls) h k = omega (arith, h.0, same-most n ls h.1)

widest-append : (ls ms : List (List ℕ)) → greatest (map text_width (ls ++ ms)) ≡ max (greatest (map text_width ls)) (greatest (map text_width ms))
widest-append ls ms = ap greatest (map-append text_width ls ms) ∙ greatest-append (map text_width ls) (map text_width ms)

-- a border's junctions are drawn even where none is set
line-within-border : (t : Table) (ws : List ℕ) → line_length t ws ≤ border_length t ws
unfolding line_length border_length borders borders_of
line-within-border t ws = omega (arith, cond-le (any_junction t.style) (length (visible t) - 1))

module _ (t : Table) (optional : All Optional t.style) (ws : List ℕ) where
  abbrev OfLine : List ℕ → Type 0
  OfLine l = text_width l ≡ line_length t ws

  abbrev OfBorder : List ℕ → Type 0
  OfBorder l = text_width l ≡ border_length t ws

  borders-one : (k : ℕ) → All OfBorder (shown t.style true k (visible_widths t ws))
  unfolding shown
  borders-one k = go (is_visible t.style k)
    where
      go : (b : Bool) → All OfBorder (elim b as (λ x. List (List ℕ)) [ true ↦ ruled t.style true k (visible_widths t ws) ∷ [] | false ↦ [] ])
      go true = (border-width t optional ws k, tt)
      go false = tt

  rules-one : (k : ℕ) → All OfLine (shown t.style false k (visible_widths t ws))
  unfolding shown
  rules-one k = go (is_visible t.style k)
    where
      go : (b : Bool) → All OfLine (elim b as (λ x. List (List ℕ)) [ true ↦ ruled t.style false k (visible_widths t ws) ∷ [] | false ↦ [] ])
      go true = (rule-width t optional ws k, tt)
      go false = tt

  texts-one : (k : ℕ) (r : Row) → All OfLine (row_text t ws k r)
  unfolding row_text areas
  texts-one k r =
      all-map_imp (λ x. OfLine (text_line t.style k x)) OfLine (text_line t.style k) (λ x h. h) (areas t ws r)
      (all_map (λ x. OfLine (text_line t.style k x)) (λ i. map (area_at t ws r i) (visible t)) (λ i. text-width t optional ws r k i)
      (up_from 0 (height t ws r)))

  -- what stands between the borders
  module _ (rs : List Row) where
    abbrev head : List (List ℕ)
    head = headed (row_text t ws header_lines) (shown t.style false header_rule (visible_widths t ws)) t.header

    abbrev body : List (List ℕ)
    body = ruled_rows (row_text t ws content_lines) (shown t.style false row_rule (visible_widths t ws)) rs

    head-one : All OfLine head
    head-one = search (all-headed, rules-one, texts-one, all_of)

    body-one : All OfLine body
    body-one = search (all-ruled_rows, rules-one, texts-one, all_of)

    -- the four parts of the page
    abbrev widest : List (List ℕ) → ℕ
    widest ls = greatest (map text_width ls)

    abbrev border : ℕ → List (List ℕ)
    border k = shown t.style true k (visible_widths t ws)

    parts : widest (framed t ws rs) ≡ max (widest (border top_border)) (max (widest head) (max (widest body) (widest (border bottom_border))))
    unfolding framed
    parts =
        widest-append (border top_border) (head ++ (body ++ border bottom_border))
        ∙ ap (max (widest (border top_border))) (widest-append head (body ++ border bottom_border)
        ∙ ap (max (widest head)) (widest-append body (border bottom_border)))

    border-drawn : (k : ℕ) → is_visible t.style k ≡ true → widest (border k) ≡ border_length t ws
    unfolding shown
    border-drawn k e = same_some (border_length t ws) (border k) (borders-one k) (rw (e, shown) (omega arith))

    inside : (widest head ≤ border_length t ws) × (widest body ≤ border_length t ws)
    inside =
        let k = line-within-border t ws in
        (omega (arith, same-most (line_length t ws) head head-one), omega (arith, same-most (line_length t ws) body body-one))

    -- a border is drawn
    pub longest_top : is_visible t.style top_border ≡ true → widest (framed t ws rs) ≡ border_length t ws
    longest_top e =
        let i = inside in
        omega (arith, parts, border-drawn top_border e, i.0, i.1, same-most (border_length t ws) (border bottom_border) (borders-one bottom_border))

    pub longest_bottom : is_visible t.style bottom_border ≡ true → widest (framed t ws rs) ≡ border_length t ws
    longest_bottom e =
        let i = inside in
        omega (arith, parts, border-drawn bottom_border e, i.0, i.1, same-most (border_length t ws) (border top_border) (borders-one top_border))

    no-border : (k : ℕ) → is_visible t.style k ≡ false → border k ≡ []
    unfolding shown
    no-border k e = rw (e, shown)

    -- none is, and there are lines
    pub longest-line : is_visible t.style top_border ≡ false → is_visible t.style bottom_border ≡ false → 0 < length (framed t ws rs)
        → widest (framed t ws rs) ≡ line_length t ws
    unfolding framed
    longest-line e f h = same_some (line_length t ws) (framed t ws rs) all h
      where
        all : All OfLine (framed t ws rs)
        all = subst (All OfLine) (sym one) (all_append OfLine head (body ++ []) head-one (all_append OfLine body [] body-one tt))
          where
            one : framed t ws rs ≡ head ++ (body ++ [])
            one = rw (no-border top_border e, no-border bottom_border f)

    -- there are no lines
    pub longest-none : length (framed t ws rs) ≡ 0 → widest (framed t ws rs) ≡ 0
    unfolding greatest
    longest-none h = go (framed t ws rs) h
      where
        go : (ls : List (List ℕ)) → length ls ≡ 0 → widest ls ≡ 0
        go [] e = refl
        go (l ∷ ls) e = absurd (omega arith)
