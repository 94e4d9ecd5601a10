-- A border or a rule: the loop over its visible columns, and the whole line, which is the document's. Assumes nothing.
use Prim.Native.Nat.{ℕ, ◌+◌, ◌≤◌, ◌<◌}
use mathlib.Core.Path.{◌≡◌, refl, sym, ap, ◌∙◌}
use mathlib.Core.List.{List, [], ◌∷◌, ◌++◌, append_assoc, map}
use native.Mathlib.Omega.{arith}
use lib.ListN.{length, set, length-append, length-replicate, get_or, replicate}
use mathlib.Core.Bool.{Bool, ◌||◌}
use Rattle.std.specs.Bool.{then_some}
use Rattle.rules.specs.Sheet.{Table, column_at}
use Rattle.rules.specs.Text.{up_from}
use Rattle.rules.specs.Style.{glyph_at, glyph, any_left, any_right, any_junction}
use Rattle.rules.specs.Widths.{visible}
use Rattle.rules.specs.Page.{line_of, ruled, visible_width, visible_widths}
use Rattle.buffer.specs.Put.{over, put_at, build, drawn, lead}
use Rattle.buffer.proofs.Laws.{put-nil, put_one, over-put-zero, build-room, build_more, two}
use Rattle.row.specs.View.{View, visible_at, shown_of, number_of, Views}
use Rattle.row.specs.declared.VisibleColumn.{VisibleColumn}
use Rattle.row.proofs.Joined.{build-joined, map-map, map_numbered, build-same, edge_same}
use Rattle.borders.specs.Rule.{rule_area, rule_piece, rule_text, rule_bytes, rule_style_of}
use Rattle.borders.specs.declared.RuleStyle.{RuleStyle}

module _ (view : View) (style : RuleStyle) where
  pub rule_is : rule_bytes view style ≡ drawn style.edges.left ++
      (build (rule_piece view style) (length view) ++ (drawn style.edges.right ++ (10 ∷ [])))
  unfolding rule_bytes
  rule_is = refl

  pub rule_text_lem : rule_bytes view style ≡ rule_text view style ++ (10 ∷ [])
  unfolding rule_bytes rule_text
  rule_text_lem = simp append_assoc

  pub rule-length : length (rule_bytes view style)
      ≡ length (drawn style.edges.left) + length (build (rule_piece view style) (length view)) + length
      (drawn style.edges.right) + 1
  unfolding rule_bytes
  rule-length =
      let l = drawn style.edges.left in
      let b = build (rule_piece view style) (length view) in
      let r = drawn style.edges.right in
      omega (arith, length-append l (b ++ (r ++ (10 ∷ []))), length-append b (r ++ (10 ∷ [])), length-append r (10 ∷ []))

  -- the whole, once its last byte is stored
  pub rule_whole : (d d₁ d₂ d₃ : List ℕ) (p q e : ℕ) → d₁ ≡ put_at d 0 (drawn style.edges.left) → d₂ ≡ put_at d₁ p
      (build (rule_piece view style) (length view))
      → d₃ ≡ put_at d₂ q (drawn style.edges.right) → length (drawn style.edges.left) ≡ p → p + length
      (build (rule_piece view style) (length view)) ≡ q
      → q + length (drawn style.edges.right) ≡ e → e < length d₃ → set d₃ e 10 ≡ over (rule_bytes view style) d
  rule_whole d d₁ d₂ d₃ p q e e₁ e₂ e₃ x y z h =
      let l = drawn style.edges.left in
      let b = build (rule_piece view style) (length view) in
      let r = drawn style.edges.right in
      let f : d₂ ≡ put_at d 0 (l ++ b) = two d 0 l b d₁ d₂ p e₁ e₂ (omega arith) (omega arith) in
      let g : d₃ ≡ put_at d 0 ((l ++ b) ++ r) = two d 0 (l ++ b) r d₂ d₃ q f e₃ (omega (arith, length-append l b)) (omega arith) in
      let i : set d₃ e 10 ≡ put_at d 0 (((l ++ b) ++ r) ++ (10 ∷ [])) =
      two d 0 ((l ++ b) ++ r) (10 ∷ []) d₃ (set d₃ e 10) e g (put_one d₃ e 10 h) (omega (arith, length-append l b, length-append (l ++ b) r))
      (omega arith) in
      i ∙ ap (put_at d 0) ((simp append_assoc) ∙ sym rule_is) ∙ sym (over-put-zero (rule_bytes view style) d)

-- columns before i are drawn
pub record Ruling (view : View) (style : RuleStyle) (page₀ : List ℕ) (at₀ : ℕ) (page : List ℕ) (at i : ℕ) : Type 0 where
  pub within : i ≤ length view
  pub place : at ≡ at₀ + length (build (rule_piece view style) i)
  pub text : page ≡ put_at page₀ at₀ (build (rule_piece view style) i)
  pub size : length page ≡ length page₀

module _ (view : View) (style : RuleStyle) (page₀ : List ℕ) (at₀ : ℕ) where
  pub ruling_begins : Ruling view style page₀ at₀ page₀ at₀ 0
  ruling_begins = record { within = omega arith; place = omega arith; text = sym (put-nil page₀ at₀); size = refl }

  module _ (page : List ℕ) (at i : ℕ) (D : Ruling view style page₀ at₀ page at i) (h : i < length view) where
    here-length : length (rule_piece view style i) ≡ length (drawn (lead i style.edges.junction)) +
        ((visible_at view i).left + ((visible_at view i).width + (visible_at view i).right))
    unfolding rule_piece
    here-length =
        length-append (drawn (lead i style.edges.junction)) (rule_area (visible_at view i) style.fill)
        ∙ ap (λ n. length (drawn (lead i style.edges.junction)) + n)
        (length-replicate ((visible_at view i).left + ((visible_at view i).width + (visible_at view i).right)) style.fill)

    pub ruling-room : at₀ + length (build (rule_piece view style) (length view)) ≤ length page₀
        → at + (length (drawn (lead i style.edges.junction)) +
        ((visible_at view i).left + ((visible_at view i).width + (visible_at view i).right))) ≤ length page
    ruling-room r = omega (arith, D.place, D.size, here-length, build-room (rule_piece view style) i (length view) h)

    pub ruling-on : (page₁ : List ℕ) (at₁ : ℕ) → at₀ + length (build (rule_piece view style) (length view)) ≤ length page₀
        → at₁ ≡ at + (length (drawn (lead i style.edges.junction)) +
        ((visible_at view i).left + ((visible_at view i).width + (visible_at view i).right)))
        → page₁ ≡ put_at page at (drawn (lead i style.edges.junction) ++ rule_area (visible_at view i) style.fill)
        → length page₁ ≡ length page → Ruling view style page₀ at₀ page₁ at₁ (i + 1)
    unfolding rule_piece
    ruling-on page₁ at₁ r e w l =
        let g = rule_piece view style in
        let b = build_more g i in
        record {
          within = omega arith;
          place = omega (arith, D.place, here-length, ap length b, length-append (build g i) (g i));
          text = two page₀ at₀ (build g i) (g i) page page₁ at D.text w (sym D.place) (omega arith) ∙ ap (put_at page₀ at₀) b;
          size = l ∙ D.size;
        }

  pub ruling_done : (page : List ℕ) (at i : ℕ) → Ruling view style page₀ at₀ page at i → length view ≤ i → Ruling view style page₀ at₀ page at
      (length view)
  ruling_done page at i D h =
      let w = D.within in
      let e : i ≡ length view = omega arith in
      rw e at D

-- ---- the document's line

area_fill : (t : Table) (ws : List ℕ) (j f : ℕ) (v : VisibleColumn) → v ≡ shown_of t ws j → rule_area v f ≡ replicate (visible_width t ws j) f
unfolding shown_of
area_fill t ws j f v e =
    let z : (column_at t j).left + (get_or ws j 0 + (column_at t j).right) ≡ visible_width t ws j = omega arith in
    rw e (ap (λ n. replicate n f) z)

pub rule-drawn : (t : Table) (ws : List ℕ) (view : View) → Views t ws view → (S : List ℕ) (always : Bool) (k : ℕ)
    → rule_text view (rule_style_of S (always || any_junction S) k) ≡ ruled S always k (visible_widths t ws)
unfolding rule_text rule_piece rule_style_of ruled line_of visible_widths
rule-drawn t ws view W S always k =
    let b = always || any_junction S in
    let f = glyph (glyph_at S (k + 1)) in
    let g : ℕ → List ℕ = λ i. replicate (visible_width t ws (number_of t i)) f in
    let p : build (λ i. drawn (lead i (then_some b (glyph (glyph_at S (k + 2))))) ++ rule_area (visible_at view i) f) (length view) ≡ build
    (λ i. drawn (lead i (then_some b (glyph (glyph_at S (k + 2))))) ++ g i) (length view) =
    build-same _ _ (length view) (λ i h. ap (λ l. drawn (lead i (then_some b (glyph (glyph_at S (k + 2))))) ++ l)
    (area_fill t ws (number_of t i) f (visible_at view i) (W.each i h))) in
    let q : map (λ v. replicate v f) (map (visible_width t ws) (visible t)) ≡ map g (up_from 0 (length view)) =
    map-map (visible_width t ws) (λ v. replicate v f) (visible t) ∙ map_numbered (λ j. replicate (visible_width t ws j) f) 0 (visible t) ∙ ap
    (λ n. map g (up_from 0 n)) (sym W.count) in
    rw (
      p,
      build-joined (then_some b (glyph (glyph_at S (k + 2)))) g (length view),
      q,
      edge_same (any_left S) (glyph_at S k),
      edge_same b (glyph_at S (k + 2)),
      edge_same (any_right S) (glyph_at S (k + 3)),
    )
