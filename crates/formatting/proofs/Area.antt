-- Pieces written one after another, areas, and a cell's line as it is shown. Assumes nothing.
use Prim.Native.Nat.{ℕ, zero, suc, ◌+◌, ◌-◌, ◌≤◌, ◌<◌}
use mathlib.Core.Path.{◌≡◌, refl, sym, ap, ◌∙◌}
use mathlib.Core.List.{List, [], ◌++◌, append_assoc, append-nil}
use mathlib.Core.Bool.{Bool, true, false, cond, ◌&&◌}
use native.Mathlib.Omega.{arith}
use lib.ListN.{length, take, drop, length-append, length-replicate}
use lib.Seq.{slice, length-slice, length-take-le, take-take, take_all}
use lib.Dec.{leb, ltb}
use Rattle.rules.specs.Text.{text_width, bytes_of, first_of, blank}
use Rattle.rules.specs.Limits.{Plain}
use Rattle.rules.specs.Wrap.{shown_indicator, cut_line}
use Rattle.rules.specs.Page.{before}
use Rattle.laws.proofs.Text.{width-nil, width-append, width-le, width-first, first-all, bytes-plain, plain-take}
use Rattle.text_width.specs.Measure.{col, Reached}
use Rattle.text_width.proofs.Measure.{col_slice, col-le, reached-all, reach_below, first_reach, lent_slice}
use Rattle.table.specs.Walk.{first_line}
use Rattle.buffer.specs.Put.{put_at}
use Rattle.buffer.proofs.Laws.{two}
use Rattle.cells.specs.declared.Next.{Next}
use Rattle.row.specs.Pending.{pending_text, following, InSheet}
use Rattle.row.specs.Alignment.{code_of}
use Rattle.row.specs.declared.CellAlignment.{CellAlignment}
use Rattle.row.specs.declared.VisibleColumn.{VisibleColumn}
use Rattle.row.specs.declared.Pending.{Pending}
use Rattle.formatting.specs.Area.{area_in, marks_shown, LineIn, ShownIs, shown_text, After, column_piece}
use Rattle.formatting.specs.declared.content_format.Shown.{Shown}

-- four pieces
pub four : (d : List ℕ) (at : ℕ) (a b c e d₁ d₂ d₃ d₄ : List ℕ) (p q r : ℕ) → d₁ ≡ put_at d at a → d₂ ≡ put_at d₁ p b → d₃ ≡ put_at d₂ q c → d₄ ≡ put_at
    d₃ r e
    → at + length a ≡ p → p + length b ≡ q → q + length c ≡ r → at ≤ length d → d₄ ≡ put_at d at (a ++ (b ++ (c ++ e)))
four d at a b c e d₁ d₂ d₃ d₄ p q r e₁ e₂ e₃ e₄ x y z h =
    let f : d₂ ≡ put_at d at (a ++ b) = two d at a b d₁ d₂ p e₁ e₂ x h in
    let g : d₃ ≡ put_at d at ((a ++ b) ++ c) = two d at (a ++ b) c d₂ d₃ q f e₃ (omega (arith, length-append a b)) h in
    let i : d₄ ≡ put_at d at (((a ++ b) ++ c) ++ e) = two d at ((a ++ b) ++ c) e d₃ d₄ r g e₄
    (omega (arith, length-append a b, length-append (a ++ b) c)) h in
    i ∙ ap (put_at d at) (simp append_assoc)

-- an area as it is drawn: blanks, a text, what follows it, blanks
pub area_is : (v : VisibleColumn) (a : CellAlignment) (text marks : List ℕ) (spare b : ℕ) → spare ≡ v.width - text_width (text ++ marks) → b ≡ before (code_of a) spare
    → blank (v.left + b) ++ (text ++ (marks ++ blank (spare - b + v.right))) ≡ area_in v a (text ++ marks)
unfolding area_in
area_is v a text marks spare b e q = rw (← e, q, append_assoc)

pub area_total : (v : VisibleColumn) (a : CellAlignment) (text marks : List ℕ) (spare b : ℕ) → spare ≡ v.width - text_width (text ++ marks) → b ≡ before (code_of a) spare
    → length (area_in v a (text ++ marks)) ≡ v.left + b + (length text + (length marks + (spare - b + v.right)))
area_total v a text marks spare b e q =
    sym (ap length (area_is v a text marks spare b e q)) ∙ simp (length-append, length-replicate) (omega arith)

-- ---- a line shortened

first_bytes : (w : ℕ) (l : List ℕ) → first_of w l ≡ take (bytes_of w l) l
unfolding first_of
first_bytes w l = refl

module _ (t : List ℕ) (l : Next) (w : ℕ) (I : LineIn t l) where
  -- no more columns than bytes
  pub line_bytes : l.columns ≤ l.end - l.start
  line_bytes =
      let x = slice l.start l.end t in
      omega (arith, I.columns, width-le x, length-slice l.start l.end t I.within)

  pub shorten_whole : l.columns ≤ w → ShownIs t l w (record { end = l.end; columns = l.columns })
  shorten_whole h = record {
    order = I.order;
    within = omega arith;
    text = sym (first-all w (slice l.start l.end t) (omega (arith, I.columns)));
    columns = I.columns;
  }

  -- the first columns take these bytes
  first_columns : (z : ℕ) → w ≤ l.columns → slice l.start z t ≡ first_of w (slice l.start l.end t) → w ≡ text_width (slice l.start z t)
  first_columns z h e = omega (arith, I.columns, width-first w (slice l.start l.end t), ap text_width e)

  pub shorten-plain : w < l.columns → l.columns ≡ l.end - l.start → ShownIs t l w (record { end = l.start + w; columns = w })
  shorten-plain h e =
      let x = slice l.start l.end t in
      let n : length x ≡ l.end - l.start = length-slice l.start l.end t I.within in
      let b : bytes_of w x ≡ w = bytes-plain w x (omega (arith, I.columns)) ∙ omega arith in
      let d : l.start + w - l.start ≡ w = omega arith in
      let c : slice l.start (l.start + w) t ≡ first_of w x =
      sym (lent_slice l.start (l.start + w) t) ∙ ap (λ k. take k (drop l.start t)) d
      ∙ sym (first_bytes w x ∙ ap (λ k. take k x) b ∙ ap (take w) (sym (lent_slice l.start l.end t))
      ∙ take-take w (l.end - l.start) (drop l.start t) (omega arith)) in
      record { order = omega arith; within = omega arith; text = c; columns = first_columns (l.start + w) (omega arith) c }

  pub shorten-counted : w < l.columns → (z left : ℕ) → Reached t l.start w z left → ShownIs t l w (record { end = z; columns = w })
  shorten-counted h z left R =
      let e : col t l.start + l.columns ≡ col t l.end = rw I.columns (col_slice t l.start l.end I.order) in
      let r = reached-all t (lacks-none z left e R) R in
      let b = reach_below t r l.end (omega arith) in
      let c = sym (first_reach t r l.end (omega arith) I.within) in
      record { order = R.from; within = omega arith; text = c; columns = first_columns z (omega arith) c }
    where
      lacks-none : (z left : ℕ) → col t l.start + l.columns ≡ col t l.end → Reached t l.start w z left → left ≤ 0
      lacks-none z zero e R = omega arith
      lacks-none z (suc n) e R =
          let q = R.end (omega arith) in
          absurd (omega (arith, R.columns, col-le t l.end z (omega (arith, I.within))))

-- ---- a cell's line as it is shown

-- a cut line: its first columns, and the indicator where it isn't wider than the content
shown-cut : (w m : ℕ) (ind l part : List ℕ) → Plain ind → m ≡ cond (leb (length ind) w) (length ind) 0 → part ≡ first_of (w - m) l
    → part ++ take m ind ≡ cut_line w ind l
unfolding cut_line shown_indicator
shown-cut w m ind l part width e f = go (leb (length ind) w) refl
  where
    whole : leb (length ind) w ≡ true → shown_indicator w ind ≡ ind
    whole b = rw (width, b, shown_indicator)

    none : leb (length ind) w ≡ false → shown_indicator w ind ≡ []
    none b = rw (width, b, shown_indicator)

    go : (b : Bool) → leb (length ind) w ≡ b → part ++ take m ind ≡ cut_line w ind l
    go true b =
        let c : m ≡ length ind = rw b at e in
        let d : take m ind ≡ ind = ap (λ k. take k ind) c ∙ take_all (length ind) ind (omega arith) in
        rw (whole b, width, f, d, c)
    go false b = let c : m ≡ 0 = rw b at e in rw (none b, width-nil, f, c)

module _ (s : List ℕ) (w : ℕ) (t : Pending) (I : InSheet s w t) where
  -- the line lies in its cell line
  pub line_in : (text : List ℕ) → text ≡ first_line s t.line.cursor.lines → LineIn text t.line
  line_in text e = rw e (record { order = I.order; within = I.within; columns = I.columns })

  module _ (text : List ℕ) (et : text ≡ first_line s t.line.cursor.lines) (ind : List ℕ) (K : Plain ind) (cut : Bool) (m : ℕ)
      (e : m ≡ marks_shown cut (length ind) w) (h : m ≤ w) (k : m ≤ length ind) (r : Shown) (S : ShownIs text t.line (w - m) r) where
    part_is : slice t.line.start r.end text ≡ first_of (w - m) (pending_text s t)
    part_is = S.text ∙ ap (λ x. first_of (w - m) (slice t.line.start t.line.end x)) et

    -- the part of the cell line and of the indicator that are shown
    pub shown_is : take (r.end - t.line.start) (drop t.line.start text) ++ take m ind
        ≡ shown_text s w ind cut t
    unfolding shown_text
    shown_is = ap (λ x. x ++ take m ind) (lent_slice t.line.start r.end text) ∙ go cut refl
      where
        go : (b : Bool) → cut ≡ b
            → slice t.line.start r.end text ++ take m ind ≡ shown_text s w ind b t
        go true f = shown-cut w m ind (pending_text s t) _ K (rw f at e) part_is
        go false f =
            let z : m ≡ 0 = rw f at e in
            let a = part_is ∙ first-all (w - m) (pending_text s t) (omega (arith, I.fits)) in
            rw (a, z) (append-nil (pending_text s t))

    marks-width : text_width (take m ind) ≡ m
    marks-width =
        plain-take m ind K ∙ length-take-le m ind k

    part-width : text_width (take (r.end - t.line.start) (drop t.line.start text)) ≡ r.columns
    part-width = ap text_width (lent_slice t.line.start r.end text) ∙ sym S.columns

    -- its columns, its bytes, and what it leaves free
    pub shown_columns : (text_width (shown_text s w ind cut t) ≡ r.columns + m) × (r.columns + m ≤ w)
    shown_columns =
        let part = take (r.end - t.line.start) (drop t.line.start text) in
        let a = sym (ap text_width shown_is) ∙ width-append part (take m ind) in
        let b = width-first (w - m) (pending_text s t) in
        let c = S.columns ∙ ap text_width part_is in
        (omega (arith, a, part-width, marks-width), omega (arith, b, c))

    pub shown_bytes : length (shown_text s w ind cut t) ≡ r.end - t.line.start + m
    shown_bytes =
        let part = take (r.end - t.line.start) (drop t.line.start text) in
        let a = sym (ap length shown_is) ∙ length-append part (take m ind) in
        let b = ap length (lent_slice t.line.start r.end text) ∙ length-slice t.line.start r.end text shown-within in
        omega (arith, a, b, length-take-le m ind k)
      where
        shown-within : r.end ≤ length text
        shown-within = omega (arith, S.within, I.within, ap length et)

    pub shown_inside : r.end ≤ length text
    shown_inside = omega (arith, S.within, I.within, ap length et)

    pub shown_spare : w - m - r.columns ≡ w - text_width (shown_text s w ind cut t)
    shown_spare = omega (arith, shown_columns.0, shown_columns.1)

-- whether a line is cut is told by the line after it
pub piece_cut : (s : List ℕ) (v : VisibleColumn) (t : Pending) (ind : List ℕ) (last cut : Bool) → cut ≡ (last && ltb 0 (length (following s v.width t)))
    → area_in v t.alignment (shown_text s v.width ind cut t) ≡ column_piece s v t ind last
unfolding column_piece
piece_cut s v t ind last cut e = rw e

pub piece_is : (s : List ℕ) (v : VisibleColumn) (t r : Pending) (ind : List ℕ) (last cut : Bool) → cut ≡ (last && r.line.found) → After s v.width
    t r
    → area_in v t.alignment (shown_text s v.width ind cut t) ≡ column_piece s v t ind last
piece_is s v t r ind last cut e a = piece_cut s v t ind last cut (e ∙ ap (λ b. last && b) a.line.found)
