-- The loops over a line's visible columns. Assumes nothing.
use Prim.Native.Nat.{ℕ, ◌+◌, ◌≤◌, ◌<◌}
use mathlib.Core.Path.{◌≡◌, refl, sym, ap, ◌∙◌}
use mathlib.Core.List.{List, [], ◌∷◌, ◌++◌, append_assoc}
use mathlib.Core.Logic.{⊎_elim}
use mathlib.Core.Bool.{Bool, false, ◌||◌}
use native.Mathlib.Omega.{arith}
use native.Mathlib.Numerals.{add-one}
use native.Mathlib.Nat.{eq-or-lt_of_le}
use lib.ListN.{length, set, length-set, length-append}
use lib.Seq.{get_or-set_same, get_or-set_other}
use Rattle.rules.specs.Sheet.{most_columns}
use Rattle.buffer.specs.Put.{over, put_at, build, drawn, lead}
use Rattle.buffer.proofs.Laws.{put-nil, put_one, over-put-zero, build-room, build_more, two}
use Rattle.row.specs.Pending.{no_pending, pending_at, Ready, any_found}
use Rattle.row.specs.View.{View, visible_at}
use Rattle.row.specs.declared.Pending.{Pending}
use Rattle.row.proofs.Stand.{same_below}
use Rattle.formatting.specs.Area.{After, column_piece}
use Rattle.formatting.specs.Line.{line_piece, line_bytes, ReadyAll, AfterAll}
use Rattle.buffer.specs.declared.Edges.{Edges}

-- ---- every visible column's cell at its next line

-- columns before i are at their next line, the others as they were
pub record Passing (s : List ℕ) (view : View) (ts₀ ts : List Pending) (more : Bool) (i : ℕ) : Type 0 where
  pub within : i ≤ length view
  pub size : length ts ≡ most_columns
  pub done : (k : ℕ) → k < i → After s (visible_at view k).width (pending_at ts₀ k) (pending_at ts k)
  pub todo : (k : ℕ) → i ≤ k → pending_at ts k ≡ pending_at ts₀ k
  pub found : more ≡ any_found ts i

module _ (s : List ℕ) (view : View) where
  pub passing_begins : (ts : List Pending) → length ts ≡ most_columns → Passing s view ts ts false 0
  unfolding any_found
  passing_begins ts h = record { within = omega arith; size = h; done = λ k l. absurd (omega arith); todo = λ k l. refl; found = refl }

  pub passing-on : (ts₀ ts : List Pending) (more m : Bool) (i : ℕ) (u : Pending) → length view ≤ most_columns → i < length view → Passing s view ts₀ ts
      more i
      → After s (visible_at view i).width (pending_at ts i) u → m ≡ (more || u.line.found) → Passing s view ts₀ (set ts i u) m (i + 1)
  unfolding any_found
  passing-on ts₀ ts more m i u l h p a e =
      let k : i < length ts = omega (arith, p.size) in
      record {
        within = omega arith;
        size = length-set ts i u ∙ p.size;
        done = λ c x.
            ⊎_elim
            (λ (q : c ≡ i). rw (q, get_or-set_same ts i u no_pending k, ← p.todo i (omega arith)) a)
            (λ (q : c < i). rw (get_or-set_other ts i c u no_pending (λ z. omega arith)) (p.done c q))
            (eq-or-lt_of_le (omega arith));
        todo = λ c x. rw (get_or-set_other ts i c u no_pending (λ z. omega arith)) (p.todo c (omega arith));
        found = rw (add-one i) (e ∙ rw (p.found, same_below ts i i u (omega arith), get_or-set_same ts i u no_pending k));
      }

  pub passing_done : (ts₀ ts : List Pending) (more : Bool) (i : ℕ) → length view ≤ i → Passing s view ts₀ ts more i → AfterAll s view ts₀ ts ×
      (more ≡ any_found ts (length view))
  passing_done ts₀ ts more i h p =
      let w = p.within in
      let e : i ≡ length view = omega arith in
      (record { size = p.size; each = λ k l. p.done k (omega arith) }, rw e at p.found)

-- ---- lengths

module _ (s : List ℕ) (view : View) (ind : List ℕ) (style : Edges) (ts : List Pending) (last : Bool) where
  pub line_is : line_bytes s view ind style ts last ≡ drawn style.left ++
      (build (line_piece s view ind style ts last) (length view) ++ (drawn style.right ++ (10 ∷ [])))
  unfolding line_bytes
  line_is = refl

  pub line-length : length (line_bytes s view ind style ts last)
      ≡ length (drawn style.left) + length (build (line_piece s view ind style ts last) (length view)) + length
      (drawn style.right) + 1
  unfolding line_bytes
  line-length =
      let l = drawn style.left in
      let b = build (line_piece s view ind style ts last) (length view) in
      let r = drawn style.right in
      omega (arith, length-append l (b ++ (r ++ (10 ∷ []))), length-append b (r ++ (10 ∷ [])), length-append r (10 ∷ []))

  -- the whole, once its last byte is stored
  pub line_whole : (d d₁ d₂ d₃ : List ℕ) (p q e : ℕ) → d₁ ≡ put_at d 0 (drawn style.left) → d₂ ≡ put_at d₁ p
      (build (line_piece s view ind style ts last) (length view))
      → d₃ ≡ put_at d₂ q (drawn style.right) → length (drawn style.left) ≡ p → p + length
      (build (line_piece s view ind style ts last) (length view)) ≡ q
      → q + length (drawn style.right) ≡ e → e < length d₃ → set d₃ e 10 ≡ over (line_bytes s view ind style ts last) d
  line_whole d d₁ d₂ d₃ p q e e₁ e₂ e₃ x y z h =
      let l = drawn style.left in
      let b = build (line_piece s view ind style ts last) (length view) in
      let r = drawn style.right in
      let f : d₂ ≡ put_at d 0 (l ++ b) = two d 0 l b d₁ d₂ p e₁ e₂ (omega arith) (omega arith) in
      let g : d₃ ≡ put_at d 0 ((l ++ b) ++ r) = two d 0 (l ++ b) r d₂ d₃ q f e₃ (omega (arith, length-append l b)) (omega arith) in
      let i : set d₃ e 10 ≡ put_at d 0 (((l ++ b) ++ r) ++ (10 ∷ [])) =
      two d 0 ((l ++ b) ++ r) (10 ∷ []) d₃ (set d₃ e 10) e g (put_one d₃ e 10 h) (omega (arith, length-append l b, length-append (l ++ b) r))
      (omega arith) in
      i ∙ ap (put_at d 0) ((simp append_assoc) ∙ sym line_is) ∙ sym (over-put-zero (line_bytes s view ind style ts last) d)

-- ---- the columns drawn one after another

pub record Drawing (s : List ℕ) (view : View) (ind : List ℕ) (style : Edges) (ts₀ : List Pending) (last : Bool) (page₀ : List ℕ) (at₀ : ℕ)
    (page : List ℕ) (ts : List Pending) (more : Bool) (at i : ℕ) : Type 0 where
  pub passing : Passing s view ts₀ ts more i
  pub place : at ≡ at₀ + length (build (line_piece s view ind style ts₀ last) i)
  pub text : page ≡ put_at page₀ at₀ (build (line_piece s view ind style ts₀ last) i)
  pub size : length page ≡ length page₀

module _ (s : List ℕ) (view : View) (ind : List ℕ) (style : Edges) (ts₀ : List Pending) (last : Bool) (page₀ : List ℕ) (at₀ : ℕ)
    (R : ReadyAll s view ts₀) where
  pub drawing_begins : Drawing s view ind style ts₀ last page₀ at₀ page₀ ts₀ false at₀ 0
  drawing_begins = record { passing = passing_begins s view ts₀ R.size; place = omega arith; text = sym (put-nil page₀ at₀); size = refl }

  module _ (page : List ℕ) (ts : List Pending) (more : Bool) (at i : ℕ) (D : Drawing s view ind style ts₀ last page₀ at₀ page ts more at i)
      (h : i < length view) where
    ready : Ready s (visible_at view i) (pending_at ts i)
    ready = rw (D.passing.todo i (omega arith)) (R.each i h)

    pub column_ready : Ready s (visible_at view i) (pending_at ts i)
    column_ready = ready

    piece-at : drawn (lead i style.junction) ++ column_piece s (visible_at view i) (pending_at ts i) ind last ≡ line_piece s view ind
        style ts₀ last i
    unfolding line_piece
    piece-at = rw (D.passing.todo i (omega arith))

    here-length : length (line_piece s view ind style ts₀ last i) ≡ length (drawn (lead i style.junction))
        + length (column_piece s (visible_at view i) (pending_at ts i) ind last)
    here-length =
        sym (ap length piece-at)
        ∙ length-append (drawn (lead i style.junction)) (column_piece s (visible_at view i) (pending_at ts i) ind last)

    pub drawing-room : at₀ + length (build (line_piece s view ind style ts₀ last) (length view)) ≤ length page₀
        → at + (length (drawn (lead i style.junction)) + length (column_piece s (visible_at view i) (pending_at ts i) ind last))
        ≤ length page
    drawing-room r = omega (arith, D.place, D.size, here-length, build-room (line_piece s view ind style ts₀ last) i (length view) h)

    pub drawing-on : (page₁ : List ℕ) (u : Pending) (at₁ : ℕ) (m : Bool) → at₀ + length (build (line_piece s view ind style ts₀ last) (length view)) ≤
        length page₀
        → at₁ ≡ at + (length (drawn (lead i style.junction)) + length (column_piece s (visible_at view i) (pending_at ts i) ind last))
        → After s (visible_at view i).width (pending_at ts i) u
        → page₁ ≡ put_at page at (drawn (lead i style.junction) ++ column_piece s (visible_at view i) (pending_at ts i) ind last)
        → length page₁ ≡ length page → m ≡ (more || u.line.found) → Drawing s view ind style ts₀ last page₀ at₀ page₁ (set ts i u) m at₁ (i + 1)
    drawing-on page₁ u at₁ m r e a w l x =
        let g = line_piece s view ind style ts₀ last in
        let b = build_more g i in
        record {
          passing = passing-on s view ts₀ ts more m i u R.most h D.passing a x;
          place = omega (arith, D.place, here-length, ap length b, length-append (build g i) (g i));
          text = two page₀ at₀ (build g i) (g i) page page₁ at D.text (w ∙ ap (put_at page at) piece-at) (sym D.place) (omega arith) ∙ ap
              (put_at page₀ at₀) b;
          size = l ∙ D.size;
        }

  pub drawing_done : (page : List ℕ) (ts : List Pending) (more : Bool) (at i : ℕ) → Drawing s view ind style ts₀ last page₀ at₀ page ts more at i →
      (length view) ≤ i
      → Drawing s view ind style ts₀ last page₀ at₀ page ts more at (length view)
  drawing_done page ts more at i D h =
      let w = D.passing.within in
      let e : i ≡ length view = omega arith in
      rw e at D
