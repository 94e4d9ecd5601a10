-- Wrapping a text from a position on: each step of the code, as an equation of `wrapping`. Assumes nothing.
use Prim.Native.Nat.{ℕ, zero, suc, ◌+◌, ◌-◌, ◌≤◌, ◌<◌, suc-le-suc}
use mathlib.Core.Path.{◌≡◌, refl, sym, ap, ◌∙◌}
use mathlib.Core.List.{List, [], ◌∷◌, ◌++◌}
use mathlib.Core.Bool.{true, false}
use mathlib.Core.Logic.{⊎_elim}
use native.Mathlib.Omega.{arith}
use native.Mathlib.Nat.{le_of_suc-le-suc, zero-add, suc-add}
use lib.ListN.{length, take, drop, get_or, length-drop, drop_of_length-le}
use lib.Seq.{slice, slice_empty, slice-cons, length-slice, drop-drop, get_or-drop, take_all, take-nil}
use lib.Dec.{ltb, leb}
use borrow.Author.Tests.{le-leb, lt-leb, lt-ltb, le-ltb, eq-eqb, ne_eqb}
use Rattle.rules.specs.Text.{text_width}
use Rattle.rules.specs.Wrap.{pieces, onto, glue, room, tight, last}
use Rattle.laws.proofs.Fuel.{run, run_retry, run_fill, run_end}
use Rattle.laws.proofs.Text.{width-nil}
use Rattle.text_width.specs.Measure.{col, Reach}
use Rattle.text_width.proofs.Measure.{le-or-lt, col_slice, col-le, reach_below, reach-past, reach-on, slice-append, first_reach, rest_reach}
use Rattle.content_split.specs.Cut.{Cut}
use Rattle.content_split.proofs.Rules.{wrapping, settled, settled-full, settled_open, run_join, run_begin}

-- ---- lists

take-drop : (k s : ℕ) (l : List ℕ) → take k (drop s l) ≡ drop s (take (s + k) l)
take-drop k zero l = rw zero-add
take-drop k (suc s) [] = rw (take-nil, take-nil)
take-drop k (suc s) (x ∷ xs) = rw suc-add (take-drop k s xs)

glue-some : (d : ℕ) (l p : List ℕ) → 0 < length l → glue d l p ≡ l ++ (d ∷ p)
unfolding glue
glue-some d [] p h = absurd (omega arith)
glue-some d (x ∷ xs) p h = refl

tight-some : (w d : ℕ) (l : List ℕ) → 0 < length l → tight w d l ≡ leb (w - text_width (glue d l [])) 2
unfolding tight room
tight-some w d [] h = absurd (omega arith)
tight-some w d (x ∷ xs) h = refl

pub last_some : (l : List ℕ) → 0 < length l → last l ≡ l ∷ []
unfolding last
last_some [] h = absurd (omega arith)
last_some (x ∷ xs) h = refl

-- ---- pieces

pieces-at : (d : ℕ) (t : List ℕ) (k : ℕ) → ((i : ℕ) → i < k → get_or t i 0 ≡ d → ⊥) → k < length t → get_or t k 0 ≡ d
    → pieces d t ≡ take k t ∷ pieces d (drop (suc k) t)
unfolding pieces onto
pieces-at d [] k nd h e = absurd (omega arith)
pieces-at d (b ∷ bs) zero nd h e = rw (eq-eqb b d e, pieces)
pieces-at d (b ∷ bs) (suc k) nd h e =
    rw (ne_eqb b d (nd 0 (omega arith)), pieces)
    (rw (pieces-at d bs k (λ i l. nd (suc i) (suc-le-suc l)) (le_of_suc-le-suc h) e))

pieces-all : (d : ℕ) (t : List ℕ) → ((i : ℕ) → i < length t → get_or t i 0 ≡ d → ⊥) → pieces d t ≡ t ∷ []
unfolding pieces onto
pieces-all d [] nd = refl
pieces-all d (b ∷ bs) nd =
    rw (ne_eqb b d (nd 0 (omega arith)), pieces)
    (rw (pieces-all d bs (λ i l. nd (suc i) (suc-le-suc l))))

-- the pieces after position e, where a piece ends
pub after : ℕ → List ℕ → ℕ → List (List ℕ)
after d T e = elim (ltb e (length T)) [ true ↦ pieces d (drop (suc e) T) | false ↦ [] ]

after_more : (d : ℕ) (T : List ℕ) (e : ℕ) → e < length T → after d T e ≡ pieces d (drop (suc e) T)
unfolding after
after_more d T e h = rw (lt-ltb _ _ h, after)

after_end : (d : ℕ) (T : List ℕ) (e : ℕ) → length T ≤ e → after d T e ≡ []
unfolding after
after_end d T e h = rw (le-ltb _ _ h, after)

pieces-cut : (d : ℕ) (T : List ℕ) (s e : ℕ) → Cut d T s e → pieces d (drop s T) ≡ slice s e T ∷ after d T e
pieces-cut d T s e c = ⊎_elim ends goes (le-or-lt (length T) e)
  where
    goes : e < length T → pieces d (drop s T) ≡ slice s e T ∷ after d T e
    goes h =
        let n = length-drop s T in
        let f = c.from in
        let a : s + (e - s) ≡ e = omega arith in
        let b : s + suc (e - s) ≡ suc e = omega arith in
        let k : e - s < length (drop s T) = omega arith in
        pieces-at d (drop s T) (e - s) (λ i l. rw get_or-drop (c.clear (s + i) (omega arith) (omega arith))) k (rw (get_or-drop, a) (c.stop h))
        ∙ rw (after_more d T e h, drop-drop, b, take-drop, a)

    ends : length T ≤ e → pieces d (drop s T) ≡ slice s e T ∷ after d T e
    ends h =
        let n = length-drop s T in
        let f = c.from in
        let g = c.within in
        let a : length T ≤ e = omega arith in
        pieces-all d (drop s T) (λ i l. rw get_or-drop (c.clear (s + i) (omega arith) (omega arith)))
        ∙ rw (after_end d T e h, take_all e T)

-- ---- the steps of the code

module _ (w d : ℕ) (pos : 0 < w) (T : List ℕ) where
  -- what is wrapped from position s on
  abbrev pub from_on : ℕ → List (List ℕ)
  from_on s = wrapping w d (drop s T)

  start-empty : (ps : List (List ℕ)) → run w d [] ([] ∷ ps) ≡ run w d [] ps
  unfolding glue
  start-empty ps = run_join w d pos [] [] ps (omega (arith, width-nil)) ∙ settled_open w d [] ps (omega (arith, width-nil))

  pub none_left : (s : ℕ) → length T ≤ s → from_on s ≡ []
  unfolding wrapping pieces last
  none_left s h = rw (drop_of_length-le T h) (start-empty [] ∙ run_end w d pos [])

  -- an empty piece leaves an empty line empty
  pub skip-one : (s : ℕ) → s < length T → get_or T s 0 ≡ d → from_on s ≡ from_on (suc s)
  unfolding wrapping
  skip-one s h e =
      let c : Cut d T s s = record { from = omega arith; within = omega arith; clear = λ k a b q. omega arith; stop = λ l. e } in
      rw (pieces-cut d T s s c, slice_empty, after_more d T s h) (start-empty (pieces d (drop (suc s) T)))

  -- the first piece joins the empty line
  pub first_joins : (s e : ℕ) → Cut d T s e → col T e ≤ col T s + w → from_on s ≡ settled w d (slice s e T) (after d T e)
  unfolding wrapping glue
  first_joins s e c h =
      let n = col_slice T s e c.from in
      rw (pieces-cut d T s e c) (run_join w d pos [] (slice s e T) (after d T e) (omega arith))

  -- what is left of a piece that is cut at z
  cut_on : (s e z : ℕ) → s ≤ z → z ≤ e → Cut d T s e → Cut d T z e
  cut_on s e z h k c = record { from = k; within = c.within; clear = λ k a b. c.clear k (omega arith) b; stop = c.stop }

  -- the first piece is longer than the line
  pub first_fills : (s e z : ℕ) → Cut d T s e → Reach T s w z → z < e → from_on s ≡ slice s z T ∷ from_on z
  unfolding wrapping glue tight room
  first_fills s e z c r h =
      let n = col_slice T s e c.from in
      let p = reach-past T r e h c.within in
      let q : w - text_width [] ≡ w = omega (arith, width-nil) in
      rw (pieces-cut d T s e c, pieces-cut d T z e (cut_on s e z r.from (omega arith) c))
      (run_fill w d pos [] (slice s e T) (after d T e) (omega arith) refl (omega arith)
      ∙ rw (q, first_reach T r e (omega arith) c.within, rest_reach T r e (omega arith) c.within))

  -- what follows a flushed line
  after_on : (m : ℕ) → run w d [] (after d T m) ≡ from_on (suc m)
  unfolding wrapping last
  after_on m = ⊎_elim ends goes (le-or-lt (length T) m)
    where
      goes : m < length T → run w d [] (after d T m) ≡ from_on (suc m)
      goes h = rw (after_more d T m h)

      ends : length T ≤ m → run w d [] (after d T m) ≡ from_on (suc m)
      ends h = rw (after_end d T m h) (run_end w d pos [] ∙ sym (none_left (suc m) (omega arith)))

  -- a line that is longer than width less 2
  pub full_ends : (s m : ℕ) → s ≤ m → col T s + (w - 2) < col T m → settled w d (slice s m T) (after d T m) ≡ slice s m T ∷ from_on (suc m)
  full_ends s m h k =
      let n = col_slice T s m h in
      settled-full w d (slice s m T) _ (omega arith) ∙ rw (after_on m)

  -- no piece is left
  pub text_ends : (s m : ℕ) → s < m → m ≡ length T → settled w d (slice s m T) (after d T m) ≡ slice s m T ∷ from_on m
  text_ends s m h k = ⊎_elim short long_enough (le-or-lt (col T m) (col T s + (w - 2)))
    where
      here : length (slice s m T) ≡ m - s
      here = length-slice s m T (omega arith)

      short : col T m ≤ col T s + (w - 2) → settled w d (slice s m T) (after d T m) ≡ slice s m T ∷ from_on m
      short g =
          settled_open w d (slice s m T) _ (omega (arith, col_slice T s m (omega arith)))
          ∙ rw (after_end d T m (omega arith), none_left m (omega arith), run_end w d pos) (last_some _ (omega (arith, here)))

      long_enough : col T s + (w - 2) < col T m → settled w d (slice s m T) (after d T m) ≡ slice s m T ∷ from_on m
      long_enough g = full_ends s m (omega arith) g ∙ rw (none_left m (omega arith), none_left (suc m) (omega arith))

  module _ (s m e : ℕ) (ne : s < m) (more : m < length T) (at : get_or T m 0 ≡ d) (c : Cut d T (suc m) e) (free : col T m ≤ col T s + (w - 2)) where
    long : length (slice s m T) ≡ m - s
    long = length-slice s m T (omega arith)

    glued-to : (f : ℕ) → m < f → f ≤ length T → glue d (slice s m T) (slice (suc m) f T) ≡ slice s f T
    glued-to f g h =
        glue-some d _ _ (omega (arith, long)) ∙ sym (rw (← slice-append T s m f (omega arith) (omega arith) h, slice-cons m f T 0 g h, at))

    glued : glue d (slice s m T) (slice (suc m) e T) ≡ slice s e T
    glued = glued-to e c.from c.within

    glued-none : glue d (slice s m T) [] ≡ slice s (suc m) T
    glued-none = ap (glue d (slice s m T)) (sym (slice_empty (suc m) T)) ∙ glued-to (suc m) (omega arith) (omega arith)

    -- the columns of the line and a delimiter, and those of all up to the next piece's end
    begun : col T s + text_width (slice s (suc m) T) ≡ col T (suc m)
    begun = col_slice T s (suc m) (omega arith)

    all-on : col T s + text_width (slice s e T) ≡ col T e
    all-on = col_slice T s e (omega (arith, c.from))

    piece-on : col T (suc m) + text_width (slice (suc m) e T) ≡ col T e
    piece-on = col_slice T (suc m) e c.from

    tight-here : tight w d (slice s m T) ≡ leb (w - text_width (slice s (suc m) T)) 2
    tight-here = tight-some w d _ (omega (arith, long)) ∙ rw glued-none

    pieces-on : settled w d (slice s m T) (after d T m) ≡ run w d (slice s m T) (slice (suc m) e T ∷ after d T e)
    pieces-on =
        settled_open w d (slice s m T) _ (omega (arith, col_slice T s m (omega arith)))
        ∙ rw (after_more d T m more, pieces-cut d T (suc m) e c)

    pub next_joins : col T e ≤ col T s + w → settled w d (slice s m T) (after d T m) ≡ settled w d (slice s e T) (after d T e)
    next_joins h =
        pieces-on
        ∙ run_join w d pos (slice s m T) (slice (suc m) e T) (after d T e) (rw glued (omega (arith, all-on)))
        ∙ rw glued

    too_long : col T s + w < col T e → w < text_width (glue d (slice s m T) (slice (suc m) e T))
    too_long h = rw glued (omega (arith, all-on))

    pub next-tight : col T s + w < col T e → col T s + w ≤ col T (suc m) + 2 → settled w d (slice s m T) (after d T m) ≡ slice s m T ∷ from_on (suc m)
    unfolding wrapping
    next-tight h k =
        let t : tight w d (slice s m T) ≡ true = tight-here ∙ le-leb (w - text_width (slice s (suc m) T)) 2 (omega (arith, begun)) in
        pieces-on
        ∙ run_retry w d pos (slice s m T) (slice (suc m) e T) (after d T e) (too_long h) t
        ∙ rw (pieces-cut d T (suc m) e c)

    loose : col T (suc m) + 2 < col T s + w → tight w d (slice s m T) ≡ false
    loose k = tight-here ∙ lt-leb (w - text_width (slice s (suc m) T)) 2 (omega (arith, begun))

    pub next_wraps : col T s + w < col T e → col T (suc m) + 2 < col T s + w → col T e ≤ col T (suc m) + w
        → settled w d (slice s m T) (after d T m) ≡ slice s m T ∷ from_on (suc m)
    next_wraps h k l =
        pieces-on
        ∙ run_begin w d pos (slice s m T) (slice (suc m) e T) (after d T e) (too_long h) (loose k) (omega (arith, piece-on))
        ∙ rw (first_joins (suc m) e c l)

    pub next_fills : (z : ℕ) → Reach T s w z → col T (suc m) + 2 < col T s + w → col T (suc m) + w < col T e
        → settled w d (slice s m T) (after d T m) ≡ slice s z T ∷ from_on z
    unfolding wrapping
    next_fills z r k l =
        let x : suc m < z = ⊎_elim (λ y. absurd (omega (arith, col-le T z (suc m) y, r.columns))) (λ y. y) (le-or-lt z (suc m)) in
        let y : col T s ≤ col T (suc m) = col-le T s (suc m) (omega arith) in
        let b : z < e = reach_below T r e (omega arith) in
        let v = w - text_width (slice s (suc m) T) in
        let q : room w d (slice s m T) ≡ v = unfold room in rw glued-none in
        let u : Reach T (suc m) v z = reach-on T r (suc m) v (omega arith) (omega (arith, begun)) in
        let f = first_reach T u e (omega arith) c.within in
        let g = rest_reach T u e (omega arith) c.within in
        pieces-on
        ∙ run_fill w d pos (slice s m T) (slice (suc m) e T) (after d T e) (too_long (omega arith)) (loose k) (omega (arith, piece-on))
        ∙ rw (q, f, g, glued-to z (omega arith) r.within, ← pieces-cut d T z e (cut_on (suc m) e z (omega arith) (omega arith) c))
