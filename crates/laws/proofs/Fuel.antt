-- The steps that `split` is given suffice: the rest of the work without a count of steps, and one equation for each rule. Assumes nothing.
use Prim.Native.Nat.{ℕ, zero, suc, ◌+◌, ◌-◌, ◌≤◌, ◌<◌}
use mathlib.Core.Path.{◌≡◌, refl, ap, ◌∙◌}
use mathlib.Core.List.{List, [], ◌∷◌}
use mathlib.Core.Bool.{Bool, true, false}
use native.Mathlib.Omega.{arith}
use native.Mathlib.Numerals.{add-one}
use lib.ListN.{length}
use lib.Dec.{ltb, leb}
use borrow.Author.Tests.{leb-true, leb-false, ltb-true, ltb-false, le-leb, lt-leb, lt-ltb, le-ltb}
use Rattle.rules.specs.Text.{text_width, first_of, rest_of}
use Rattle.rules.specs.Wrap.{Act, join, retry, fill, begin, split, place, pieces, glue, room, tight, full, act, last, weight}
use Rattle.laws.proofs.Text.{width-nil, rest_shorter}

-- what each choice tells of the line l and the next piece p
pub data View (w d : ℕ) (l p : List ℕ) : Act → Type 0 where
  joins : text_width (glue d l p) ≤ w → View w d l p join
  retries : w < text_width (glue d l p) → tight w d l ≡ true → View w d l p retry
  fills : w < text_width (glue d l p) → tight w d l ≡ false → w < text_width p → View w d l p fill
  begins : w < text_width (glue d l p) → tight w d l ≡ false → text_width p ≤ w → View w d l p begin

-- and each choice tells it
pub view : (w d : ℕ) (l p : List ℕ) → View w d l p (act w d l p)
unfolding act
view w d l p = go (leb (text_width (glue d l p)) w) (tight w d l) (ltb w (text_width p)) refl refl refl
  where
    go : (a b c : Bool) → leb (text_width (glue d l p)) w ≡ a → tight w d l ≡ b → ltb w (text_width p) ≡ c
        → View w d l p (elim a [ true ↦ join | false ↦ elim b [ true ↦ retry | false ↦ elim c [ true ↦ fill | false ↦ begin ] ] ])
    go true b c i j k = joins (leb-true _ _ i)
    go false true c i j k = retries (leb-false _ _ i) j
    go false false true i j k = fills (leb-false _ _ i) j (ltb-true _ _ k)
    go false false false i j k = begins (leb-false _ _ i) j (ltb-false _ _ k)

-- a line that isn't empty takes one step more
unfoldable pub held : List ℕ → ℕ
held [] = 0
held (x ∷ xs) = 1

-- at most one step
pub held-le : (l : List ℕ) → held l ≤ 1
unfolding held
held-le [] = omega arith
held-le (x ∷ xs) = omega arith

-- there is always the step that ends
pub weight-some : (ps : List (List ℕ)) → 0 < weight ps
unfolding weight
weight-some [] = omega arith
weight-some (p ∷ ps) = omega (arith, weight-some ps)

-- a line that is tight isn't empty
pub tight-held : (w d : ℕ) (l : List ℕ) → tight w d l ≡ true → held l ≡ 1
unfolding tight held
tight-held w d [] e = let z : ◌≡◌ {A = ℕ} 0 1 = cc in absurd (omega arith)
tight-held w d (x ∷ xs) e = refl

-- where a piece fills a line, some of it goes there
pub room-some : (w d : ℕ) (l : List ℕ) → 0 < w → tight w d l ≡ false → 0 < room w d l
unfolding tight room glue
room-some w d [] h e = omega (arith, width-nil)
room-some w d (x ∷ xs) h e = omega (arith, leb-false (room w d (x ∷ xs)) 2 e)

module _ (w d : ℕ) (some : 0 < w) where
  abbrev Same : ℕ → ℕ → Type 0
  Same f g = (l : List ℕ) (ps : List (List ℕ)) → held l + weight ps ≤ f → held l + weight ps ≤ g → place f w d l ps ≡ place g w d l ps

  step : (f g : ℕ) → Same f g → (l p : List ℕ) (ps : List (List ℕ)) → held l + weight (p ∷ ps) ≤ suc f → held l + weight (p ∷ ps) ≤ suc g
      → place (suc f) w d l (p ∷ ps) ≡ place (suc g) w d l (p ∷ ps)
  unfolding place weight held
  step f g same l p ps hf hg = go (act w d l p) refl (view w d l p)
    where
      ended : (m : List ℕ) → weight ps + 1 ≤ f → weight ps + 1 ≤ g → (b : Bool)
          → ◌≡◌ {A = List (List ℕ)} (elim b [ true ↦ m ∷ place f w d [] ps | false ↦ place f w d m ps ])
          (elim b [ true ↦ m ∷ place g w d [] ps | false ↦ place g w d m ps ])
      ended m kf kg true = ap (λ r. m ∷ r) (same [] ps (omega arith) (omega arith))
      ended m kf kg false = let h = held-le m in same m ps (omega arith) (omega arith)

      go : (a : Act) → act w d l p ≡ a → View w d l p a → place (suc f) w d l (p ∷ ps) ≡ place (suc g) w d l (p ∷ ps)
      go join e (joins h) = rw (e, place) (ended (glue d l p) (omega arith) (omega arith) (full w (glue d l p)))
      go retry e (retries h t) =
          let k = tight-held w d l t in
          rw (e, place) (ap (λ r. l ∷ r) (same [] (p ∷ ps) (omega arith) (omega arith)))
      go fill e (fills h t n) =
          let q = rest_shorter (room w d l) p (room-some w d l some t) (omega arith) in
          rw (e, place) (ap (λ r. glue d l (first_of (room w d l) p) ∷ r) (same [] (rest_of (room w d l) p ∷ ps) (omega arith) (omega arith)))
      go begin e (begins h t n) = rw (e, place) (ap (λ r. l ∷ r) (ended p (omega arith) (omega arith) (full w p)))

  -- two sufficient counts of steps agree
  pub enough : (f g : ℕ) (l : List ℕ) (ps : List (List ℕ)) → held l + weight ps ≤ f → held l + weight ps ≤ g → place f w d l ps ≡ place g w d l ps
  enough zero g l ps hf hg = absurd (omega (arith, weight-some ps))
  enough (suc f) zero l ps hf hg = absurd (omega (arith, weight-some ps))
  enough (suc f) (suc g) l [] hf hg = unfold place in refl
  enough (suc f) (suc g) l (p ∷ ps) hf hg = step f g (enough f g) l p ps hf hg

-- the lines still to come, from the line l on, of the pieces ps
unfoldable pub run : ℕ → ℕ → List ℕ → List (List ℕ) → List (List ℕ)
run w d l ps = place (held l + weight ps) w d l ps

-- a split is the run of its pieces from an empty line
pub split-run : (w d : ℕ) (l : List ℕ) → split w d l ≡ run w d [] (pieces d l)
unfolding split run held
split-run w d l = ap (λ n. place n w d [] (pieces d l)) (omega arith)

module _ (w d : ℕ) (some : 0 < w) where
  pub place-run : (f : ℕ) (l : List ℕ) (ps : List (List ℕ)) → held l + weight ps ≤ f → place f w d l ps ≡ run w d l ps
  unfolding run
  place-run f l ps h = enough w d some f (held l + weight ps) l ps h (omega arith)

  -- one step of a run, its steps less one
  run_step : (l p : List ℕ) (ps : List (List ℕ)) → run w d l (p ∷ ps) ≡ place (suc (held l + (length p + 1 + weight ps))) w d l (p ∷ ps)
  unfolding run weight
  run_step l p ps = ap (λ n. place n w d l (p ∷ ps)) (omega arith)

  -- a piece joins, and the line is flushed after it
  pub run_join-full : (l p : List ℕ) (ps : List (List ℕ)) → text_width (glue d l p) ≤ w → w - 2 < text_width (glue d l p)
      → run w d l (p ∷ ps) ≡ glue d l p ∷ run w d [] ps
  unfolding place act full held
  run_join-full l p ps h k =
      let e : act w d l p ≡ join = rw (le-leb _ _ h, act) in
      run_step l p ps ∙ rw (e, place, lt-ltb _ _ k) (ap (λ r. glue d l p ∷ r) (place-run (held l + (length p + 1 + weight ps)) [] ps (omega arith)))

  -- a piece joins, and the line stays open
  pub run_join : (l p : List ℕ) (ps : List (List ℕ)) → text_width (glue d l p) ≤ w → text_width (glue d l p) ≤ w - 2
      → run w d l (p ∷ ps) ≡ run w d (glue d l p) ps
  unfolding place act full
  run_join l p ps h k =
      let e : act w d l p ≡ join = rw (le-leb _ _ h, act) in
      run_step l p ps ∙ rw (e, place, le-ltb _ _ k) (place-run (held l + (length p + 1 + weight ps)) (glue d l p) ps
      (omega (arith, held-le (glue d l p))))

  -- a line with at most 2 columns free is flushed, and the piece tried again
  pub run_retry : (l p : List ℕ) (ps : List (List ℕ)) → w < text_width (glue d l p) → tight w d l ≡ true → run w d l (p ∷ ps) ≡ l ∷ run w d [] (p ∷ ps)
  unfolding place act held weight
  run_retry l p ps h t =
      let e : act w d l p ≡ retry = rw (lt-leb _ _ h, t, act) in
      let k = tight-held w d l t in
      run_step l p ps ∙ rw (e, place) (ap (λ r. l ∷ r) (place-run (held l + (length p + 1 + weight ps)) [] (p ∷ ps) (omega arith)))

  -- a piece longer than the width fills the line, and its rest is tried next
  pub run_fill : (l p : List ℕ) (ps : List (List ℕ)) → w < text_width (glue d l p) → tight w d l ≡ false → w < text_width p
      → run w d l (p ∷ ps) ≡ glue d l (first_of (room w d l) p) ∷ run w d [] (rest_of (room w d l) p ∷ ps)
  unfolding place act held weight
  run_fill l p ps h t n =
      let e : act w d l p ≡ fill = rw (lt-leb _ _ h, t, lt-ltb _ _ n, act) in
      let q = rest_shorter (room w d l) p (room-some w d l some t) (omega arith) in
      run_step l p ps ∙ rw (e, place) (ap (λ r. glue d l (first_of (room w d l) p) ∷ r)
      (place-run (held l + (length p + 1 + weight ps)) [] (rest_of (room w d l) p ∷ ps) (omega arith)))

  -- the line is flushed, the piece begins another, and that one is flushed after it
  pub run_begin-full : (l p : List ℕ) (ps : List (List ℕ)) → w < text_width (glue d l p) → tight w d l ≡ false → text_width p ≤ w → w - 2 < text_width p
      → run w d l (p ∷ ps) ≡ l ∷ (p ∷ run w d [] ps)
  unfolding place act full held
  run_begin-full l p ps h t n k =
      let e : act w d l p ≡ begin = rw (lt-leb _ _ h, t, le-ltb _ _ n, act) in
      run_step l p ps ∙ rw (e, place, lt-ltb _ _ k) (ap (λ r. l ∷ (p ∷ r)) (place-run (held l + (length p + 1 + weight ps)) [] ps (omega arith)))

  -- the line is flushed, and the piece begins another, which stays open
  pub run_begin : (l p : List ℕ) (ps : List (List ℕ)) → w < text_width (glue d l p) → tight w d l ≡ false → text_width p ≤ w → text_width p ≤ w - 2
      → run w d l (p ∷ ps) ≡ l ∷ run w d p ps
  unfolding place act full
  run_begin l p ps h t n k =
      let e : act w d l p ≡ begin = rw (lt-leb _ _ h, t, le-ltb _ _ n, act) in
      run_step l p ps ∙ rw (e, place, le-ltb _ _ k) (ap (λ r. l ∷ r)
      (place-run (held l + (length p + 1 + weight ps)) p ps (omega (arith, held-le p))))

  -- a nonempty last line is kept
  pub run_end : (l : List ℕ) → run w d l [] ≡ last l
  unfolding run weight place
  run_end l = ap (λ n. place n w d l []) (add-one (held l))
