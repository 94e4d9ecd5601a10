-- Wrapping keeps every character but delimiters, in order. Assumes nothing.
use Prim.Native.Nat.{ℕ, zero, suc, ◌+◌, ◌≤◌, ◌<◌}
use mathlib.Core.Path.{◌≡◌, refl, sym, ap, ◌∙◌}
use mathlib.Core.List.{List, [], ◌∷◌, ◌++◌, map, append_assoc, append-nil}
use mathlib.Core.Bool.{Bool, true, false, not}
use native.Mathlib.Omega.{arith}
use lib.Dec.{ltb, eqb}
use borrow.Author.Tests.{eqb-true}
use Rattle.rules.specs.Text.{text_width, first_of, rest_of, keep, flat}
use Rattle.rules.specs.Wrap.{Act, join, retry, fill, begin, onto, pieces, glue, room, full, act, last, place, weight, split, wrap_line, wrap_lines}
use Rattle.laws.proofs.Lists.{keep_append, flat_append}
use Rattle.laws.proofs.Text.{first_rest, rest_shorter}
use Rattle.laws.proofs.Fuel.{View, joins, retries, fills, begins, view, held, held-le, weight-some, tight-held, room-some}

-- q: what is left out, the delimiter d among it
module _ (q : ℕ → Bool) (d : ℕ) (out : q d ≡ true) where
  abbrev rest : List ℕ → List ℕ
  rest l = keep (λ c. not (q c)) l

  rest-append : (l m : List ℕ) → rest (l ++ m) ≡ rest l ++ rest m
  rest-append l m = keep_append (λ c. not (q c)) l m

  rest-glue : (l p : List ℕ) → rest (glue d l p) ≡ rest l ++ rest p
  unfolding glue keep
  rest-glue [] p = refl
  rest-glue (x ∷ l) p = rest-append (x ∷ l) (d ∷ p) ∙ ap (λ r. rest (x ∷ l) ++ r) (rw (out, keep))

  rest-cut : (n : ℕ) (p : List ℕ) → rest (first_of n p) ++ rest (rest_of n p) ≡ rest p
  rest-cut n p = rw (← rest-append (first_of n p) (rest_of n p), first_rest)

  rest-cons : (c : ℕ) (l m : List ℕ) → rest l ≡ rest m → rest (c ∷ l) ≡ rest (c ∷ m)
  rest-cons c l m e = rest-append (c ∷ []) l ∙ ap (λ r. rest (c ∷ []) ++ r) e ∙ sym (rest-append (c ∷ []) m)

  grown : (c : ℕ) (ps : List (List ℕ)) → flat (onto c ps) ≡ c ∷ flat ps
  unfolding onto flat
  grown c [] = refl
  grown c (p ∷ ps) = refl

  rest-pieces : (l : List ℕ) → rest (flat (pieces d l)) ≡ rest l
  unfolding pieces flat
  rest-pieces [] = refl
  rest-pieces (c ∷ l) = go (eqb c d) refl (rest-pieces l)
    where
      gone : eqb c d ≡ true → rest (c ∷ l) ≡ rest l
      gone e = unfold keep in rw (eqb-true c d e, out, keep)

      go : (b : Bool) → eqb c d ≡ b → rest (flat (pieces d l)) ≡ rest l
          → rest (flat (elim b as (λ x. List (List ℕ)) [ true ↦ [] ∷ pieces d l | false ↦ onto c (pieces d l) ])) ≡ rest (c ∷ l)
      go true e i = i ∙ sym (gone e)
      go false e i = rw (grown c (pieces d l)) (rest-cons c (flat (pieces d l)) l i)

  module _ (w : ℕ) (some : 0 < w) where
    abbrev Keeping : ℕ → Type 0
    Keeping n = (l : List ℕ) (ps : List (List ℕ)) → held l + weight ps ≤ n → rest (flat (place n w d l ps)) ≡ rest l ++ rest (flat ps)

    -- after an empty line: what it held is nothing
    fresh : (n : ℕ) → Keeping n → (ps : List (List ℕ)) → weight ps ≤ n → rest (flat (place n w d [] ps)) ≡ rest (flat ps)
    unfolding held keep
    fresh n keeping ps h = keeping [] ps (omega arith)

    step : (n : ℕ) → Keeping n → (l p : List ℕ) (ps : List (List ℕ)) → held l + weight (p ∷ ps) ≤ suc n
        → rest (flat (place (suc n) w d l (p ∷ ps))) ≡ rest l ++ rest (p ++ flat ps)
    unfolding place weight flat
    step n keeping l p ps h = go (act w d l p) refl (view w d l p)
      where
        ended : (m : List ℕ) (b : Bool) → weight ps + 1 ≤ n
            → rest (flat (elim b as (λ x. List (List ℕ)) [ true ↦ m ∷ place n w d [] ps | false ↦ place n w d m ps ])) ≡ rest m ++ rest (flat ps)
        ended m true k = rest-append m (flat (place n w d [] ps)) ∙ ap (λ r. rest m ++ r) (fresh n keeping ps (omega arith))
        ended m false k = keeping m ps (omega (arith, held-le m))

        go : (a : Act) → act w d l p ≡ a → View w d l p a → rest (flat (place (suc n) w d l (p ∷ ps))) ≡ rest l ++ rest (p ++ flat ps)
        go join e (joins i) =
            rw (e, place) (ended (glue d l p) (full w (glue d l p)) (omega arith) ∙ rw (rest-glue l p, append_assoc, rest-append p (flat ps)))
        go retry e (retries i t) =
            let k = tight-held w d l t in
            rw (e, place) (rest-append l (flat (place n w d [] (p ∷ ps))) ∙ ap (λ r. rest l ++ r) (fresh n keeping (p ∷ ps) (omega arith)))
        go fill e (fills i t j) =
            let s = rest_shorter (room w d l) p (room-some w d l some t) (omega arith) in
            let a = first_of (room w d l) p in
            let b = rest_of (room w d l) p in
            let f = fresh n keeping (b ∷ ps) (omega arith) in
            rw (e, place) (
            rest-append (glue d l a) (flat (place n w d [] (b ∷ ps)))
            ∙ rw (f, rest-glue l a, rest-append b (flat ps), rest-append p (flat ps), ← rest-cut (room w d l) p)
            simp append_assoc
            )
        go begin e (begins i t j) =
            rw (e, place) (rest-append l _ ∙ ap (λ r. rest l ++ r) (ended p (full w p) (omega arith) ∙ sym (rest-append p (flat ps))))

    keeping : (n : ℕ) → Keeping n
    unfolding place last flat
    keeping zero l ps h = absurd (omega (arith, weight-some ps))
    keeping (suc n) [] [] h = unfold keep in refl
    keeping (suc n) (x ∷ l) [] h = rest-append (x ∷ l) []
    keeping (suc n) l (p ∷ ps) h = step n (keeping n) l p ps h

    kept-split : (l : List ℕ) → rest (flat (split w d l)) ≡ rest l
    unfolding split
    kept-split l = fresh (weight (pieces d l)) (keeping (weight (pieces d l))) (pieces d l) (omega arith) ∙ rest-pieces l

    -- a line that is wrapped holds what it held, in its order
    pub kept_line : (l : List ℕ) → rest (flat (wrap_line w d l)) ≡ rest l
    unfolding wrap_line
    kept_line l = go (ltb w (text_width l))
      where
        go : (b : Bool) → rest (flat (elim b as (λ x. List (List ℕ)) [ true ↦ split w d l | false ↦ l ∷ [] ])) ≡ rest l
        go true = kept-split l
        go false = unfold flat in rw append-nil

    -- a wrapped text holds what its lines held, in their order
    pub kept-lines : (ls : List (List ℕ)) → keep (λ c. not (q c)) (flat (wrap_lines w d ls)) ≡ keep (λ c. not (q c)) (flat ls)
    unfolding wrap_lines flat
    kept-lines [] = refl
    kept-lines (l ∷ ls) =
        ap (keep (λ c. not (q c))) (flat_append (wrap_line w d l) (flat (map (wrap_line w d) ls)))
        ∙ rest-append (flat (wrap_line w d l)) (flat (flat (map (wrap_line w d) ls)))
        ∙ rw (kept_line l, kept-lines ls) (sym (rest-append l (flat ls)))
