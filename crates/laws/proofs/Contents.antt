-- There are as many content widths as columns, and each is at least 1. Assumes nothing.
use Prim.Native.Nat.{ℕ, zero, suc, ◌+◌, ◌*◌, ◌/◌, ◌≤◌, max}
use mathlib.Core.Path.{◌≡◌, refl, ◌∙◌}
use mathlib.Core.List.{List, [], ◌∷◌, map}
use mathlib.Core.Bool.{Bool, true, false, ◌||◌}
use mathlib.Core.Option.{Option, none, some}
use native.Mathlib.Nat.{le-div_iff_mul-le}
use native.Mathlib.Omega.{arith}
use lib.ListN.{length, get_or, take, length-set, length-map}
use lib.Dec.{eqb, ltb}
use borrow.Author.Tests.{eqb-true, eqb-false}
use Rattle.rules.specs.Text.{or_else, keep, All}
use Rattle.rules.specs.Sheet.{Table, column_at, is_hidden}
use Rattle.rules.specs.Widths.{State, Rule, numbers, first, below_longest, untargeted, contents, zeros, undecided, average, average_is_some, start, fix, fix_at, visit}
use Rattle.rules.specs.Widths.{pass, run, above_average, fitting_average, split_at_average, share, shared, widened, run1, run2, run3, step1, step2, step3, step4}
use Rattle.rules.specs.Widths.{visible, lifted, content_of, upper, longest, is_undecided}
use Rattle.laws.proofs.Runs.{run-keeps}
use Rattle.laws.proofs.Lists.{all_map, all_get_d, length-up_from, all-up_from}

-- steps keep the number of columns
length-fix_at : (j : ℕ) (o : Option ℕ) (s : State) → length (fix_at j o s).widths ≡ length s.widths
unfolding fix_at fix
length-fix_at j (some w) s = length-set s.widths j (lifted w)
length-fix_at j none s = refl

length-visit : (rule : Rule) (j : ℕ) (s : State) → length (visit rule j s).widths ≡ length s.widths
unfolding visit
length-visit rule j s = go (is_undecided s j)
  where
    go : (b : Bool) → length (elim b as (λ x. State) [ true ↦ fix_at j (rule j (average s)) s | false ↦ s ]).widths ≡ length s.widths
    go true = length-fix_at j (rule j (average s)) s
    go false = refl

pub length-pass : (rule : Rule) (n : ℕ) (s : State) → length (pass rule n s).widths ≡ length s.widths
unfolding pass
length-pass rule zero s = refl
length-pass rule (suc n) s = length-visit rule n (pass rule n s) ∙ length-pass rule n s

pub length_run : (begins : State → Bool) (rule : Rule) (n fuel : ℕ) (s : State) → length (run begins rule n fuel s).left.widths ≡ length s.widths
length_run begins rule n fuel s =
    run-keeps rule n (λ u. length u.widths ≡ length s.widths) (λ u e. length-pass rule n u ∙ e) begins fuel s refl

pub length-numbers : (t : Table) → length (numbers t) ≡ length t.columns
unfolding numbers
length-numbers t = length-up_from 0 (length t.columns)

pub length-start : (t : Table) → length (start t).widths ≡ length t.columns
unfolding start
length-start t = length-map (numbers t) (first t) ∙ length-numbers t

pub length-step1 : (t : Table) (s : State) → length (step1 t s).widths ≡ length s.widths
unfolding step1 run1
length-step1 t s = length_run (λ s. true) (above_average t) (length t.columns) (suc (length t.columns)) s

pub length-step2 : (t : Table) (s : State) → length (step2 t s).widths ≡ length s.widths
unfolding step2 run2
length-step2 t s = length_run average_is_some (fitting_average t) (length t.columns) (suc (length t.columns)) s

pub length-step3 : (t : Table) (s : State) → length (step3 t s).widths ≡ length s.widths
unfolding step3 run3
length-step3 t s = length_run (λ s. true) (split_at_average t) (length t.columns) (suc (length t.columns)) s

pub length_steps : (t : Table) → length (step3 t (step2 t (step1 t (start t)))).widths ≡ length t.columns
length_steps t = length-step3 t (step2 t (step1 t (start t))) ∙ length-step2 t (step1 t (start t)) ∙ length-step1 t (start t) ∙ length-start t

length-step4 : (t : Table) (s : State) → length s.widths ≡ length t.columns → length (step4 t s) ≡ length t.columns
unfolding step4
length-step4 t s h = go (eqb (undecided s) 0) (eqb t.arrangement 2)
  where
    go : (b c : Bool) → length {A = ℕ} (elim b as (λ x. List ℕ) [
      | false ↦ map (shared s) (numbers t)
      | true ↦ elim c as (λ x. List ℕ)
          [ true ↦ map (widened t s) (numbers t) | false ↦ s.widths ]
    ]) ≡ length t.columns
    go false c = length-map (numbers t) (shared s) ∙ length-numbers t
    go true true = length-map (numbers t) (widened t s) ∙ length-numbers t
    go true false = h

-- as many content widths as columns
pub length-contents : (t : Table) → length (contents t) ≡ length t.columns
unfolding contents
length-contents t = go (eqb t.target 0 || eqb t.arrangement 0)
  where
    go : (b : Bool) → length {A = ℕ} (elim b as (λ x. List ℕ) [
      | true ↦ map (λ j. or_else (first t j) (untargeted t j)) (numbers t)
      | false ↦ step4 t
          (step3 t (step2 t (step1 t (start t))))
    ]) ≡ length t.columns
    go true = length-map (numbers t) (λ j. or_else (first t j) (untargeted t j)) ∙ length-numbers t
    go false = length-step4 t (step3 t (step2 t (step1 t (start t)))) (length_steps t)

-- each at least 1
abbrev pub Some : ℕ → Type 0
Some w = 1 ≤ w

or_else-some : (a b : ℕ) → 1 ≤ b → 1 ≤ or_else a b
or_else-some zero b h = h
or_else-some (suc a) b h = omega arith

pub untargeted-some : (t : Table) (j : ℕ) → 1 ≤ untargeted t j
unfolding untargeted below_longest
untargeted-some t j = go (upper t (column_at t j))
  where
    inner : (b : ℕ) (c : Bool) → 1 ≤ elim (elim c as (λ x. Option ℕ) [ true ↦ some (content_of (column_at t j) b) | false ↦ none ]) as (λ x. ℕ)
        [ some w ↦ w | none ↦ lifted (longest t j) ]
    inner b true = omega arith
    inner b false = omega arith

    go : (o : Option ℕ) → 1 ≤ elim (elim o as (λ x. Option ℕ) [
      | some b ↦ elim (ltb b (longest t j)) [ true ↦ some (content_of (column_at t j) b) | false ↦ none ]
      | none ↦ none
    ]) as (λ x. ℕ) [ some w ↦ w | none ↦ lifted (longest t j) ]
    go (some b) = inner b (ltb b (longest t j))
    go none = omega arith

-- a share of at least as much as there are takers
pub share-some : (amount n k : ℕ) → 1 ≤ n → n ≤ amount → 1 ≤ share amount n k
unfolding share
share-some amount n k h l =
    let m : 1 * n ≤ amount = omega arith in
    let q : 1 ≤ amount / n = (le-div_iff_mul-le h).1 m in
    omega arith

pub shared-some : (s : State) (j : ℕ) → 1 ≤ undecided s → 1 ≤ shared s j
unfolding shared
shared-some s j h = or_else-some (get_or s.widths j 0) _ (share-some (max (undecided s) s.remaining) (undecided s) (zeros (take j s.widths)) h
    (omega arith))

pub decided-some : (ws : List ℕ) → zeros ws ≡ 0 → All Some ws
unfolding zeros
decided-some [] e = tt
decided-some (zero ∷ ws) e = absurd (omega arith)
decided-some (suc w ∷ ws) e = (omega arith, decided-some ws e)

widened-some : (t : Table) (s : State) (j : ℕ) → 1 ≤ get_or s.widths j 0 → 1 ≤ widened t s j
unfolding widened
widened-some t s j h = go (is_hidden (column_at t j))
  where
    go : (b : Bool) → 1 ≤ elim b as (λ x. ℕ) [
      | true ↦ get_or s.widths j 0
      | false ↦ get_or s.widths j 0 + share s.remaining (length (visible t))
          (length (keep (λ i. ltb i j) (visible t)))
    ]
    go true = h
    go false = omega arith

step4-some : (t : Table) (s : State) → length s.widths ≡ length t.columns → All Some (step4 t s)
unfolding step4 numbers
step4-some t s h = go (eqb (undecided s) 0) refl (eqb t.arrangement 2)
  where
    go : (b : Bool) → eqb (undecided s) 0 ≡ b → (c : Bool)
        → All Some (elim b as (λ x. List ℕ) [
          | false ↦ map (shared s) (numbers t)
          | true ↦ elim c as (λ x. List ℕ)
              [ true ↦ map (widened t s) (numbers t) | false ↦ s.widths ]
        ])
    go false e c = let q = eqb-false (undecided s) 0 e in all_map Some (shared s) (λ j. shared-some s j (omega arith)) (numbers t)
    go true e true =
        let a = decided-some s.widths (eqb-true (undecided s) 0 e) in
        all-up_from Some (widened t s) 0 (length t.columns) (length t.columns) (omega arith)
        (λ j l. widened-some t s j (all_get_d Some s.widths j 0 (omega arith) a))
    go true e false = decided-some s.widths (eqb-true (undecided s) 0 e)

pub contents-some : (t : Table) → All (λ w. 1 ≤ w) (contents t)
unfolding contents
contents-some t = go (eqb t.target 0 || eqb t.arrangement 0)
  where
    go : (b : Bool) → All Some (elim b as (λ x. List ℕ) [
      | true ↦ map (λ j. or_else (first t j) (untargeted t j)) (numbers t)
      | false ↦ step4 t
          (step3 t (step2 t (step1 t (start t))))
    ])
    go true = all_map Some (λ j. or_else (first t j) (untargeted t j)) (λ j. or_else-some (first t j) (untargeted t j) (untargeted-some t j))
        (numbers t)
    go false = step4-some t _ (length_steps t)
