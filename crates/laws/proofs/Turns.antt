-- A column's turn in a pass, and in a run of passes: a rule fixes the column there or nowhere. Assumes nothing.
use Prim.Native.Nat.{ℕ, zero, suc, ◌≤◌, ◌<◌}
use mathlib.Core.Path.{◌≡◌, refl, sym, ap, ◌∙◌}
use mathlib.Core.Logic.{◌⊎◌, inl, inr}
use mathlib.Core.List.{List, [], ◌∷◌}
use mathlib.Core.Bool.{Bool, true, false}
use mathlib.Core.Option.{Option, none, some}
use native.Mathlib.Omega.{arith}
use lib.ListN.{length, get_or}
use lib.Seq.{get_or-set_same, get_or-set_other}
use lib.Dec.{eqb}
use borrow.Author.Tests.{eqb-true, eqb-false, ne_eqb}
use Rattle.rules.specs.Widths.{State, Rule, lifted, is_undecided, average, fix, fix_at, visit, pass}
use Rattle.rules.specs.Fixing.{Any, AtTurn}
use Rattle.laws.proofs.Contents.{length-pass}
use Rattle.laws.proofs.Runs.{Goes, stays, goes}

pub never : {A : Type 0} → true ≡ false → A
never e = let z : ◌≡◌ {A = ℕ} 0 1 = cc in absurd (omega arith)

pub any_imp : {A : Type 0} (P Q : A → Type 0) → ((x : A) → P x → Q x) → (xs : List A) → Any P xs → Any Q xs
any_imp P Q f [] h = h
any_imp P Q f (x ∷ xs) (inl p) = inl (f x p)
any_imp P Q f (x ∷ xs) (inr h) = inr (any_imp P Q f xs h)

-- what each entry with a property says, the list says
pub any_so : {A : Type 0} (P : A → Type 0) (Q : Type 0) → ((x : A) → P x → Q) → (xs : List A) → Any P xs → Q
any_so P Q f [] h = absurd h
any_so P Q f (x ∷ xs) (inl p) = f x p
any_so P Q f (x ∷ xs) (inr h) = any_so P Q f xs h

-- column j's width
abbrev width_at : State → ℕ → ℕ
width_at s j = get_or s.widths j 0

-- a width that is noted is no mark of an undecided column
pub noted-width : (s : State) (j w : ℕ) → width_at s j ≡ lifted w → is_undecided s j ≡ false
noted-width s j w e = rw e (ne_eqb (lifted w) 0 (omega arith))

-- ---- a visit

module _ (rule : Rule) where
  visit_shut : (j : ℕ) (s : State) → is_undecided s j ≡ false → visit rule j s ≡ s
  unfolding visit
  visit_shut j s e = rw (e, visit)

  visit_open : (j : ℕ) (s : State) → is_undecided s j ≡ true → visit rule j s ≡ fix_at j (rule j (average s)) s
  unfolding visit
  visit_open j s e = rw (e, visit)

  fix-other : (i j : ℕ) (o : Option ℕ) (s : State) → (j ≡ i → ⊥) → width_at (fix_at i o s) j ≡ width_at s j
  unfolding fix_at fix
  fix-other i j (some w) s n = get_or-set_other s.widths i j (lifted w) 0 n
  fix-other i j none s n = refl

  -- another column keeps its width
  visit-other : (i j : ℕ) (s : State) → (j ≡ i → ⊥) → width_at (visit rule i s) j ≡ width_at s j
  visit-other i j s n = go (is_undecided s i) refl
    where
      go : (b : Bool) → is_undecided s i ≡ b → width_at (visit rule i s) j ≡ width_at s j
      go true e = rw (visit_open i s e) (fix-other i j (rule i (average s)) s n)
      go false e = rw (visit_shut i s e)

  -- ---- a pass

  -- before its turn
  pub turn_finds : (n j : ℕ) (s : State) → n ≤ j → width_at (pass rule n s) j ≡ width_at s j
  unfolding pass
  turn_finds zero j s h = refl
  turn_finds (suc n) j s h = visit-other n j (pass rule n s) (λ e. omega arith) ∙ turn_finds n j s (omega arith)

  -- after its turn
  turn_leaves : (n j : ℕ) (s : State) → j < n → width_at (pass rule n s) j ≡ width_at (visit rule j (pass rule j s)) j
  unfolding pass
  turn_leaves zero j s h = absurd (omega arith)
  turn_leaves (suc n) j s h = go (eqb j n) refl (λ k. turn_leaves n j s k)
    where
      go : (b : Bool) → eqb j n ≡ b → (j < n → width_at (pass rule n s) j ≡ width_at (visit rule j (pass rule j s)) j)
          → width_at (visit rule n (pass rule n s)) j ≡ width_at (visit rule j (pass rule j s)) j
      go true e i = ap (λ (k : ℕ). width_at (visit rule k (pass rule k s)) j) (sym (eqb-true j n e))
      go false e i = let d = eqb-false j n e in visit-other n j (pass rule n s) d ∙ i (omega arith)

  -- undecided at its turn exactly if it was so when the pass began
  turn_open : (j : ℕ) (s : State) → is_undecided (pass rule j s) j ≡ is_undecided s j
  turn_open j s = ap (λ (w : ℕ). eqb w 0) (turn_finds j j s (omega arith))

  module _ (n j : ℕ) (h : j < n) (s : State) where
    -- a decided column keeps its width
    pass-keeps : is_undecided s j ≡ false → width_at (pass rule n s) j ≡ width_at s j
    pass-keeps d =
        turn_leaves n j s h ∙ ap (λ (u : State). width_at u j) (visit_shut j (pass rule j s) (turn_open j s ∙ d)) ∙ turn_finds j j s (omega arith)

    fix-width : (w : ℕ) (o : Option ℕ) (u : State) → j < length u.widths → o ≡ some w → width_at (fix_at j o u) j ≡ lifted w
    unfolding fix_at fix
    fix-width w o u l e = rw e (get_or-set_same u.widths j (lifted w) 0 l)

    -- an undecided one has the width that it is offered
    pass_fixes : j < length s.widths → (w : ℕ) → AtTurn rule j (λ a. rule j a ≡ some w) s → width_at (pass rule n s) j ≡ lifted w
    pass_fixes l w p =
        turn_leaves n j s h ∙ ap (λ (u : State). width_at u j) (visit_open j (pass rule j s) p.0)
        ∙ fix-width w (rule j (average (pass rule j s))) (pass rule j s) (rw (length-pass rule j s) l) p.1

    fix_none : (o : Option ℕ) (u : State) → o ≡ none → fix_at j o u ≡ u
    unfolding fix_at
    fix_none o u e = rw e

    -- and stays so where it is offered none
    pass_leaves : is_undecided s j ≡ true → rule j (average (pass rule j s)) ≡ none → width_at (pass rule n s) j ≡ width_at s j
    pass_leaves d e =
        turn_leaves n j s h
        ∙ ap (λ (u : State). width_at u j) (visit_open j (pass rule j s) (turn_open j s ∙ d) ∙ fix_none (rule j (average (pass rule j s))) (pass rule j s) e)
        ∙ turn_finds j j s (omega arith)

  -- ---- a run

  module _ (n j : ℕ) (h : j < n) where
    -- a decided column keeps its width
    pub run-width : {s u : State} {vs : List State} → Goes rule n s vs u → is_undecided s j ≡ false → width_at u j ≡ width_at s j
    run-width stays d = refl
    run-width {s} (goes a) d = let k = pass-keeps n j h s d in run-width a (rw k d) ∙ k

    pub run_shut : {s u : State} {vs : List State} → Goes rule n s vs u → is_undecided s j ≡ false → is_undecided u j ≡ false
    run_shut r d = rw (run-width r d) d

    pub run_open : {s u : State} {vs : List State} → Goes rule n s vs u → is_undecided u j ≡ true → is_undecided s j ≡ true
    run_open {s} {u} r d = go (is_undecided s j) refl
      where
        go : (b : Bool) → is_undecided s j ≡ b → b ≡ true
        go true e = refl
        go false e = never (sym d ∙ run_shut r e)

    -- a column that was undecided at some turn was so at first
    pub turn-first : (P : ℕ → Type 0) → {s u : State} {vs : List State} → Goes rule n s vs u → Any (AtTurn rule j P) vs → is_undecided s j ≡ true
    turn-first P stays m = absurd m
    turn-first P {s} (goes a) (inl p) = sym (turn_open j s) ∙ p.0
    turn-first P {s} (goes a) (inr m) = go (is_undecided s j) refl (turn-first P a m)
      where
        go : (b : Bool) → is_undecided s j ≡ b → is_undecided (pass rule n s) j ≡ true → b ≡ true
        go true d k = refl
        go false d k = never (sym k ∙ rw (pass-keeps n j h s d) d)

    -- a width offered at a turn is the column's from then on
    pub turn-width : (w : ℕ) {s u : State} {vs : List State} → Goes rule n s vs u → j < length s.widths → Any (AtTurn rule j (λ a. rule j a ≡ some w)) vs
        → width_at u j ≡ lifted w
    turn-width w stays l m = absurd m
    turn-width w {s} (goes a) l (inl p) =
        let k = pass_fixes n j h s l w p in
        run-width a (noted-width (pass rule n s) j w k) ∙ k
    turn-width w {s} (goes a) l (inr m) = turn-width w a (rw (length-pass rule n s) l) m

    -- a column that a run found undecided and left decided was offered a width at a turn
    pub turn_found : {s u : State} {vs : List State} → Goes rule n s vs u → is_undecided s j ≡ true → is_undecided u j ≡ false
        → (w : ℕ) × Any (AtTurn rule j (λ a. rule j a ≡ some w)) vs
    turn_found stays o d = never (sym o ∙ d)
    turn_found {s} (goes {vs} a) o d = go (rule j (average (pass rule j s))) refl (λ m. turn_found a m d)
      where
        go : (x : Option ℕ) → rule j (average (pass rule j s)) ≡ x
            → (is_undecided (pass rule n s) j ≡ true → (w : ℕ) × Any (AtTurn rule j (λ a. rule j a ≡ some w)) vs)
            → (w : ℕ) × (AtTurn rule j (λ a. rule j a ≡ some w) s ⊎ Any (AtTurn rule j (λ a. rule j a ≡ some w)) vs)
        go (some w) e i = (w, inl (turn_open j s ∙ o, e))
        go none e i = let k = i (rw (pass_leaves n j h s o e) o) in (k.0, inr k.1)
