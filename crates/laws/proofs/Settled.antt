-- The passes of a step: enough fuel is enough, and one equation without fuel. Assumes nothing.
use Prim.Native.Nat.{ℕ, zero, suc, ◌≤◌, ◌<◌}
use mathlib.Core.Path.{◌≡◌, refl, ap, ◌∙◌}
use mathlib.Core.List.{List, [], ◌∷◌}
use mathlib.Core.Bool.{Bool, true, false}
use native.Mathlib.Nat.{not-suc-le-zero}
use native.Mathlib.Omega.{arith}
use lib.ListN.{length}
use lib.Dec.{ltb}
use borrow.Author.Tests.{ltb-true, lt-ltb, le-ltb}
use Rattle.rules.specs.Widths.{State, Rule, Run, zeros, undecided, pass, run}
use Rattle.laws.proofs.Runs.{ran, run_more}

pub zeros-le : (ws : List ℕ) → zeros ws ≤ length ws
unfolding zeros
zeros-le [] = omega arith
zeros-le (zero ∷ ws) = omega (arith, zeros-le ws)
zeros-le (suc w ∷ ws) = omega (arith, zeros-le ws)

module _ (begins : State → Bool) (rule : Rule) (n : ℕ) where
  -- two sufficient fuels agree
  pub enough : (f g : ℕ) (s : State) → undecided s < f → undecided s < g → run begins rule n f s ≡ run begins rule n g s
  unfolding ran
  enough zero g s h k = absurd (not-suc-le-zero h)
  enough (suc f) zero s h k = absurd (not-suc-le-zero k)
  enough (suc f) (suc g) s h k =
      rw (run_more begins rule n f s, run_more begins rule n g s)
      (go (begins s) (ltb (undecided (pass rule n s)) (undecided s)) refl (λ l m. enough f g (pass rule n s) l m))
    where
      go : (b c : Bool) → ltb (undecided (pass rule n s)) (undecided s) ≡ c
          → (undecided (pass rule n s) < f → undecided (pass rule n s) < g → run begins rule n f (pass rule n s) ≡ run begins rule n g (pass rule n s))
          → ran begins rule n b c (run begins rule n f (pass rule n s)) s ≡ ran begins rule n b c (run begins rule n g (pass rule n s)) s
      go true true e ih = let m = ltb-true (undecided (pass rule n s)) (undecided s) e in rw (ih (omega arith) (omega arith))
      go true false e ih = refl
      go false c e ih = refl

  -- what the step's passes from s on come to
  unfoldable pub settled : State → State
  settled s = (run begins rule n (suc (undecided s)) s).left

  one_more : (s : State)
      → settled s ≡ (ran begins rule n (begins s) (ltb (undecided (pass rule n s)) (undecided s)) (run begins rule n (undecided s) (pass rule n s)) s).left
  unfolding settled
  one_more s = ap (λ (r : Run). r.left) (run_more begins rule n (undecided s) s)

  -- a pass that fixed a column is repeated
  pub settled-again : (s : State) → begins s ≡ true → undecided (pass rule n s) < undecided s → settled s ≡ settled (pass rule n s)
  unfolding settled ran
  settled-again s b l =
      let e = lt-ltb (undecided (pass rule n s)) (undecided s) l in
      let k = enough (undecided s) (suc (undecided (pass rule n s))) (pass rule n s) l (omega arith) in
      one_more s ∙ rw (b, e) (ap (λ (r : Run). r.left) k)

  -- one that fixed none is the last
  pub settled-last : (s : State) → begins s ≡ true → undecided s ≤ undecided (pass rule n s) → settled s ≡ pass rule n s
  unfolding settled ran
  settled-last s b l = let e = le-ltb (undecided (pass rule n s)) (undecided s) l in one_more s ∙ rw (b, e)

  -- a pass begins only if it may
  pub settled-none : (s : State) → begins s ≡ false → settled s ≡ s
  unfolding settled ran
  settled-none s b = one_more s ∙ rw b

  -- as many passes as columns and one suffice
  pub run_settled : (s : State) → length s.widths ≡ n → (run begins rule n (suc n) s).left ≡ settled s
  unfolding settled
  run_settled s h = ap (λ (r : Run). r.left) (enough (suc n) (suc (undecided s)) s (omega (arith, zeros-le s.widths)) (omega arith))
