-- A step's run: passes that follow one another, and what they keep. Assumes nothing.
use Prim.Native.Nat.{ℕ, zero, suc}
use mathlib.Core.Path.{◌≡◌, refl}
use mathlib.Core.List.{List, [], ◌∷◌}
use mathlib.Core.Bool.{Bool, true, false}
use lib.Dec.{ltb}
use Rattle.rules.specs.Widths.{State, Rule, Run, ended, going, undecided, pass, run}

-- from one state to another by passes, each begun in the state that the one before it left
pub data Goes (rule : Rule) (n : ℕ) : State → List State → State → Type 0 where
  stays : {s : State} → Goes rule n s [] s
  goes : {s u : State} {vs : List State} → Goes rule n (pass rule n s) vs u → Goes rule n s (s ∷ vs) u

module _ (begins : State → Bool) (rule : Rule) (n : ℕ) where
  -- a run by its two tests
  unfoldable pub ran : Bool → Bool → Run → State → Run
  ran true true more s = going s more
  ran true false more s = going s (ended (pass rule n s))
  ran false c more s = ended s

  pub run_more : (fuel : ℕ) (s : State)
      → run begins rule n (suc fuel) s ≡ ran (begins s) (ltb (undecided (pass rule n s)) (undecided s)) (run begins rule n fuel (pass rule n s)) s
  unfolding run ran
  run_more fuel s = go (begins s) (ltb (undecided (pass rule n s)) (undecided s))
    where
      go : (b c : Bool) → ◌≡◌ {A = Run} (elim b [
        | true ↦ going s (elim c [ true ↦ run begins rule n fuel (pass rule n s) | false ↦ ended (pass rule n s) ])
        | false ↦ ended s
      ]) (ran b c (run begins rule n fuel (pass rule n s)) s)
      go true true = refl
      go true false = refl
      go false true = refl
      go false false = refl

  ran_goes : (b c : Bool) (r : Run) (s : State) → Goes rule n (pass rule n s) r.begun r.left → Goes rule n s (ran b c r s).begun (ran b c r s).left
  unfolding ran
  ran_goes true true r s i = goes i
  ran_goes true false r s i = goes stays
  ran_goes false c r s i = stays

  pub run_goes : (fuel : ℕ) (s : State) → Goes rule n s (run begins rule n fuel s).begun (run begins rule n fuel s).left
  unfolding run
  run_goes zero s = stays
  run_goes (suc fuel) s =
      rw (run_more fuel s)
      (ran_goes (begins s) (ltb (undecided (pass rule n s)) (undecided s)) (run begins rule n fuel (pass rule n s)) s (run_goes fuel (pass rule n s)))

module _ (rule : Rule) (n : ℕ) (P : State → Type 0) (h : (s : State) → P s → P (pass rule n s)) where
  -- what a pass keeps, passes keep
  pub goes-keeps : {s u : State} {vs : List State} → Goes rule n s vs u → P s → P u
  goes-keeps stays p = p
  goes-keeps {s} (goes a) p = goes-keeps a (h s p)

  pub run-keeps : (begins : State → Bool) (fuel : ℕ) (s : State) → P s → P (run begins rule n fuel s).left
  run-keeps begins fuel s p = goes-keeps (run_goes begins rule n fuel s) p
