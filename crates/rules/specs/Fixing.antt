-- Document 02, order 5: what it means that a rule of document 01 fixed a column, by the states between steps, passes and visits. Assumes nothing.
use Rattle.std.specs.Prelude.{ℕ, ◌≡◌, ◌⊎◌, List, [], ◌∷◌, true, false}
use Rattle.std.proofs.Math.Option.{none, some}
use Rattle.rules.specs.Sheet.{Table}
use Rattle.rules.specs.Widths.{State, Rule, longest, evaluate, is_untargeted, below_longest, is_undecided, average, start, pass, run1, run2, run3}
use Rattle.rules.specs.Widths.{step1, step2, step3, above_average, within_average, at_upper, fitting_average, split_at_average, shared}
use Rattle.rules.specs.declared.WidthStep.{WidthStep}
use Rattle.rules.specs.declared.WidthStep.TheVariants.{FirstConstraint, LowerBound, UpperBound, LongestWithinAverage, SplitPart, EvenShare}
use Rattle.rules.specs.declared.WidthStep.TheVariants.{UntargetedLongest, UntargetedUpper}

-- some entry of a list has a property
abbrev pub Any : {A : Type 0} → (A → Type 0) → List A → Type 0
Any P [] = ⊥
Any P (x ∷ xs) = P x ⊎ Any P xs

-- the states after steps 1 to 3
abbrev pub after1 : Table → State
after1 t = step1 t (start t)

abbrev pub after2 : Table → State
after2 t = step2 t (after1 t)

abbrev pub after3 : Table → State
after3 t = step3 t (after2 t)

-- the states in which the passes of steps 1 to 3 begin
abbrev pub passes1 : Table → List State
passes1 t = (run1 t (start t)).begun

abbrev pub passes2 : Table → List State
passes2 t = (run2 t (after1 t)).begun

abbrev pub passes3 : Table → List State
passes3 t = (run3 t (after2 t)).begun

-- in a pass that begins in s, column j is undecided when its turn comes, after columns 0 to j - 1, and P holds of the average of that moment
abbrev pub AtTurn : Rule → ℕ → (ℕ → Type 0) → State → Type 0
AtTurn rule j P s = (is_undecided (pass rule j s) j ≡ true) × P (average (pass rule j s))

-- the rule of a step fixed column j, at a width w
pub data Fixed (t : Table) (j : ℕ) : WidthStep → ℕ → Type 0 where
  -- first constraint step
  by_first : (w : ℕ) → evaluate t j ≡ some w → Fixed t j FirstConstraint w
  -- lower bound: step 1 offered it
  by_lower : (w : ℕ) → is_untargeted t ≡ false → Any (AtTurn (above_average t) j (λ a. above_average t j a ≡ some w)) (passes1 t) → Fixed t j LowerBound w
  -- upper bound: step 2 offered it
  by_upper : (w : ℕ) → is_untargeted t ≡ false → Any (AtTurn (fitting_average t) j (λ a. at_upper t j a ≡ some w)) (passes2 t) → Fixed t j UpperBound w
  -- longest within average: step 2 offered no upper bound, and this
  by_longest : (w : ℕ) → is_untargeted t ≡ false
      → Any (AtTurn (fitting_average t) j (λ a. (at_upper t j a ≡ none) × (within_average (longest t j) a ≡ some w))) (passes2 t)
      → Fixed t j LongestWithinAverage w
  -- split part: step 3 offered it
  by_part : (w : ℕ) → is_untargeted t ≡ false → Any (AtTurn (split_at_average t) j (λ a. split_at_average t j a ≡ some w)) (passes3 t) → Fixed t j SplitPart w
  -- even share: the column was left
  by_share : is_untargeted t ≡ false → is_undecided (after3 t) j ≡ true → Fixed t j EvenShare (shared (after3 t) j)
  -- the untargeted longest
  by_untargeted : is_untargeted t ≡ true → evaluate t j ≡ none → below_longest t j ≡ none → Fixed t j UntargetedLongest (longest t j)
  -- the untargeted upper bound
  by_untargeted_upper : (w : ℕ) → is_untargeted t ≡ true → evaluate t j ≡ none → below_longest t j ≡ some w → Fixed t j UntargetedUpper w
