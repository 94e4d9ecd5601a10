-- Facts that ghost fields say can be known in one way alone. Assumes nothing.
use Rattle.std.specs.Prelude.{ℕ, List, [], ◌∷◌, ◌≡◌, refl}
use Rattle.std.specs.Coded.{×_prop, Unit-prop}
use Rattle.std.proofs.Props as std
use mathlib.Core.Path.{ap, ◌∙◌}
use mathlib.Core.Logic.{inl, inr}
use native.Mathlib.Omega.{arith}
use Rattle.rules.specs.Text.{All}
use Rattle.rules.specs.Limits.{Printable, Optional, IsText}
use Rattle.rules.specs.Limits.IsText.{nothing, plain, degree}

pub all_prop : {A : Type 0} (P : A → Type 0) → ((x : A) → IsProp (P x)) → (xs : List A) → IsProp (All P xs)
all_prop P p [] = Unit-prop
all_prop P p (x ∷ xs) = ×_prop (p x) (all_prop P p xs)

zero_prop : (n : ℕ) → IsProp (n ≡ 0)
zero_prop n = Prim.hlevel std.props

printable_prop : (n : ℕ) → IsProp (Printable n)
printable_prop n = Prim.hlevel std.props

pub optional_prop : (n : ℕ) → IsProp (Optional n)
optional_prop n (inl a) (inl b) = ap inl (zero_prop n a b)
optional_prop n (inr a) (inr b) = ap inr (printable_prop n a b)
optional_prop n (inl a) (inr b) = absurd (omega (arith, a, b.0))
optional_prop n (inr a) (inl b) = absurd (omega (arith, b, a.0))

text_same : {l : List ℕ} → (x y : IsText l) → x ≡ y
text_same nothing nothing = refl
text_same (plain b l p t) (plain _ _ q u) = ap (λ h. plain b l h t) (printable_prop b p q) ∙ ap (plain b l q) (text_same t u)
text_same (plain _ _ p t) (degree _ u) = absurd (omega (arith, p.1))
text_same (degree l t) (plain _ _ q u) = absurd (omega (arith, q.1))
text_same (degree l t) (degree _ u) = ap (degree l) (text_same t u)

pub text_prop : (l : List ℕ) → IsProp (IsText l)
text_prop l x y = text_same x y

pub ruleset props = (std.props, all_prop, optional_prop, text_prop)
