-- What a column's code says of its constraint, and a code's arrangement. Assumes nothing.
use Prim.Native.Nat.{ℕ}
use mathlib.Core.Path.{◌≡◌, refl, sym}
use mathlib.Core.Bool.{Bool, true, false}
use lib.Dec.{eqb}
use borrow.Author.Tests.{eqb-true, eqb-false, ne_eqb}
use Rattle.std.specs.Prelude.{Option, Some, None, is_none, unwrap_or}
use Rattle.rules.specs.declared.Column.{Column}
use Rattle.rules.specs.declared.Width as sheet
use Rattle.rules.specs.Sheet.{is_hidden}
use Rattle.style.specs.Column.{width_of, constraint_of}
use denote.Enum.Bare.{sameb}
use Rattle.style.specs.contracts.table.ContentArrangement.{the_type}
use Rattle.style.specs.Table.{arrangement_of, is_disabled, is_full, target_of}
use Rattle.style.specs.declared.table.ContentArrangement.{ContentArrangement}
use Rattle.style.specs.declared.column.Width.{Width}
use Rattle.style.specs.declared.column.Width.TheVariants.{Fixed, Percentage}
use Rattle.style.specs.declared.column.ColumnConstraint.{ColumnConstraint}
use Rattle.style.specs.declared.column.ColumnConstraint.TheVariants.{Hidden, ContentWidth, Absolute, LowerBoundary, UpperBoundary, Boundaries}
use Rattle.style.specs.declared.table.ContentArrangement.TheVariants.{Disabled, Dynamic, DynamicFullWidth}

-- ---- each code

module _ (w : sheet.Width) where
  pub unit_0 : w.unit ≡ 0 → Fixed w.value ≡ width_of w
  unfolding width_of
  unit_0 e = rw e

  pub unit_other : (w.unit ≡ 0 → ⊥) → Percentage w.value ≡ width_of w
  unfolding width_of
  unit_other n = rw (ne_eqb w.unit 0 n, width_of)

pub other : {A : Type 0} {z : A} (b : Bool) (x y : A) → b ≡ false → z ≡ y → z ≡ elim b as (λ w. A) [ true ↦ x | false ↦ y ]
other b x y e q = rw e q

module _ (c : Column) where
  pub code_1 : c.constraint ≡ 1 → Some Hidden ≡ constraint_of c
  unfolding constraint_of
  code_1 e = rw e

  pub code_2 : c.constraint ≡ 2 → Some ContentWidth ≡ constraint_of c
  unfolding constraint_of
  code_2 e = rw e

  pub code_other : (c.constraint ≡ 1 → ⊥) → (c.constraint ≡ 2 → ⊥) → (c.constraint ≡ 3 → ⊥) → (c.constraint ≡ 4 → ⊥) → (c.constraint ≡ 5 → ⊥)
      → (c.constraint ≡ 6 → ⊥) → None ≡ constraint_of c
  unfolding constraint_of
  code_other n1 n2 n3 n4 n5 n6 =
      let at = λ (n : ℕ) (h : c.constraint ≡ n → ⊥) (x y : Option ColumnConstraint) (q : None ≡ y). other (eqb c.constraint n) x y (ne_eqb c.constraint n h) q in
      at 1 n1 _ _ (at 2 n2 _ _ (at 3 n3 _ _ (at 4 n4 _ _ (at 5 n5 _ _ (at 6 n6 _ _ refl)))))

  module _ (w : Width) (f : w ≡ width_of c.first) where
    pub code_3 : c.constraint ≡ 3 → Some (Absolute w) ≡ constraint_of c
    unfolding constraint_of
    code_3 e = rw (e, f)

    pub code_4 : c.constraint ≡ 4 → Some (LowerBoundary w) ≡ constraint_of c
    unfolding constraint_of
    code_4 e = rw (e, f)

    pub code_5 : c.constraint ≡ 5 → Some (UpperBoundary w) ≡ constraint_of c
    unfolding constraint_of
    code_5 e = rw (e, f)

    pub code_6 : (v : Width) → v ≡ width_of c.second → c.constraint ≡ 6 → Some (Boundaries w v) ≡ constraint_of c
    unfolding constraint_of
    code_6 v g e = rw (e, f, g)

module _ (n : ℕ) where
  pub code_disabled : n ≡ 0 → Disabled ≡ arrangement_of n
  unfolding arrangement_of
  code_disabled e = rw e

  pub code_full : n ≡ 2 → DynamicFullWidth ≡ arrangement_of n
  unfolding arrangement_of
  code_full e = rw e

  pub code_dynamic : (n ≡ 0 → ⊥) → (n ≡ 2 → ⊥) → Dynamic ≡ arrangement_of n
  unfolding arrangement_of
  code_dynamic x y = other (eqb n 0) _ _ (ne_eqb n 0 x) (other (eqb n 2) _ _ (ne_eqb n 2 y) refl)

-- ---- what a column's code makes of its constraint

by_test : {A : Type 0} (P : A → Type 0) (n m : ℕ) (x y : A) → (n ≡ m → P x) → ((n ≡ m → ⊥) → P y)
    → P (elim (eqb n m) as (λ b. A) [ true ↦ x | false ↦ y ])
by_test {A} P n m x y f g = go (eqb n m) refl
  where
    go : (b : Bool) → eqb n m ≡ b → P (elim b as (λ z. A) [ true ↦ x | false ↦ y ])
    go true e = f (eqb-true n m e)
    go false e = g (eqb-false n m e)

-- a fact about it, by the codes that set one, and by the others
pub by_constraint : (c : Column) (P : Option ColumnConstraint → Type 0) → (c.constraint ≡ 1 → P (Some Hidden)) → (c.constraint ≡ 2 → P (Some ContentWidth))
    → (c.constraint ≡ 3 → P (Some (Absolute (width_of c.first)))) → (c.constraint ≡ 4 → P (Some (LowerBoundary (width_of c.first))))
    → (c.constraint ≡ 5 → P (Some (UpperBoundary (width_of c.first)))) → (c.constraint ≡ 6 → P (Some (Boundaries (width_of c.first) (width_of c.second))))
    → ((c.constraint ≡ 1 → ⊥) → (c.constraint ≡ 2 → ⊥) → (c.constraint ≡ 3 → ⊥) → (c.constraint ≡ 4 → ⊥) → (c.constraint ≡ 5 → ⊥) → (c.constraint ≡ 6 → ⊥)
    → P None) → P (constraint_of c)
unfolding constraint_of
by_constraint c P h1 h2 h3 h4 h5 h6 h0 =
    let k = c.constraint in
    by_test P k 1 _ _ h1 (λ n1. by_test P k 2 _ _ h2 (λ n2. by_test P k 3 _ _ h3 (λ n3. by_test P k 4 _ _ h4 (λ n4. by_test P k 5 _ _ h5
    (λ n5. by_test P k 6 _ _ h6 (λ n6. h0 n1 n2 n3 n4 n5 n6))))))

abbrev pub hides : Option ColumnConstraint → Bool
hides None = false
hides (Some Hidden) = true
hides (Some ContentWidth) = false
hides (Some (Absolute w)) = false
hides (Some (LowerBoundary w)) = false
hides (Some (UpperBoundary w)) = false
hides (Some (Boundaries v w)) = false

pub hides_as : (c : Column) → hides (constraint_of c) ≡ is_hidden c
hides_as c =
    by_constraint c (λ k. hides k ≡ is_hidden c) (λ e. rw e) (λ e. rw e) (λ e. rw e) (λ e. rw e) (λ e. rw e) (λ e. rw e)
    (λ n1 n2 n3 n4 n5 n6. sym (ne_eqb c.constraint 1 n1))

-- ---- the arrangements

pub disabled_same : (a : ContentArrangement) → sameb the_type a Disabled ≡ is_disabled a
disabled_same Disabled = refl
disabled_same Dynamic = refl
disabled_same DynamicFullWidth = refl

pub full_same : (a : ContentArrangement) → sameb the_type a DynamicFullWidth ≡ is_full a
full_same Disabled = refl
full_same Dynamic = refl
full_same DynamicFullWidth = refl

pub disabled_as : (n : ℕ) → is_disabled (arrangement_of n) ≡ eqb n 0
unfolding arrangement_of
disabled_as n =
    by_test (λ a. is_disabled a ≡ eqb n 0) n 0 _ _ (λ e. rw e)
    (λ x. by_test (λ a. is_disabled a ≡ eqb n 0) n 2 _ _ (λ e. rw e) (λ y. sym (ne_eqb n 0 x)))

pub full_as : (n : ℕ) → is_full (arrangement_of n) ≡ eqb n 2
unfolding arrangement_of
full_as n =
    by_test (λ a. is_full a ≡ eqb n 2) n 0 _ _ (λ e. rw e)
    (λ x. by_test (λ a. is_full a ≡ eqb n 2) n 2 _ _ (λ e. rw e) (λ y. sym (ne_eqb n 2 y)))

-- ---- the target

pub target_or : (n : ℕ) → unwrap_or (target_of n) 0 ≡ n
unfolding target_of
target_or n = by_test (λ o. unwrap_or o 0 ≡ n) n 0 None (Some n) (λ e. sym e) (λ x. refl)

pub target_none : (n : ℕ) → is_none (target_of n) ≡ eqb n 0
unfolding target_of
target_none n = by_test (λ o. is_none o ≡ eqb n 0) n 0 None (Some n) (λ e. rw e) (λ x. sym (ne_eqb n 0 x))
