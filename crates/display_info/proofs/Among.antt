-- Whether some rows are the header's or the body's can be told: equality of lists of rows can be decided. Assumes nothing.
use Prim.Native.Nat.{ℕ, ◌-◌}
use mathlib.Core.Path.{◌≡◌, refl, sym, ap, ◌∙◌}
use mathlib.Core.Logic.{◌⊎◌, inl, inr, ⊎_elim, ∥∥₁_elim}
use mathlib.Core.HLevel.{Discrete, ×_discrete, hedberg}
use mathlib.Core.List.{List, List-discrete}
use native.Mathlib.Decide.{ℕ_discrete}
use lib.ListN.{length, drop}
use Rattle.rules.specs.Sheet.{Cell, Row}
use Rattle.table.specs.Held.{table_of}
use Rattle.table.specs.Walk.{rows_in}
use Rattle.table.specs.declared.records.Rows.{Rows}
use Rattle.display_info.specs.Opened.{RowsAt}

-- records can be told apart as their fields can
fields_discrete : {A B : Type 0} (to : A → B) (from : B → A) → ((x : A) → from (to x) ≡ x) → Discrete B → Discrete A
fields_discrete to from back d x y = go (d (to x) (to y))
  where
    go : Dec (to x ≡ to y) → Dec (x ≡ y)
    go (yes e) = yes (sym (back x) ∙ ap from e ∙ back y)
    go (no n) = no (λ e. n (ap to e))

cell_discrete : Discrete Cell
cell_discrete = fields_discrete {B = ℕ × (ℕ × List (List ℕ))} (λ x. (x.delimiter, (x.alignment, x.lines)))
    (λ f. record { delimiter = f.0; alignment = f.1.0; lines = f.1.1 }) (λ _. refl)
    (×_discrete ℕ_discrete (×_discrete ℕ_discrete (List-discrete (List-discrete ℕ_discrete))))

row_discrete : Discrete Row
row_discrete = fields_discrete {B = ℕ × List Cell} (λ r. (r.limit, r.cells)) (λ f. record { limit = f.0; cells = f.1 }) (λ _. refl)
    (×_discrete ℕ_discrete (List-discrete cell_discrete))

rows_discrete : Discrete (List Row)
rows_discrete = List-discrete row_discrete

-- which of two holds, where one can be decided and the other is known in one way alone
which : {A B : Type 0} → Dec A → IsProp B → ∥ A ⊎ B ∥₁ → A ⊎ B
which (yes a) p h = inl a
which (no n) p h = inr (∥∥₁_elim h p (⊎_elim (λ a. absurd (n a)) (λ b. b)))

module _ (s : List ℕ) (c : Rows) (A : RowsAt s c) where
  -- they are the header's, or they are the body's
  pub among_of : (rows_in s c ≡ drop (length (table_of s).header - c.left) (table_of s).header)
      ⊎ (rows_in s c ≡ drop (length (table_of s).rows - c.left) (table_of s).rows)
  among_of = which (rows_discrete _ _) (hedberg rows_discrete _ _) A.among

  -- the same, whatever the number of the rows before them
  pub among-skipped : (skipped : ℕ) × ((rows_in s c ≡ drop skipped (table_of s).header) ⊎ (rows_in s c ≡ drop skipped (table_of s).rows))
  among-skipped = ⊎_elim (λ e. (length (table_of s).header - c.left, inl e)) (λ e. (length (table_of s).rows - c.left, inr e)) among_of
