-- Laws of the definitions: a loop over columns, an undecided column, the visible ones. Assumes nothing.
use Prim.Native.Nat.{ℕ, zero, suc, ◌+◌, ◌≤◌}
use mathlib.Core.Path.{◌≡◌, refl, sym, ap, ◌∙◌}
use mathlib.Core.Bool.{Bool, true, false, not}
use mathlib.Core.List.{List}
use native.Mathlib.Omega.{arith}
use native.Mathlib.Numerals.{add-one}
use lib.ListN.{length, take}
use lib.Seq.{take_all}
use Rattle.std.specs.List.{count_by}
use Rattle.std.proofs.lemmas.List.Sums.{count_by_more_yes, count_by_more_no}
use Rattle.rules.specs.declared.Column.{Column}
use Rattle.rules.specs.Sheet.{no_column, is_hidden}
use Rattle.constraint.specs.declared.Layout.{Layout}
use Rattle.constraint.specs.declared.State.{State}
use Rattle.constraint.specs.Set.{bit, contains}
use Rattle.constraint.specs.Widths.{choose, column, counting, visible, decided, in_order}
use Rattle.constraint.proofs.Bits.{bit-zero}

-- no column, and one more, of a loop over columns
module _ {A : Type 0} (f : ℕ → A → A) where
  pub in_order-none : (x : A) → in_order f 0 x ≡ x
  unfolding in_order
  in_order-none x = refl

  pub in_order-more : (n : ℕ) (x : A) → in_order f (n + 1) x ≡ f n (in_order f n x)
  unfolding in_order
  in_order-more n x = ap (λ (k : ℕ). in_order f k x) (add-one n)

pub ruleset orders = (in_order-none, in_order-more)

-- an undecided column is not in the set
module _ (c : Column) (i : ℕ) (s : State) where
  open_go : (b : Bool) → choose b true (contains s.decided i) ≡ false → contains s.decided i ≡ false
  open_go true h = let z : ◌≡◌ {A = ℕ} 0 1 = cc in absurd (omega arith)
  open_go false h = h

  pub open-bit : decided c i s ≡ false → bit s.decided.0 i ≡ 0
  open-bit h = bit-zero s.decided.0 i (open_go (is_hidden c) h)

-- the visible columns, one after another
counted : (t : Layout) (n : ℕ) → n ≤ length t.columns.items → count_by (λ c. not (is_hidden c)) (take n t.columns.items) ≡ in_order (counting t) n 0
unfolding in_order
counted t zero h = refl
counted t (suc n) h =
    ap (λ (k : ℕ). count_by (λ c. not (is_hidden c)) (take k t.columns.items)) (sym (add-one n)) ∙ go (is_hidden (column t n)) refl (counted t n (omega arith))
  where
    go : (b : Bool) → is_hidden (column t n) ≡ b → count_by (λ c. not (is_hidden c)) (take n t.columns.items) ≡ in_order (counting t) n 0
        → count_by (λ c. not (is_hidden c)) (take (n + 1) t.columns.items) ≡ choose (is_hidden (column t n)) (in_order (counting t) n 0) (in_order (counting t) n 0 + 1)
    go true e q = rw e (count_by_more_no (λ c. not (is_hidden c)) t.columns.items n no_column (omega arith) (ap not e) ∙ q)
    go false e q =
        rw e (count_by_more_yes (λ c. not (is_hidden c)) t.columns.items n no_column (omega arith) (ap not e) ∙ ap (λ (k : ℕ). k + 1) q)

pub visible_counted : (t : Layout) → count_by (λ c. not (is_hidden c)) t.columns.items ≡ visible t
unfolding visible
visible_counted t =
    let all : take (length t.columns.items) t.columns.items ≡ t.columns.items = take_all (length t.columns.items) t.columns.items (omega arith) in
    ap (λ (cs : List Column). count_by (λ c. not (is_hidden c)) cs) (sym all) ∙ counted t (length t.columns.items) (omega arith)
