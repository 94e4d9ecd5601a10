-- The pairs that a row's lines hold and show. Assumes nothing.
use Prim.Native.Nat.{ℕ, zero, suc, ◌+◌, ◌≤◌, ◌<◌}
use mathlib.Core.Path.{◌≡◌, sym, ap, ◌∙◌}
use mathlib.Core.List.{List, [], ◌∷◌, ◌++◌, map}
use native.Mathlib.Omega.{arith}
use lib.ListN.{length, get_or}
use Rattle.rules.specs.Text.{sum, greatest, up_from}
use Rattle.rules.specs.Sheet.{Cell, Row, Table, cell_at, no_cell}
use Rattle.rules.specs.Widths.{visible}
use Rattle.rules.specs.Page.{wrapped, cell_lines, height}
use Rattle.laws.proofs.Lists.{all_get_d, up_from-last, map-append}
use Rattle.laws.proofs.RowBytes.{pairs_of, pairs_at, all-greatest}
use Rattle.row.specs.View.{View, visible_at, Views, shown_of, number_of}
use Rattle.row.specs.Height.{added_up_to, pairs_held}
use Rattle.formatting.specs.Shown.{shown_in, kept_lines, pairs_shown}
use Rattle.formatting.proofs.Shown.{shown-one, shown-all}
use Rattle.row.specs.declared.VisibleColumn.{VisibleColumn}
use Rattle.row.proofs.Joined.{map_numbered}
use Rattle.display_info.proofs.Measures.{sum_snoc, no-sum}

-- ---- pairs

module _ (t : Table) (ws : List ℕ) (view : View) (W : Views t ws view) (r : Row) where
  -- what is counted in the visible columns' cells, by the columns' numbers
  module _ (f : Cell → VisibleColumn → ℕ) (g : ℕ → ℕ)
      (same : (i : ℕ) → i < length view → f (get_or r.cells (visible_at view i).number no_cell) (visible_at view i) ≡ g (number_of t i)) where
    numbered : ℕ → ℕ
    numbered i = g (number_of t i)

    added_up-to : (n : ℕ) → n ≤ length view → added_up_to f r.cells view n ≡ sum (map numbered (up_from 0 n))
    unfolding added_up_to numbered
    added_up-to zero h = sym (no-sum numbered)
    added_up-to (suc n) h =
        let z : 0 + n ≡ n = omega arith in
        let e : map numbered (up_from 0 (suc n)) ≡ map numbered (up_from 0 n) ++ (numbered n ∷ []) = ap (map numbered)
        (up_from-last 0 n ∙ ap (λ m. up_from 0 n ++ (m ∷ [])) z) ∙ map-append numbered (up_from 0 n) (n ∷ []) in
        omega (arith, added_up-to n (omega arith), same n (omega arith), ap sum e, sum_snoc (map numbered (up_from 0 n)) (numbered n))

    added-sum : added_up_to f r.cells view (length view) ≡ sum (map g (visible t))
    unfolding numbered
    added-sum = added_up-to (length view) (omega arith) ∙ sym (ap sum (map_numbered g 0 (visible t) ∙ ap
        (λ n. map numbered (up_from 0 n)) (sym W.count)))

  -- the pairs that visible cells hold
  pub held-sum : added_up_to pairs_held r.cells view (length view) ≡ sum (map (λ j. pairs_of (cell_at r j).lines) (visible t))
  unfolding shown_of
  held-sum = added-sum pairs_held (λ j. pairs_of (cell_at r j).lines)
      (λ i h. ap (λ (v : VisibleColumn). pairs_of (get_or r.cells v.number no_cell).lines) (W.each i h))

  kept_is : (i : ℕ) → i < length view
      → kept_lines t.indicator r.limit (get_or r.cells (visible_at view i).number no_cell) (visible_at view i) ≡ cell_lines t ws r (number_of t i)
  unfolding shown_of wrapped cell_lines
  kept_is i h = rw (W.each i h)

  -- those that they show in line k
  pub line-sum : (k : ℕ) → added_up_to (pairs_shown t.indicator r.limit k 1) r.cells view (length view)
      ≡ sum (map (λ j. pairs_at (cell_lines t ws r j) k) (visible t))
  line-sum k = added-sum (pairs_shown t.indicator r.limit k 1) (λ j. pairs_at (cell_lines t ws r j) k)
      (λ i h. shown-one (kept_lines t.indicator r.limit (get_or r.cells (visible_at view i).number no_cell) (visible_at view i)) k
      ∙ ap (λ ls. pairs_at ls k) (kept_is i h))

  -- and in all lines
  pub shown-sum : (n : ℕ) → height t ws r ≤ n → added_up_to (pairs_shown t.indicator r.limit 0 n) r.cells view (length view)
      ≡ sum (map (λ j. pairs_of (cell_lines t ws r j)) (visible t))
  unfolding height
  shown-sum n h = added-sum (pairs_shown t.indicator r.limit 0 n) (λ j. pairs_of (cell_lines t ws r j))
      (λ i k.
      let few = all_get_d (λ j. length (cell_lines t ws r j) ≤ greatest (map (λ j. length (cell_lines t ws r j)) (visible t))) (visible t) i 0
      (omega (arith, W.count)) (all-greatest (λ j. length (cell_lines t ws r j)) (visible t)) in
      ap (λ ls. shown_in ls 0 n) (kept_is i k) ∙ shown-all (cell_lines t ws r (number_of t i)) n (omega arith))
