-- A row's height by its cells' heights. Assumes nothing.
use Prim.Native.Nat.{ℕ, zero, suc, ◌-◌, ◌≤◌, ◌<◌, max}
use mathlib.Core.Path.{◌≡◌, refl, sym, ap, ◌∙◌}
use mathlib.Core.List.{List, [], ◌∷◌, ◌++◌, map}
use mathlib.Core.Bool.{Bool, true, false}
use native.Mathlib.Omega.{arith}
use lib.ListN.{length, take, get_or, length-append}
use lib.Seq.{length-take-le}
use lib.Dec.{ltb}
use borrow.Author.Tests.{ltb-true, ltb-false}
use Rattle.rules.specs.Text.{greatest, up_from}
use Rattle.rules.specs.Sheet.{Row, Table, no_cell}
use Rattle.rules.specs.Wrap.{exceeds, cut_line, cut}
use Rattle.rules.specs.Page.{cell_lines, wrapped, height}
use Rattle.row.specs.View.{View, visible_at, shown_of, number_of, Views}
use Rattle.row.specs.Height.{cell_height, height_up_to, limited}
use Rattle.row.specs.declared.VisibleColumn.{VisibleColumn}
use Rattle.formatting.proofs.Whole.{greatest_snoc, no_lines, map_up, height_numbered}

-- ---- limits

length_cut : (w : ℕ) (ind : List ℕ) (h : ℕ) (ls : List (List ℕ)) → length (cut w ind h ls) ≡ limited h (length ls)
unfolding cut exceeds limited
length_cut w ind zero ls = refl
length_cut w ind (suc h) ls = go (ltb (suc h) (length ls)) refl
  where
    go : (x : Bool) → ltb (suc h) (length ls) ≡ x
        → length {A = List ℕ} (elim x as (λ z. List (List ℕ)) [
          | true ↦ take (suc h - 1) ls ++ (cut_line w ind (get_or ls (suc h - 1) []) ∷ [])
          | false ↦
              ls
        ]) ≡ limited (suc h) (length ls)
    go true e =
        let l = ltb-true (suc h) (length ls) e in
        length-append (take (suc h - 1) ls) (cut_line w ind (get_or ls (suc h - 1) []) ∷ []) ∙ omega (arith, length-take-le (suc h - 1) ls (omega arith))
    go false e = omega (arith, ltb-false (suc h) (length ls) e)

limited-none : (h : ℕ) → limited h 0 ≡ 0
unfolding limited
limited-none zero = refl
limited-none (suc h) = omega arith

limited-max : (h a b : ℕ) → limited h (max a b) ≡ max (limited h a) (limited h b)
unfolding limited
limited-max zero a b = refl
limited-max (suc h) a b = omega arith

-- ---- a row

cell_is : (t : Table) (ws : List ℕ) (r : Row) (i : ℕ) (v : VisibleColumn) → v ≡ shown_of t ws (number_of t i) → cell_height
    (get_or r.cells v.number no_cell) v ≡ length (wrapped t ws r (number_of t i))
unfolding shown_of wrapped cell_height
cell_is t ws r i v e = rw e

module _ (t : Table) (ws : List ℕ) (r : Row) (view : View) (W : Views t ws view) where
  lines_in : ℕ → ℕ
  lines_in i = length (cell_lines t ws r (number_of t i))

  column-lines : (i : ℕ) → i < length view → limited r.limit (cell_height (get_or r.cells (visible_at view i).number no_cell) (visible_at view i)) ≡
      lines_in i
  unfolding lines_in cell_lines
  column-lines i h =
      ap (limited r.limit) (cell_is t ws r i (visible_at view i) (W.each i h)) ∙ sym
      (length_cut (get_or ws (number_of t i) 0) t.indicator r.limit (wrapped t ws r (number_of t i)))

  up_to : (n : ℕ) → n ≤ length view → limited r.limit (height_up_to r.cells view n) ≡ greatest (map lines_in (up_from 0 n))
  unfolding height_up_to
  up_to zero h = limited-none r.limit ∙ sym (no_lines lines_in)
  up_to (suc n) h =
      let v = visible_at view n in
      limited-max r.limit (height_up_to r.cells view n) (cell_height (get_or r.cells v.number no_cell) v)
      ∙ rw (up_to n (omega arith), column-lines n (omega arith)) (sym
      (ap greatest (map_up lines_in n) ∙ greatest_snoc (map lines_in (up_from 0 n)) (lines_in n)))

  -- what the limit leaves of the most lines of a visible column's cell is the row's height
  pub limited-height : limited r.limit (height_up_to r.cells view (length view)) ≡ height t ws r
  unfolding lines_in
  limited-height = up_to (length view) (omega arith) ∙ sym (height_numbered t ws r view W)
