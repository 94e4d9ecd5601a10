-- Every line of a cell fits its content width, so every area has its visible width. Assumes nothing.
use Prim.Native.Nat.{ℕ, ◌+◌, ◌-◌, ◌≤◌}
use mathlib.Core.Path.{◌≡◌, refl}
use mathlib.Core.List.{List, [], ◌∷◌, ◌++◌, map}
use mathlib.Core.Bool.{Bool, true, false}
use native.Mathlib.Omega.{arith}
use lib.ListN.{length, get_or, take}
use lib.Dec.{leb}
use borrow.Author.Tests.{leb-true}
use Rattle.rules.specs.Text.{text_width, All}
use Rattle.rules.specs.Sheet.{Row, Table, column_at, cell_at}
use Rattle.rules.specs.Limits.{Printable, Plain}
use Rattle.rules.specs.Wrap.{wrap_lines, shown_indicator, cut_line, cut, exceeds, delimiter_of}
use Rattle.rules.specs.Page.{area_at, cell_lines, wrapped, visible_width, alignment_of}
use Rattle.laws.proofs.Lists.{all_append, all_take, all_default}
use Rattle.laws.proofs.Text.{width-nil, width-append, width-first}
use Rattle.laws.proofs.Texts.{plain-all}
use Rattle.laws.proofs.Sizes.{width-area, length-area}
use Rattle.laws.proofs.Split.{Short, short-lines}

-- a property of lines that cutting a line to its width and indicator gives, cutting a cell keeps
pub all-cut : (P : List ℕ → Type 0) (w : ℕ) (i : List ℕ) (h : ℕ) (ls : List (List ℕ)) → P [] → ((l : List ℕ) → P l → P (cut_line w i l)) → All P ls →
    All P (cut w i h ls)
unfolding cut
all-cut P w i h ls n c k = go (exceeds h (length ls))
  where
    go : (b : Bool) → All P (elim b as (λ x. List (List ℕ)) [ true ↦ take (h - 1) ls ++ (cut_line w i (get_or ls (h - 1) []) ∷ []) | false ↦ ls ])
    go true = all_append P (take (h - 1) ls) _ (all_take P (h - 1) ls k) (c (get_or ls (h - 1) []) (all_default P ls (h - 1) [] n k), tt)
    go false = k

-- an indicator that is kept fits
fitting-le : (w : ℕ) (i : List ℕ) → text_width (shown_indicator w i) ≤ w
unfolding shown_indicator
fitting-le w i = go (leb (text_width i) w) refl
  where
    go : (b : Bool) → leb (text_width i) w ≡ b → text_width (elim b as (λ x. List ℕ) [ true ↦ i | false ↦ [] ]) ≤ w
    go true e = leb-true (text_width i) w e
    go false e = rw width-nil (omega arith)

-- an indicator has no pair, kept or not
pub plain_indicator : (w : ℕ) (i : List ℕ) → All Printable i → Plain (shown_indicator w i)
unfolding shown_indicator
plain_indicator w i h = go (leb (text_width i) w)
  where
    go : (b : Bool) → Plain (elim b as (λ x. List ℕ) [ true ↦ i | false ↦ [] ])
    go true = plain-all i h
    go false = width-nil

-- a line that is cut fits
pub short-cut_line : (w : ℕ) (i l : List ℕ) → Short w (cut_line w i l)
unfolding cut_line
short-cut_line w i l = simp (width-append, width-first) (omega (arith, fitting-le w i))

-- so do all lines of a cell that is cut
pub short_cut : (w : ℕ) (i : List ℕ) (h : ℕ) (ls : List (List ℕ)) → All (Short w) ls → All (Short w) (cut w i h ls)
short_cut w i h ls k = all-cut (Short w) w i h ls (rw width-nil (omega arith)) (λ l s. short-cut_line w i l) k

-- every line of a cell, wrapped and cut, fits its content width
pub short-cell : (t : Table) (ws : List ℕ) (r : Row) (j : ℕ) → All (Short (get_or ws j 0)) (cell_lines t ws r j)
unfolding cell_lines wrapped
short-cell t ws r j =
    short_cut (get_or ws j 0) t.indicator r.limit (wrap_lines (get_or ws j 0) (delimiter_of t (column_at t j) (cell_at r j)) (cell_at r j).lines)
    (short-lines (get_or ws j 0) (delimiter_of t (column_at t j) (cell_at r j)) (cell_at r j).lines)

-- so does what is shown of it in line k
short-shown : (t : Table) (ws : List ℕ) (r : Row) (k j : ℕ) → Short (get_or ws j 0) (get_or (cell_lines t ws r j) k [])
short-shown t ws r k j = all_default (Short (get_or ws j 0)) (cell_lines t ws r j) k [] (rw width-nil (omega arith)) (short-cell t ws r j)

-- a cell area has as many columns as its visible width
pub width-area_at : (t : Table) (ws : List ℕ) (r : Row) (k j : ℕ) → text_width (area_at t ws r k j) ≡ visible_width t ws j
unfolding area_at
width-area_at t ws r k j =
    width-area (column_at t j) (get_or ws j 0) (alignment_of (column_at t j) (cell_at r j)) (get_or (cell_lines t ws r j) k [])
    (short-shown t ws r k j)

-- and a byte for each of them and for each pair of its text
pub length-area_at : (t : Table) (ws : List ℕ) (r : Row) (k j : ℕ)
    → length (area_at t ws r k j) + text_width (get_or (cell_lines t ws r j) k []) ≡ visible_width t ws j + length (get_or (cell_lines t ws r j) k [])
unfolding area_at
length-area_at t ws r k j = length-area (column_at t j) (get_or ws j 0) (alignment_of (column_at t j) (cell_at r j)) (get_or (cell_lines t ws r j) k [])
    (short-shown t ws r k j)

-- so have the areas of a line, each its own
pub area_widths : (t : Table) (ws : List ℕ) (r : Row) (k : ℕ) (js : List ℕ) → map text_width (map (area_at t ws r k) js) ≡ map (visible_width t ws) js
area_widths t ws r k [] = refl
area_widths t ws r k (j ∷ js) = let e = width-area_at t ws r k j in let i = area_widths t ws r k js in cc
