-- The longest part, walked: laws of what is found of lines, cells and rows. Assumes nothing.
use Prim.Native.Nat.{ℕ, ◌+◌, ◌≤◌, ◌<◌, max}
use mathlib.Core.Path.{◌≡◌, refl, ap, ◌∙◌}
use mathlib.Core.List.{List, [], ◌∷◌, ◌++◌, map}
use mathlib.Core.Bool.{Bool, true, false}
use mathlib.Core.Option.{none}
use native.Mathlib.Omega.{arith}
use lib.ListN.{length, get_or}
use lib.Dec.{ltb}
use borrow.Author.Tests.{ltb-true, ltb-false, lt-leb, lt-ltb, le-ltb}
use Rattle.rules.specs.Text.{text_width, greatest, flat, or_else, All}
use Rattle.rules.specs.Sheet.{Cell, Row, Table, no_cell, cell_at, all_rows}
use Rattle.rules.specs.Wrap.{split}
use Rattle.rules.specs.Widths.{lifted, cells_of, trial_parts, cell_parts, longest_part, shorter_by3}
use Rattle.laws.proofs.Lists.{map-append, greatest-append, all_imp, all-map_imp}
use Rattle.laws.proofs.Text.{width-le}
use Rattle.laws.proofs.Bounds.{Most, greatest-le}
use Rattle.laws.proofs.Split.{Short, split_fits}
use Rattle.after_split.specs.Trial.{of_line, of_lines, of_cells, of_rows, otherwise}

-- parts of one thing, then of others
parts-append : (ps qs : List (List ℕ)) → greatest (map text_width (ps ++ qs)) ≡ max (greatest (map text_width ps)) (greatest (map text_width qs))
parts-append ps qs = ap greatest (map-append text_width ps qs) ∙ greatest-append (map text_width ps) (map text_width qs)

pub lines_cons : (a d : ℕ) (l : List ℕ) (ls : List (List ℕ)) → of_lines a d (l ∷ ls) ≡ max (of_line a d l) (of_lines a d ls)
unfolding of_lines of_line flat
lines_cons a d l ls = parts-append (trial_parts a d l) (flat (map (trial_parts a d) ls))

pub lines-nil : (a d : ℕ) → of_lines a d [] ≡ 0
unfolding of_lines flat greatest
lines-nil a d = refl

-- a line with more columns than the average is split
pub line-split : (a d m : ℕ) (l : List ℕ) → 0 < a → a < text_width l → m ≡ greatest (map text_width (split a d l)) → m ≡ of_line a d l
unfolding of_line trial_parts
line-split a d m l p h q = let e : lifted a ≡ a = omega arith in rw (lt-ltb a (text_width l) h, trial_parts, e) q

pub line_whole : (a d : ℕ) (l : List ℕ) → text_width l ≤ a → text_width l ≡ of_line a d l
unfolding of_line trial_parts greatest
line_whole a d l h = rw (le-ltb a (text_width l) h, trial_parts) (omega arith)

-- no part is longer than what it is split at
trial_short : (a d : ℕ) (l : List ℕ) → All (Short (lifted a)) (trial_parts a d l)
unfolding trial_parts
trial_short a d l = go (ltb a (text_width l)) refl
  where
    go : (b : Bool) → ltb a (text_width l) ≡ b → All (Short (lifted a)) (elim b as (λ x. List (List ℕ)) [ true ↦ split (lifted a) d l | false ↦ l ∷ [] ])
    go true e =
        all_imp (λ m. (1 ≤ length m) × (text_width m ≤ lifted a)) (Short (lifted a)) (λ m k. k.1) (split (lifted a) d l)
        (split_fits (lifted a) d (omega arith) l)
    go false e = (omega (arith, ltb-false a (text_width l) e), tt)

line-le : (a d : ℕ) (l : List ℕ) → of_line a d l ≤ lifted a
unfolding of_line
line-le a d l =
    greatest-le (lifted a) (map text_width (trial_parts a d l))
    (all-map_imp (Short (lifted a)) (Most (lifted a)) text_width (λ p h. h) (trial_parts a d l) (trial_short a d l))

-- nor has any more columns than the line has bytes
pub line_bytes : (a d : ℕ) (l : List ℕ) → of_line a d l ≤ length l
line_bytes a d l = go (ltb a (text_width l)) refl
  where
    go : (b : Bool) → ltb a (text_width l) ≡ b → of_line a d l ≤ length l
    go true e = omega (arith, line-le a d l, ltb-true a (text_width l) e, width-le l)
    go false e = omega (arith, line_whole a d l (ltb-false a (text_width l) e), width-le l)

pub lines-le : (a d : ℕ) (ls : List (List ℕ)) → of_lines a d ls ≤ lifted a
lines-le a d [] = omega (arith, lines-nil a d)
lines-le a d (l ∷ ls) = omega (arith, lines_cons a d l ls, line-le a d l, lines-le a d ls)

-- the cell of a row, or none
pub cells_there : (j a d : ℕ) (xs : List Cell) → j < length xs → of_cells j a d xs ≡ of_lines a (or_else (get_or xs j no_cell).delimiter d) (get_or xs j no_cell).lines
unfolding of_cells
cells_there j a d xs h = rw (lt-ltb j (length xs) h, of_cells)

pub cells_short : (j a d : ℕ) (xs : List Cell) → length xs ≤ j → of_cells j a d xs ≡ 0
unfolding of_cells
cells_short j a d xs h = rw (le-ltb j (length xs) h, of_cells)

cells-le : (j a d : ℕ) (xs : List Cell) → of_cells j a d xs ≤ lifted a
unfolding of_cells
cells-le j a d xs = go (ltb j (length xs))
  where
    go : (b : Bool) → elim b as (λ x. ℕ) [ true ↦ of_lines a (or_else (get_or xs j no_cell).delimiter d) (get_or xs j no_cell).lines | false ↦ 0 ] ≤ lifted a
    go true = lines-le a _ (get_or xs j no_cell).lines
    go false = omega arith

pub rows-le : (j a d : ℕ) (rs : List Row) → of_rows j a d rs ≤ lifted a
unfolding of_rows
rows-le j a d [] = omega arith
rows-le j a d (r ∷ rs) = omega (arith, cells-le j a d r.cells, rows-le j a d rs)

pub rows_append : (j a d : ℕ) (rs us : List Row) → of_rows j a d (rs ++ us) ≡ max (of_rows j a d rs) (of_rows j a d us)
unfolding of_rows
rows_append j a d [] us = omega arith
rows_append j a d (r ∷ rs) us = omega (arith, rows_append j a d rs us)

-- the walk finds the definition's longest part
module _ (t : Table) (j a : ℕ) where
  rows-part : (rs : List Row) → greatest (map text_width (flat (map (cell_parts t j a) (cells_of j rs)))) ≡ of_rows j a (otherwise t j) rs
  unfolding cells_of cell_parts of_rows of_cells of_lines flat greatest
  rows-part [] = refl
  rows-part (r ∷ rs) = go (ltb j (length r.cells)) (rows-part rs)
    where
      go : (b : Bool) → greatest (map text_width (flat (map (cell_parts t j a) (cells_of j rs)))) ≡ of_rows j a (otherwise t j) rs
          → greatest (map text_width (flat (map (cell_parts t j a) (elim b as (λ x. List Cell) [ true ↦ cell_at r j ∷ cells_of j rs | false ↦ cells_of j rs ]))))
          ≡ max (elim b as (λ x. ℕ) [ true ↦ of_lines a (or_else (cell_at r j).delimiter (otherwise t j)) (cell_at r j).lines | false ↦ 0 ])
          (of_rows j a (otherwise t j) rs)
      go true i =
          parts-append (cell_parts t j a (cell_at r j)) (flat (map (cell_parts t j a) (cells_of j rs)))
          ∙ ap (max (greatest (map text_width (cell_parts t j a (cell_at r j))))) i
      go false i = omega arith

  pub longest-part : longest_part t j a ≡ of_rows j a (otherwise t j) (all_rows t)
  unfolding longest_part
  longest-part = rows-part (all_rows t)

-- the column is kept open
pub shorter_kept : (a n : ℕ) → a < n + 3 → none ≡ shorter_by3 n a
unfolding shorter_by3
shorter_kept a n h = rw (lt-leb (n + 3) a h, shorter_by3)
