-- Cell lines: what is done to each of them, which columns they are of, and that the longest found over them is the column's longest. Assumes nothing.
use Prim.Native.Nat.{ℕ, zero, suc, ◌+◌, ◌≤◌, ◌<◌, max}
use mathlib.Core.Path.{◌≡◌, refl, ap, ◌∙◌}
use mathlib.Core.List.{List, [], ◌∷◌, ◌++◌, map}
use mathlib.Core.Bool.{Bool, true, false}
use native.Mathlib.Omega.{arith}
use lib.ListN.{length, get_or, length-map}
use lib.Dec.{eqb, ltb}
use borrow.Author.Tests.{eq-eqb, ne_eqb, ltb-true, ltb-false, lt-ltb, le-ltb}
use Rattle.rules.specs.Text.{All, keep, text_width, greatest, flat}
use Rattle.rules.specs.Sheet.{Cell, Row, Table, no_cell, cell_at, all_rows, most_columns}
use Rattle.rules.specs.Widths.{lifted, cells_of, cell_longest, longest}
use Rattle.rules.specs.Limits.{CellLimits, RowLimits, TableLimits}
use Rattle.rules.specs.CellLines.{InColumn, in_column, on_line, lines_of_cells, lines_of_rows, row_lines, cell_lines, longest_of}
use Rattle.laws.proofs.Lists.{all_map, all_append, all_imp, all-map_imp, map-append, greatest-append, keep_append, flat_append}

-- ---- the same done to each line

pub on-cell : {A B : Type 0} (f : A → B) (j : ℕ) (x : List A) → map (on_line f) (map (in_column j) x) ≡ map (in_column j) (map f x)
on-cell f j [] = refl
on-cell f j (l ∷ x) = ap (◌∷◌ (in_column j (f l))) (on-cell f j x)

pub on_cells : {A B : Type 0} (f : A → B) (j : ℕ) (xs : List (List A)) → map (on_line f) (lines_of_cells j xs) ≡ lines_of_cells j (map (map f) xs)
unfolding lines_of_cells
on_cells f j [] = refl
on_cells f j (x ∷ xs) =
    map-append (on_line f) (map (in_column j) x) (lines_of_cells (suc j) xs) ∙ rw (on-cell f j x, on_cells f (suc j) xs)

pub on_rows : {A B : Type 0} (f : A → B) (rs : List (List (List A))) → map (on_line f) (lines_of_rows rs) ≡ lines_of_rows (map (map (map f)) rs)
unfolding flat
on_rows f [] = refl
on_rows f (r ∷ rs) = map-append (on_line f) (lines_of_cells 0 r) (lines_of_rows rs) ∙ rw (on_cells f 0 r, on_rows f rs)

-- rows after rows
pub rows_append : {A : Type 0} (rs us : List (List (List A))) → lines_of_rows (rs ++ us) ≡ lines_of_rows rs ++ lines_of_rows us
rows_append rs us = ap flat (map-append (λ r. lines_of_cells 0 r) rs us) ∙ flat_append (map (λ r. lines_of_cells 0 r) rs) (map (λ r. lines_of_cells 0 r) us)

-- ---- every line is of a column below n, where no row has more cells

abbrev Below : {A : Type 0} → ℕ → InColumn A → Type 0
Below n l = l.column < n

module _ {A : Type 0} (n : ℕ) where
  cells_below : (j : ℕ) (xs : List (List A)) → j + length xs ≤ n → All (Below n) (lines_of_cells j xs)
  unfolding lines_of_cells
  cells_below j [] h = tt
  cells_below j (x ∷ xs) h =
      all_append (Below n) (map (in_column j) x) (lines_of_cells (suc j) xs) (all_map (Below n) (in_column j) (λ l. omega arith) x)
      (cells_below (suc j) xs (omega arith))

  rows_below : (rs : List (List (List A))) → All (λ r. length r ≤ n) rs → All (Below n) (lines_of_rows rs)
  unfolding flat
  rows_below [] a = tt
  rows_below (r ∷ rs) a = all_append (Below n) (lines_of_cells 0 r) (lines_of_rows rs) (cells_below 0 r (omega (arith, a.0))) (rows_below rs a.1)

-- ---- the longest over lines

pub longest-append : (j : ℕ) (ls ms : List (InColumn (List ℕ))) → longest_of j (ls ++ ms) ≡ max (longest_of j ls) (longest_of j ms)
unfolding longest_of
longest-append j ls ms =
    let p : InColumn (List ℕ) → Bool = λ l. eqb l.column j in
    let f : InColumn (List ℕ) → ℕ = λ l. lifted (text_width l.line) in
    ap (λ ks. greatest (map f ks)) (keep_append p ls ms)
    ∙ (ap greatest (map-append f (keep p ls) (keep p ms)) ∙ greatest-append (map f (keep p ls)) (map f (keep p ms)))

-- one line more
pub longest-here : (j : ℕ) (l : List ℕ) → longest_of j (in_column j l ∷ []) ≡ max 1 (text_width l)
unfolding longest_of keep greatest
longest-here j l = rw (eq-eqb j j refl, keep) (omega arith)

pub longest-other : (i j : ℕ) (l : List ℕ) → (i ≡ j → ⊥) → longest_of j (in_column i l ∷ []) ≡ 0
unfolding longest_of keep greatest
longest-other i j l h = rw (ne_eqb i j h, keep)

-- a cell's lines in its own column, and in another
cell-here : (j : ℕ) (x : List (List ℕ)) → longest_of j (map (in_column j) x) ≡ greatest (map (λ l. lifted (text_width l)) x)
unfolding longest_of keep greatest
cell-here j [] = refl
cell-here j (l ∷ x) = longest-append j (in_column j l ∷ []) (map (in_column j) x) ∙ rw (longest-here j l, cell-here j x)

cell_other : (i j : ℕ) (x : List (List ℕ)) → (i ≡ j → ⊥) → longest_of j (map (in_column i) x) ≡ 0
unfolding longest_of keep greatest
cell_other i j [] h = refl
cell_other i j (l ∷ x) h =
    longest-append j (in_column i l ∷ []) (map (in_column i) x) ∙ omega (arith, longest-other i j l h, cell_other i j x h)

lifted_both : (m n : ℕ) → max (lifted m) (max 1 n) ≡ max 1 (max m n)
lifted_both m n = omega arith

-- no cell has fewer than one line, so that at least 1 a line is at least 1 a cell
cell-lifted : (x : List (List ℕ)) → 1 ≤ length x → greatest (map (λ l. lifted (text_width l)) x) ≡ max 1 (greatest (map text_width x))
unfolding greatest
cell-lifted [] h = absurd (omega arith)
cell-lifted (l ∷ []) h = omega arith
cell-lifted (l ∷ (m ∷ x)) h =
    rw (cell-lifted (m ∷ x) (omega arith)) (lifted_both (text_width l) (greatest (map text_width (m ∷ x))))

-- a row's cells: those before a column have no line of it
cells-before : (i j : ℕ) (xs : List (List (List ℕ))) → j < i → longest_of j (lines_of_cells i xs) ≡ 0
unfolding longest_of lines_of_cells keep greatest
cells-before i j [] h = refl
cells-before i j (x ∷ xs) h =
    longest-append j (map (in_column i) x) (lines_of_cells (suc i) xs)
    ∙ omega (arith, cell_other i j x (λ e. omega arith), cells-before (suc i) j xs (omega arith))

abbrev SomeLine : Cell → Type 0
SomeLine x = 1 ≤ length x.lines

-- column i + k over cells from column i on
abbrev cell_over : ℕ → List Cell → ℕ
cell_over k xs = elim (ltb k (length xs)) [ true ↦ cell_longest (get_or xs k no_cell) | false ↦ 0 ]

over_first : (x : Cell) (xs : List Cell) → cell_over 0 (x ∷ xs) ≡ cell_longest x
over_first x xs = rw (lt-ltb 0 (suc (length xs)) (omega arith), cell_over)

over_next : (k : ℕ) (x : Cell) (xs : List Cell) → cell_over (suc k) (x ∷ xs) ≡ cell_over k xs
over_next k x xs = go (ltb k (length xs)) refl
  where
    go : (b : Bool) → ltb k (length xs) ≡ b → cell_over (suc k) (x ∷ xs) ≡ cell_over k xs
    go true e = let h = ltb-true k (length xs) e in rw (e, lt-ltb (suc k) (suc (length xs)) (omega arith), cell_over)
    go false e = let h = ltb-false k (length xs) e in rw (e, le-ltb (suc k) (suc (length xs)) (omega arith), cell_over)

cells-longest : (i k : ℕ) (xs : List Cell) → All SomeLine xs → longest_of (i + k) (lines_of_cells i (map (λ (x : Cell). x.lines) xs)) ≡ cell_over k xs
unfolding longest_of lines_of_cells keep greatest cell_longest
cells-longest i k [] a = rw (le-ltb k 0 (omega arith), cell_over)
cells-longest i zero (x ∷ xs) a =
    let z : i + 0 ≡ i = omega arith in
    let others = map (λ (x : Cell). x.lines) xs in
    ap (λ n. longest_of n (lines_of_cells i (x.lines ∷ others))) z
    ∙ (longest-append i (map (in_column i) x.lines) (lines_of_cells (suc i) others)
    ∙ omega (arith, cell-here i x.lines, cell-lifted x.lines a.0, cells-before (suc i) i others (omega arith), over_first x xs))
cells-longest i (suc k) (x ∷ xs) a =
    let z : i + suc k ≡ suc i + k = omega arith in
    let others = map (λ (x : Cell). x.lines) xs in
    longest-append (i + suc k) (map (in_column i) x.lines) (lines_of_cells (suc i) others)
    ∙ omega (
      arith,
      cell_other i (i + suc k) x.lines (λ e. omega arith),
      ap (λ n. longest_of n (lines_of_cells (suc i) others)) z,
      cells-longest (suc i) k xs a.1,
      over_next k x xs,
    )

-- one row more, and row after row
cells-cons : (j : ℕ) (r : Row) (rs : List Row)
    → greatest (map cell_longest (cells_of j (r ∷ rs))) ≡ max (cell_over j r.cells) (greatest (map cell_longest (cells_of j rs)))
unfolding greatest cells_of
cells-cons j r rs = go (ltb j (length r.cells))
  where
    go : (b : Bool) → greatest (map cell_longest (elim b as (λ c. List Cell) [ true ↦ cell_at r j ∷ cells_of j rs | false ↦ cells_of j rs ]))
        ≡ max (elim b as (λ c. ℕ) [ true ↦ cell_longest (get_or r.cells j no_cell) | false ↦ 0 ]) (greatest (map cell_longest (cells_of j rs)))
    go true = refl
    go false = omega arith

rows-longest : (j : ℕ) (rs : List Row) → All (λ r. All SomeLine r.cells) rs
    → longest_of j (lines_of_rows (map row_lines rs)) ≡ greatest (map cell_longest (cells_of j rs))
unfolding longest_of flat keep greatest cells_of
rows-longest j [] a = refl
rows-longest j (r ∷ rs) a =
    let z : j ≡ 0 + j = omega arith in
    longest-append j (lines_of_cells 0 (row_lines r)) (lines_of_rows (map row_lines rs))
    ∙ omega (
      arith,
      ap (λ n. longest_of n (lines_of_cells 0 (row_lines r))) z,
      cells-longest 0 j r.cells a.0,
      rows-longest j rs a.1,
      cells-cons j r rs,
    )

-- the rows of a table that keeps the limits
row_limits : (t : Table) → TableLimits t → All (RowLimits (length t.columns)) (all_rows t)
row_limits t l = all_append (RowLimits (length t.columns)) t.header t.rows l.header_row l.each_row

-- "the lengths after the last are document 01's, in characters"
pub longest-lines : (t : Table) (j : ℕ) → TableLimits t → longest_of j (cell_lines t) ≡ longest t j
unfolding cell_lines longest
longest-lines t j l =
    rows-longest j (all_rows t) (all_imp (RowLimits (length t.columns)) (λ r. All SomeLine r.cells) some (all_rows t) (row_limits t l))
  where
    some : (r : Row) → RowLimits (length t.columns) r → All SomeLine r.cells
    some r h = all_imp CellLimits SomeLine (λ x k. k.some_line) r.cells h.each

-- and each of its lines is of a column that there can be
pub lines_narrow : (t : Table) → TableLimits t → All (λ l. l.column < most_columns) (cell_lines t)
unfolding cell_lines
lines_narrow t l =
    rows_below most_columns (map row_lines (all_rows t))
    (all-map_imp (RowLimits (length t.columns)) (λ r. length r ≤ most_columns) row_lines row (all_rows t) (row_limits t l))
  where
    row : (r : Row) → RowLimits (length t.columns) r → length (row_lines r) ≤ most_columns
    row r h = omega (arith, length-map r.cells (λ (x : Cell). x.lines), h.cells, l.columns)
