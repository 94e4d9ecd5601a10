-- How many bytes a row and its lines have: their columns, and the pairs that they show. Assumes nothing.
use Prim.Native.Nat.{ℕ, zero, suc, ◌+◌, ◌-◌, ◌*◌, ◌≤◌, ◌<◌}
use mathlib.Core.Path.{◌≡◌, refl, sym, ap, ◌∙◌}
use mathlib.Core.List.{List, [], ◌∷◌, map}
use mathlib.Core.Bool.{false, not}
use native.Mathlib.Omega.{arith}
use lib.ListN.{length, get_or, length-append}
use Rattle.rules.specs.Text.{keep, is_second, text_width, greatest, sum, up_from, flat, All}
use Rattle.rules.specs.Sheet.{Row, Table, column_at, cell_at}
use Rattle.rules.specs.Limits.{CellLimits, TableLimits}
use Rattle.rules.specs.Wrap.{wrap_lines, exceeds, cut, delimiter_of}
use Rattle.rules.specs.Widths.{visible}
use Rattle.rules.specs.Page.{visible_width, visible_widths, wrapped, cell_lines, height, area_at, areas, text_line, line_length, row_text, closed}
use Rattle.laws.proofs.Lists.{all_imp, length-up_from, map_shift}
use Rattle.laws.proofs.Text.{width-le}
use Rattle.laws.proofs.Texts.{printable-first}
use Rattle.laws.proofs.Keeps.{kept-lines}
use Rattle.laws.proofs.Fits.{length-area_at}
use Rattle.laws.proofs.Characters.{printable_delimiter}
use Rattle.laws.proofs.PairCounts.{seconds, length-seconds, seconds-append}
use Rattle.laws.proofs.Lines.{text_bytes}

-- the pairs of a cell's lines: a byte more than columns for each
unfoldable pub pairs_of : List (List ℕ) → ℕ
pairs_of [] = 0
pairs_of (l ∷ ls) = (length l - text_width l) + pairs_of ls

-- ---- sums

sum-add : (f g : ℕ → ℕ) (xs : List ℕ) → sum (map (λ x. f x + g x) xs) ≡ sum (map f xs) + sum (map g xs)
unfolding sum
sum-add f g [] = omega arith
sum-add f g (x ∷ xs) = omega (arith, sum-add f g xs)

sum-none : (f : ℕ → ℕ) → ((x : ℕ) → f x ≡ 0) → (xs : List ℕ) → sum (map f xs) ≡ 0
unfolding sum
sum-none f h [] = refl
sum-none f h (x ∷ xs) = omega (arith, h x, sum-none f h xs)

sum_same : (f g : ℕ → ℕ) (xs : List ℕ) → All (λ x. f x ≡ g x) xs → sum (map f xs) ≡ sum (map g xs)
unfolding sum
sum_same f g [] h = refl
sum_same f g (x ∷ xs) h = omega (arith, h.0, sum_same f g xs h.1)

-- lines by columns, or columns by lines
sum_swap : (f : ℕ → ℕ → ℕ) (ks js : List ℕ) → sum (map (λ k. sum (map (f k) js)) ks) ≡ sum (map (λ j. sum (map (λ k. f k j) ks)) js)
unfolding sum
sum_swap f [] js = sym (sum-none (λ j. 0) (λ j. refl) js)
sum_swap f (k ∷ ks) js = omega (arith, sum_swap f ks js, sum-add (f k) (λ j. sum (map (λ i. f i j) ks)) js)

-- none is above the greatest
pub all-greatest : (f : ℕ → ℕ) (xs : List ℕ) → All (λ x. f x ≤ greatest (map f xs)) xs
unfolding greatest
all-greatest f [] = tt
all-greatest f (x ∷ xs) = (
  omega arith,
  all_imp (λ y. f y ≤ greatest (map f xs)) (λ y. f y ≤ greatest (map f (x ∷ xs))) (λ y h. omega arith) xs (all-greatest f xs),
)

-- ---- a cell

-- they are as many as the second bytes
pairs-seconds : (ls : List (List ℕ)) → pairs_of ls ≡ length (seconds (flat ls))
unfolding pairs_of flat
pairs-seconds [] = unfold keep in refl
pairs-seconds (l ∷ ls) = omega (arith, seconds-append l (flat ls), length-seconds l, pairs-seconds ls)

-- wrapping keeps them
pairs-wrapped : (w d : ℕ) → 0 < w → is_second d ≡ false → (ls : List (List ℕ)) → pairs_of (wrap_lines w d ls) ≡ pairs_of ls
pairs-wrapped w d some delimiter ls =
    pairs-seconds (wrap_lines w d ls) ∙ ap length (kept-lines (λ b. not (is_second b)) d (rw delimiter) w some ls) ∙ sym (pairs-seconds ls)

-- those of line k, none below the last
abbrev pub pairs_at : List (List ℕ) → ℕ → ℕ
pairs_at ls k = length (get_or ls k []) - text_width (get_or ls k [])

-- all of them, in as many lines as there are or more
pub pairs_once : (ls : List (List ℕ)) (n : ℕ) → length ls ≤ n → sum (map (pairs_at ls) (up_from 0 n)) ≡ pairs_of ls
unfolding sum up_from pairs_of
pairs_once [] n h = sum-none (pairs_at []) (λ k. omega arith) (up_from 0 n)
pairs_once (l ∷ ls) zero h = absurd (omega arith)
pairs_once (l ∷ ls) (suc n) h =
    omega (arith, ap sum (map_shift (pairs_at (l ∷ ls)) 0 n), pairs_once ls n (omega arith))

-- without a limit nothing is cut
uncut : (w : ℕ) (i : List ℕ) (h : ℕ) (ls : List (List ℕ)) → h ≡ 0 → cut w i h ls ≡ ls
unfolding cut exceeds
uncut w i h ls e = rw (e, exceeds)

-- ---- lines

-- lines that have c bytes and some more each
closed_bytes : {A : Type 0} (line : A → List ℕ) (more : ℕ → ℕ) (f : ℕ → A) (c : ℕ) → ((k : ℕ) → length (line (f k)) ≡ c + more k) → (ks : List ℕ)
    → length (closed (map line (map f ks))) ≡ length ks * (c + 1) + sum (map more ks)
unfolding closed sum
closed_bytes line more f c h [] = omega arith
closed_bytes line more f c h (k ∷ ks) =
    omega (arith, length-append (line (f k)) (10 ∷ closed (map line (map f ks))), h k, closed_bytes line more f c h ks)

module _ (t : Table) (ws : List ℕ) (r : Row) where
  -- the areas of line k: their columns, and their pairs
  area-pairs : (k : ℕ) (js : List ℕ)
      → sum (map length (map (area_at t ws r k) js)) ≡ sum (map (visible_width t ws) js) + sum (map (λ j. pairs_at (cell_lines t ws r j) k) js)
  unfolding sum
  area-pairs k [] = omega arith
  area-pairs k (j ∷ js) = omega (arith, length-area_at t ws r k j, width-le (get_or (cell_lines t ws r j) k []), area-pairs k js)

  -- line k
  pub line_bytes : (i k : ℕ) → length (text_line t.style i (map (area_at t ws r k) (visible t)))
      ≡ line_length t ws + sum (map (λ j. pairs_at (cell_lines t ws r j) k) (visible t))
  unfolding line_length visible_widths
  line_bytes i k = omega (arith, text_bytes t ws r i k, area-pairs k (visible t))

  -- a row's lines: the columns of each, its 0A, and the pairs of the visible cells' lines
  pub row-shown : (i : ℕ) → length (closed (row_text t ws i r))
      ≡ height t ws r * (line_length t ws + 1) + sum (map (λ j. pairs_of (cell_lines t ws r j)) (visible t))
  unfolding row_text areas height
  row-shown i =
      let n = greatest (map (λ j. length (cell_lines t ws r j)) (visible t)) in
      let bytes = closed_bytes (text_line t.style i) (λ k. sum (map (λ j. pairs_at (cell_lines t ws r j) k) (visible t)))
      (λ k. map (area_at t ws r k) (visible t)) (line_length t ws) (line_bytes i) (up_from 0 n) in
      let swapped = sum_swap (λ k j. pairs_at (cell_lines t ws r j) k) (up_from 0 n) (visible t) in
      let once = sum_same (λ j. sum (map (pairs_at (cell_lines t ws r j)) (up_from 0 n))) (λ j. pairs_of (cell_lines t ws r j)) (visible t)
      (all_imp (λ j. length (cell_lines t ws r j) ≤ n) (λ j. sum (map (pairs_at (cell_lines t ws r j)) (up_from 0 n)) ≡ pairs_of (cell_lines t ws r j))
      (λ j h. pairs_once (cell_lines t ws r j) n h) (visible t) (all-greatest (λ j. length (cell_lines t ws r j)) (visible t))) in
      bytes ∙ rw (length-up_from 0 n, swapped, once)

module _ (t : Table) (T : TableLimits t) (ws : List ℕ) (some : All (λ j. 1 ≤ get_or ws j 0) (visible t)) (r : Row) (R : All CellLimits r.cells)
    (unlimited : r.limit ≡ 0) where
  -- a cell shows the pairs it holds
  cell-pairs : (j : ℕ) → 1 ≤ get_or ws j 0 → pairs_of (cell_lines t ws r j) ≡ pairs_of (cell_at r j).lines
  unfolding cell_lines wrapped
  cell-pairs j h =
      let d = delimiter_of t (column_at t j) (cell_at r j) in
      ap pairs_of (uncut (get_or ws j 0) t.indicator r.limit (wrapped t ws r j) unlimited)
      ∙ pairs-wrapped (get_or ws j 0) d h (printable-first d (printable_delimiter t T ws r R j)) (cell_at r j).lines

  -- a row without limit: its lines' columns, their 0As, and the pairs of its visible cells
  pub row_bytes : (k : ℕ) → length (closed (row_text t ws k r))
      ≡ height t ws r * (line_length t ws + 1) + sum (map (λ j. pairs_of (cell_at r j).lines) (visible t))
  row_bytes k =
      row-shown t ws r k
      ∙ ap (λ n. height t ws r * (line_length t ws + 1) + n)
      (sum_same (λ j. pairs_of (cell_lines t ws r j)) (λ j. pairs_of (cell_at r j).lines) (visible t)
      (all_imp (λ j. 1 ≤ get_or ws j 0) (λ j. pairs_of (cell_lines t ws r j) ≡ pairs_of (cell_at r j).lines) cell-pairs (visible t) some))
