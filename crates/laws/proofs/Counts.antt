-- How many lines and bytes the page of an accepted sheet has at most, and which columns its lines show. Assumes nothing.
use Prim.Native.Nat.{ℕ, zero, suc, ◌+◌, ◌-◌, ◌*◌, ◌≤◌, ◌<◌}
use mathlib.Core.Path.{◌≡◌, refl}
use mathlib.Core.Logic.{◌⊎◌, inl, inr}
use mathlib.Core.List.{List, [], ◌∷◌, ◌++◌, map}
use mathlib.Core.Bool.{Bool, true, false, not, cond}
use native.Mathlib.Omega.{arith}
use lib.ListN.{length, get_or, take, length-append, length-take, length-map}
use lib.Dec.{ltb, eqb}
use borrow.Author.Tests.{ltb-true, ltb-false}
use Rattle.rules.specs.Text.{text_width, rest_of, sum, up_from, keep, flat, All}
use Rattle.rules.specs.Sheet.{Cell, Row, Table, no_cell, no_column, column_at, cell_at, padding, is_hidden}
use Rattle.rules.specs.Limits.{IsText, widest_line, longest_line, ColumnLimits, LineLimits, CellLimits, RowLimits, TableLimits, most_lines}
use Rattle.rules.specs.Style.{top_border, header_lines, header_rule, content_lines, row_rule, bottom_border, any_left, any_right, any_junction, is_visible, borders_of}
use Rattle.rules.specs.Wrap.{Act, join, retry, fill, begin, onto, pieces, glue, room, full, act, last, place, weight, split, wrap_line, wrap_lines}
use Rattle.rules.specs.Wrap.{exceeds, cut_line, cut, delimiter_of}
use Rattle.rules.specs.Widths.{numbers, visible, borders, contents}
use Rattle.rules.specs.Page.{visible_width, visible_widths, wrapped, cell_lines, height, area_at, areas, ruled, text_line, line_length, border_length, shown}
use Rattle.rules.specs.Page.{headed, ruled_more, ruled_rows, row_text, framed, page_lines, closed, line_count}
use Rattle.rules.specs.Words.{widths_of}
use Rattle.laws.proofs.Cases.{one_if-le}
use Rattle.laws.proofs.Lists.{all_map, all-map_imp, all_imp, all_append, all_default, all_get_d, all_keep, length-up_from, keep_yes, keep_no}
use Rattle.laws.proofs.Bounds.{Most, greatest-le, contents_801}
use Rattle.laws.proofs.Areas.{visible_below, visible-some, length_widths, length-areas}
use Rattle.laws.proofs.Rows.{all-headed, all-ruled_rows}
use Rattle.laws.proofs.PairCounts.{PairsUpTo, shown_100}
use Rattle.laws.proofs.Lines.{rule-length, border-length, rule-width, border-width, text-width, text-bound}
use Rattle.laws.proofs.Sizes.{length-closed}
use Rattle.laws.proofs.Texts.{text-length}
use Rattle.laws.proofs.Characters.{printable-text_line, printable-area_at}

-- ---- lines of a cell

-- a step puts out two lines at most
pub length-place : (n w d : ℕ) (l : List ℕ) (ps : List (List ℕ)) → length (place n w d l ps) ≤ 2 * n
unfolding place last
length-place zero w d l ps = omega arith
length-place (suc n) w d [] [] = omega arith
length-place (suc n) w d (x ∷ l) [] = omega arith
length-place (suc n) w d l (p ∷ ps) = go (act w d l p) refl (λ m qs. length-place n w d m qs)
  where
    ended : (m : List ℕ) (b : Bool) → ((m : List ℕ) (qs : List (List ℕ)) → length (place n w d m qs) ≤ 2 * n)
        → length {A = List ℕ} (elim b as (λ x. List (List ℕ)) [ true ↦ m ∷ place n w d [] ps | false ↦ place n w d m ps ]) ≤ 2 * n + 1
    ended m true ih = omega (arith, ih [] ps)
    ended m false ih = omega (arith, ih m ps)

    go : (a : Act) → act w d l p ≡ a → ((m : List ℕ) (qs : List (List ℕ)) → length (place n w d m qs) ≤ 2 * n) → length (place (suc n) w d l (p ∷ ps))
        ≤ 2 * suc n
    go join e ih = rw (e, place) (omega (arith, ended (glue d l p) (full w (glue d l p)) ih))
    go retry e ih = rw (e, place) (omega (arith, ih [] (p ∷ ps)))
    go fill e ih = rw (e, place) (omega (arith, ih [] (rest_of (room w d l) p ∷ ps)))
    go begin e ih = rw (e, place) (omega (arith, ended p (full w p) ih))

-- three steps at least, and as many more as each character takes at most
abbrev Steps : ℕ → List (List ℕ) → Type 0
Steps n ps = (3 ≤ weight ps) × (weight ps ≤ 2 * n + 3)

steps-onto : (n b : ℕ) (ps : List (List ℕ)) → Steps n ps → Steps (suc n) (onto b ps)
unfolding onto weight
steps-onto n b [] h = absurd (omega arith)
steps-onto n b (p ∷ ps) h = (omega arith, omega arith)

steps-pieces : (d : ℕ) (l : List ℕ) → Steps (length l) (pieces d l)
unfolding pieces weight
steps-pieces d [] = (omega arith, omega arith)
steps-pieces d (b ∷ l) = go (eqb b d) (steps-pieces d l)
  where
    go : (x : Bool) → Steps (length l) (pieces d l) → Steps (suc (length l))
        (elim x as (λ y. List (List ℕ)) [ true ↦ [] ∷ pieces d l | false ↦ onto b (pieces d l) ])
    go true h = (omega arith, omega arith)
    go false h = steps-onto (length l) b (pieces d l) h

-- the lines that a line is split into
pub length-split : (w d : ℕ) (l : List ℕ) → length (split w d l) ≤ 4 * length l + 6
unfolding split
length-split w d l = omega (arith, length-place (weight (pieces d l)) w d [] (pieces d l), (steps-pieces d l).1)

-- a line's
pub length-wrap_line : (w d : ℕ) (l : List ℕ) → length (wrap_line w d l) ≤ 4 * length l + 6
unfolding wrap_line
length-wrap_line w d l = go (ltb w (text_width l))
  where
    go : (b : Bool) → length {A = List ℕ} (elim b as (λ x. List (List ℕ)) [ true ↦ split w d l | false ↦ l ∷ [] ]) ≤ 4 * length l + 6
    go true = length-split w d l
    go false = omega arith

-- those of lines within their limit
pub length-wrap_lines : (w d : ℕ) (ls : List (List ℕ)) → All (λ l. length l ≤ 200) ls → length (wrap_lines w d ls) ≤ 806 * length ls
unfolding wrap_lines flat
length-wrap_lines w d [] h = omega arith
length-wrap_lines w d (l ∷ ls) h = simp length-append (omega (arith, length-wrap_line w d l, length-wrap_lines w d ls h.1, h.0))

-- cutting adds no line
pub length_cut : (w : ℕ) (i : List ℕ) (h : ℕ) (ls : List (List ℕ)) → length (cut w i h ls) ≤ length ls
unfolding cut exceeds
length_cut w i zero ls = omega arith
length_cut w i (suc h) ls = go (ltb (suc h) (length ls)) refl
  where
    go : (b : Bool) → ltb (suc h) (length ls) ≡ b
        → length {A = List ℕ} (elim b as (λ x. List (List ℕ)) [
          | true ↦ take (suc h - 1) ls ++ (cut_line w i (get_or ls (suc h - 1) []) ∷ [])
          | false ↦ ls
        ]) ≤ length ls
    go true e = simp (length-append, length-take) (omega (arith, ltb-true (suc h) (length ls) e))
    go false e = omega arith

-- ---- lines of a row

-- what a cell, missing or not, has
abbrev Lined : Cell → Type 0
Lined x = (length x.lines ≤ 8) × All (λ l. length l ≤ 200) x.lines

lined : (x : Cell) → CellLimits x → Lined x
lined x h = (h.lines, all_imp LineLimits (λ l. length l ≤ 200) (λ l k. k.length) x.lines h.texts)

module _ (t : Table) (ws : List ℕ) (r : Row) (R : All CellLimits r.cells) where
  length-cell : (j : ℕ) → length (cell_lines t ws r j) ≤ 6448
  unfolding cell_lines wrapped
  length-cell j =
      let c : Lined (cell_at r j) = all_default Lined r.cells j no_cell (omega arith, (omega arith, tt))
      (all_imp CellLimits Lined lined r.cells R) in
      omega (
        arith,
        length_cut (get_or ws j 0) t.indicator r.limit (wrapped t ws r j),
        length-wrap_lines (get_or ws j 0)
            (delimiter_of t (column_at t j) (cell_at r j)) (cell_at r j).lines c.1,
        c.0,
      )

  -- a row of at most 8 lines a cell, each of at most 200 characters
  pub height_bound : height t ws r ≤ 6448
  unfolding height
  height_bound = greatest-le 6448 _ (all_map (Most 6448) (λ j. length (cell_lines t ws r j)) length-cell (visible t))

  -- as many lines of text
  pub length-row_text : (k : ℕ) → length (row_text t ws k r) ≤ 6448
  unfolding row_text
  length-row_text k = omega (arith, length-map (areas t ws r) (text_line t.style k), length-areas t ws r, height_bound)

-- ---- lines of a page

length-shown : (S : List ℕ) (always : Bool) (k : ℕ) (vs : List ℕ) → length (shown S always k vs) ≤ 1
unfolding shown
length-shown S always k vs = go (is_visible S k)
  where
    go : (b : Bool) → length {A = List ℕ} (elim b as (λ x. List (List ℕ)) [ true ↦ ruled S always k vs ∷ [] | false ↦ [] ]) ≤ 1
    go true = omega arith
    go false = omega arith

module _ (text : Row → List (List ℕ)) (rule : List (List ℕ)) (one : length rule ≤ 1) where
  length-headed : (rs : List Row) → All (λ r. length (text r) ≤ 6448) rs → length (headed text rule rs) ≤ 6449 * length rs
  unfolding headed
  length-headed [] h = omega arith
  length-headed (r ∷ rs) h = simp length-append (omega (arith, length-headed rs h.1, h.0))

  length-ruled_more : (rs : List Row) → All (λ r. length (text r) ≤ 6448) rs → length (ruled_more text rule rs) ≤ 6449 * length rs
  unfolding ruled_more
  length-ruled_more [] h = omega arith
  length-ruled_more (r ∷ rs) h = simp length-append (omega (arith, length-ruled_more rs h.1, h.0))

  length-ruled_rows : (rs : List Row) → All (λ r. length (text r) ≤ 6448) rs → length (ruled_rows text rule rs) ≤ 6449 * length rs
  unfolding ruled_rows
  length-ruled_rows [] h = omega arith
  length-ruled_rows (r ∷ rs) h = simp length-append (omega (arith, length-ruled_more rs h.1, h.0))

module _ (t : Table) (T : TableLimits t) where
  texts : (ws : List ℕ) (k : ℕ) (rs : List Row) → All (RowLimits (length t.columns)) rs → All (λ r. length (row_text t ws k r) ≤ 6448) rs
  texts ws k rs h = all_imp (RowLimits (length t.columns)) (λ r. length (row_text t ws k r) ≤ 6448) (λ r R. length-row_text t ws r R.each k) rs h

  -- over some of the rows, at any widths
  pub framed-count : (ws : List ℕ) (rs : List Row) → length rs ≤ 100 → All (RowLimits (length t.columns)) rs → length (framed t ws rs) ≤ most_lines
  unfolding framed
  framed-count ws rs n h =
      let vs = visible_widths t ws in
      let H = shown t.style false header_rule vs in
      let Q = shown t.style false row_rule vs in
      simp length-append
      (omega (
        arith,
        length-shown t.style true top_border vs,
        length-shown t.style true bottom_border vs,
        length-headed (row_text t ws header_lines) H (length-shown t.style false header_rule vs) t.header
            (texts ws header_lines t.header T.header_row),
        length-ruled_rows (row_text t ws content_lines) Q (length-shown t.style false row_rule vs) rs (texts ws content_lines rs h),
        T.header,
      ))

  -- the whole page
  pub line-count-bound : line_count t ≤ most_lines
  unfolding line_count page_lines
  line-count-bound = framed-count (contents t) t.rows T.rows T.each_row

-- ---- which columns are visible

-- those of the first n columns
unfoldable pub visible_to : Table → ℕ → List ℕ
visible_to t n = keep (λ j. not (is_hidden (column_at t j))) (up_from 0 n)

module _ (t : Table) where
  -- of none
  pub visible-to-none : visible_to t 0 ≡ []
  unfolding visible_to up_from keep
  visible-to-none = refl

  -- column n joins them unless it is hidden
  pub visible-to-shown : (n : ℕ) → is_hidden (column_at t n) ≡ false → visible_to t (suc n) ≡ visible_to t n ++ (n ∷ [])
  unfolding visible_to
  visible-to-shown n h = keep_yes (λ j. not (is_hidden (column_at t j))) n (rw h)

  -- and not if it is
  pub visible-to_hidden : (n : ℕ) → is_hidden (column_at t n) ≡ true → visible_to t (suc n) ≡ visible_to t n
  unfolding visible_to
  visible-to_hidden n h = keep_no (λ j. not (is_hidden (column_at t j))) n (rw h)

  -- of all columns
  pub visible-to-all : visible_to t (length t.columns) ≡ visible t
  unfolding visible_to visible numbers
  visible-to-all = refl

length-keep : {A : Type 0} (p : A → Bool) (xs : List A) → length (keep p xs) ≤ length xs
unfolding keep
length-keep p [] = omega arith
length-keep {A} p (x ∷ xs) = go (p x) (length-keep p xs)
  where
    go : (b : Bool) → length (keep p xs) ≤ length xs → length {A = A} (elim b as (λ c. List A) [ true ↦ x ∷ keep p xs | false ↦ keep p xs ]) ≤ suc
        (length xs)
    go true h = omega arith
    go false h = omega arith

from-up_from : (m i n : ℕ) → m ≤ i → All (λ j. m ≤ j) (up_from i n)
unfolding up_from
from-up_from m i zero h = tt
from-up_from m i (suc n) h = (h, from-up_from m (suc i) n (omega arith))

-- its entries rise
abbrev Rising : List ℕ → Type 0
Rising l = (a b : ℕ) → a < b → b < length l → get_or l a 0 < get_or l b 0

rising-keep : (p : ℕ → Bool) (i n : ℕ) → Rising (keep p (up_from i n))
unfolding keep up_from
rising-keep p i zero = λ a b h k. absurd (omega arith)
rising-keep p i (suc n) = go (p i) (rising-keep p (suc i) n) (all_keep (λ j. i < j) p (up_from (suc i) n)
    (from-up_from (suc i) (suc i) n (omega arith)))
  where
    go : (x : Bool) → Rising (keep p (up_from (suc i) n)) → All (λ j. i < j) (keep p (up_from (suc i) n)) → Rising
        (elim x as (λ c. List ℕ) [ true ↦ i ∷ keep p (up_from (suc i) n) | false ↦ keep p (up_from (suc i) n) ])
    go true ih g a zero h k = absurd (omega arith)
    go true ih g zero (suc b) h k = all_get_d (λ j. i < j) (keep p (up_from (suc i) n)) b 0 (omega arith) g
    go true ih g (suc a) (suc b) h k = ih a b (omega arith) (omega arith)
    go false ih g a b h k = ih a b h k

module _ (t : Table) where
  -- from left to right
  pub visible_rises : (i k : ℕ) → i < k → k < length (visible t) → get_or (visible t) i 0 < get_or (visible t) k 0
  unfolding visible numbers
  visible_rises = rising-keep (λ j. not (is_hidden (column_at t j))) 0 (length t.columns)

  -- so they never fall
  pub visible_rising : (i k : ℕ) → i ≤ k → k < length (visible t) → get_or (visible t) i 0 ≤ get_or (visible t) k 0
  visible_rising i k h l = go (ltb i k) refl
    where
      go : (b : Bool) → ltb i k ≡ b → get_or (visible t) i 0 ≤ get_or (visible t) k 0
      go true e = omega (arith, visible_rises i k (ltb-true i k e) l)
      go false e = let m : i ≡ k = omega (arith, ltb-false i k e) in rw m (omega arith)

  -- no more than columns
  pub visible-count : length (visible t) ≤ length t.columns
  unfolding visible numbers
  visible-count = omega (
    arith,
    length-keep (λ j. not (is_hidden (column_at t j))) (up_from 0 (length t.columns)),
    length-up_from 0
        (length t.columns),
  )

  -- each a column
  pub visible_number : (i : ℕ) → i < length (visible t) → get_or (visible t) i 0 < length t.columns
  visible_number i h = all_get_d (λ j. j < length t.columns) (visible t) i 0 h (visible_below t)

-- ---- how long lines are

sum_841 : (ns : List ℕ) → All (Most 841) ns → sum ns ≤ 841 * length ns
unfolding sum
sum_841 [] h = omega arith
sum_841 (n ∷ ns) h = omega (arith, sum_841 ns h.1, h.0)

pub cond-le : (b : Bool) (n : ℕ) → cond b n 0 ≤ n
cond-le true n = omega arith
cond-le false n = omega arith

module _ (t : Table) (T : TableLimits t) where
  visible_841 : (j : ℕ) → visible_width t (contents t) j ≤ 841
  visible_841 j =
      let c = all_default (λ c. padding c ≤ 40) t.columns j no_column (omega arith)
      (all_imp ColumnLimits (λ c. padding c ≤ 40) (λ c k. omega (arith, k.left, k.right)) t.columns T.each_column) in
      let w = all_default (Most 801) (contents t) j 0 (omega arith) (contents_801 t T) in
      omega arith

  widths-bound : sum (visible_widths t (contents t)) ≤ 841 * length (visible t)
  unfolding visible_widths
  widths-bound = omega (
    arith,
    sum_841 (visible_widths t (contents t)) (all_map (Most 841) (visible_width t (contents t)) visible_841 (visible t)),
    length_widths t (contents t),
  )

  line-length-most : line_length t (contents t) ≤ 842 * length (visible t) + 2
  unfolding line_length borders borders_of
  line-length-most =
      omega (
        arith,
        one_if-le (any_left t.style),
        one_if-le (any_right t.style),
        cond-le (any_junction t.style) (length (visible t) - 1),
        widths-bound,
      )

  border-length-most : border_length t (contents t) ≤ 842 * length (visible t) + 2
  unfolding border_length
  border-length-most = omega (arith, one_if-le (any_left t.style), one_if-le (any_right t.style), widths-bound)

  -- rules, and text lines in columns
  pub line-length-bound : line_length t (contents t) ≤ widest_line
  line-length-bound = omega (arith, line-length-most, visible-count t, T.columns)

  -- borders
  pub border-length-bound : border_length t (contents t) ≤ widest_line
  border-length-bound = omega (arith, border-length-most, visible-count t, T.columns)

-- every line takes one of two numbers of columns, and shows at most 100 pairs in each visible column
abbrev Drawn : Table → List ℕ → Type 0
Drawn t l =
    ((text_width l ≡ line_length t (contents t)) ⊎ (text_width l ≡ border_length t (contents t))) × (length l ≤ text_width l + 100 * length (visible t))

module _ (t : Table) (T : TableLimits t) where
  shown-drawn : (always : Bool) (k : ℕ) → All (Drawn t) (shown t.style always k (widths_of t))
  unfolding shown
  shown-drawn always k = go always (is_visible t.style k)
    where
      go : (a b : Bool) → All (Drawn t) (elim b as (λ x. List (List ℕ)) [ true ↦ ruled t.style a k (widths_of t) ∷ [] | false ↦ [] ])
      go true true =
          let e = border-width t T.style_characters_fit (contents t) k in
          ((inr e, omega (arith, e, border-length t (contents t) k)), tt)
      go false true =
          let e = rule-width t T.style_characters_fit (contents t) k in
          ((inl e, omega (arith, e, rule-length t (contents t) k)), tt)
      go a false = tt

  text-drawn : (r : Row) → All CellLimits r.cells → (k i : ℕ) → Drawn t (text_line t.style k (map (area_at t (contents t) r i) (visible t)))
  text-drawn r R k i =
      let e = text-width t T.style_characters_fit (contents t) r k i in
      let few = all_imp (λ j. 1 ≤ get_or (contents t) j 0) (λ j. PairsUpTo 100 (get_or (cell_lines t (contents t) r j) i []))
      (λ j some. shown_100 t T (contents t) r R i j some) (visible t) (visible-some t) in
      (inl e, omega (arith, e, text-bound t (contents t) r k i 100 few))

  texts-drawn : (k n : ℕ) (rs : List Row) → All (RowLimits n) rs → All (λ r. All (Drawn t) (row_text t (contents t) k r)) rs
  unfolding row_text areas
  texts-drawn k n [] h = tt
  texts-drawn k n (r ∷ rs) h = (
    all-map_imp (λ x. Drawn t (text_line t.style k x)) (Drawn t) (text_line t.style k) (λ x h. h) (areas t (contents t) r)
        (all_map (λ x. Drawn t (text_line t.style k x)) (λ i. map (area_at t (contents t) r i) (visible t)) (text-drawn r h.0.each k)
        (up_from 0 (height t (contents t) r))),
    texts-drawn k n rs h.1,
  )

  -- over some of the rows
  pub framed-line_lengths : (rs : List Row) → All (RowLimits (length t.columns)) rs → All (Drawn t) (framed t (contents t) rs)
  unfolding framed
  framed-line_lengths rs h =
      let head = texts-drawn header_lines (length t.columns) t.header T.header_row in
      let rest = texts-drawn content_lines (length t.columns) rs h in
      search (all_append, all-headed, all-ruled_rows, shown-drawn, head, rest)

bytes-longest : (ls : List (List ℕ)) → All (λ l. length l ≤ longest_line) ls → sum (map (λ l. length l + 1) ls) ≤ (longest_line + 1) * length ls
unfolding sum
bytes-longest [] h = omega arith
bytes-longest (l ∷ ls) h = omega (arith, bytes-longest ls h.1, h.0)

module _ (t : Table) (T : TableLimits t) where
  drawn_short : (l : List ℕ) → Drawn t l → length l ≤ longest_line
  drawn_short l (inl e, f) = omega (arith, line-length-most t T, visible-count t, T.columns)
  drawn_short l (inr e, f) = omega (arith, border-length-most t T, visible-count t, T.columns)

  -- a text line shows at most 100 pairs in each visible column
  pub text-line-most : (r : Row) → All CellLimits r.cells → (k i : ℕ)
      → length (text_line t.style k (map (area_at t (contents t) r i) (visible t))) ≤ line_length t (contents t) + 100 * length (visible t)
  text-line-most r R k i = omega (arith, text-width t T.style_characters_fit (contents t) r k i, (text-drawn t T r R k i).1)

  -- nor does it show more pairs than it has columns
  pub text-line_twice : (r : Row) → All CellLimits r.cells → (k i : ℕ)
      → length (text_line t.style k (map (area_at t (contents t) r i) (visible t))) ≤ 2 * line_length t (contents t)
  text-line_twice r R k i =
      let ps = map (area_at t (contents t) r i) (visible t) in
      let texts = all_map IsText (area_at t (contents t) r i) (printable-area_at t T (contents t) r R i) (visible t) in
      let line : IsText (text_line t.style k ps) = printable-text_line t.style T.style_characters_fit k ps texts in
      omega (arith, text-width t T.style_characters_fit (contents t) r k i, text-length line)

  -- no text line has more bytes
  pub text-line-bound : (r : Row) → All CellLimits r.cells → (k i : ℕ)
      → length (text_line t.style k (map (area_at t (contents t) r i) (visible t))) ≤ longest_line
  text-line-bound r R k i = drawn_short _ (text-drawn t T r R k i)

  -- nor has any line, over some of the rows
  pub framed-line-bound : (rs : List Row) → All (RowLimits (length t.columns)) rs → All (λ l. length l ≤ longest_line) (framed t (contents t) rs)
  framed-line-bound rs h = all_imp (Drawn t) (λ l. length l ≤ longest_line) drawn_short (framed t (contents t) rs) (framed-line_lengths t T rs h)

  -- the bytes of lines over some of the rows
  pub framed-byte-bound : (rs : List Row) → length rs ≤ 100 → All (RowLimits (length t.columns)) rs → length (closed (framed t (contents t) rs)) ≤
      most_lines * (longest_line + 1)
  framed-byte-bound rs n h =
      omega (
        arith,
        length-closed (framed t (contents t) rs),
        bytes-longest (framed t (contents t) rs) (framed-line-bound rs h),
        framed-count t T
            (contents t) rs n h,
      )
