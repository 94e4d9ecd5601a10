-- Columns, rows, cells and lines of an accepted sheet's table stand one after another, each whole inside the sheet. Assumes nothing.
use Prim.Native.Nat.{ℕ, zero, suc, ◌+◌, ◌*◌, ◌≤◌, ◌<◌}
use mathlib.Core.Path.{◌≡◌, refl, ap, sym, ◌∙◌}
use mathlib.Core.List.{List, ◌∷◌, map}
use mathlib.Core.Bool.{Bool, true, false}
use native.Mathlib.Nat.{not-suc-le-zero, le_of_suc-le-suc}
use native.Mathlib.Omega.{arith}
use lib.ListN.{length, get_or, length-take, length-drop}
use lib.Dec.{leb, eqb}
use Rattle.rules.specs.Sheet.{Table, column_at, no_column, most_columns}
use Rattle.rules.specs.declared.Width.{Width}
use Rattle.rules.specs.declared.Column.{Column}
use Rattle.rules.specs.Field.{got}
use Rattle.rules.specs.Description.{Format, byte, word, only, zero_word, text, cell_text, listed, give, next, Extent, stands, here, stop, part_at}
use Rattle.rules.specs.Format.{width, column, line, cell_by, cell, row_by, row, table_by, sheet}
use Rattle.rules.specs.Places.{past, parts, byte_at, word_at, text_at, line_stop, width_here, column_here, column_stop, cell_here, cell_stop, row_here, row_stop}
use Rattle.rules.specs.Places.{style_place, columns_place, header_place, rows_place, end_place, table_here}
use Rattle.laws.proofs.Accepted.{accepted_limits, accepted_places}

-- as many parts as were asked for
pub parts-count : {A : Type 0} (n : ℕ) (here : ℕ → A) (stop : ℕ → ℕ) (p : ℕ) → length (parts n here stop p) ≡ n
unfolding parts
parts-count zero here stop p = refl
parts-count (suc n) here stop p = ap suc (parts-count n here stop (stop p))

-- part k stands after k parts
parts_at : {A : Type 0} (d : A) (k n : ℕ) (here : ℕ → A) (stop : ℕ → ℕ) (p : ℕ) → k < n → get_or (parts n here stop p) k d ≡ here (past k stop p)
unfolding parts past
parts_at d k zero here stop p l = absurd (not-suc-le-zero l)
parts_at d zero (suc n) here stop p l = refl
parts_at d (suc k) (suc n) here stop p l = parts_at d k n here stop (stop p) (le_of_suc-le-suc l)

-- parts that stand elsewhere, each where g says, and of which f is made
pub past-moved : (g stop stop' : ℕ → ℕ) → ((p : ℕ) → g (stop p) ≡ stop' (g p)) → (n p : ℕ) → g (past n stop p) ≡ past n stop' (g p)
unfolding past
past-moved g stop stop' h zero p = refl
past-moved g stop stop' h (suc n) p = past-moved g stop stop' h n (stop p) ∙ ap (past n stop') (h p)

pub parts-moved : {A B : Type 0} (f : A → B) (here : ℕ → A) (here' : ℕ → B) (g stop stop' : ℕ → ℕ) → ((p : ℕ) → f (here p) ≡ here' (g p))
    → ((p : ℕ) → g (stop p) ≡ stop' (g p)) → (n p : ℕ) → map f (parts n here stop p) ≡ parts n here' stop' (g p)
unfolding parts
parts-moved f here here' g stop stop' k h zero p = refl
parts-moved f here here' g stop stop' k h (suc n) p =
    rw (k p) (ap (◌∷◌ (here' (g p))) (parts-moved f here here' g stop stop' k h n (stop p) ∙ ap (parts n here' stop') (h p)))

-- no part ends before it begins
abbrev pub Onward : (ℕ → ℕ) → Type 0
Onward stop = (p : ℕ) → p ≤ stop p

pub past-onward : (n : ℕ) (stop : ℕ → ℕ) (p : ℕ) → Onward stop → p ≤ past n stop p
unfolding past
past-onward zero stop p h = omega arith
past-onward (suc n) stop p h = let a = h p in let b = past-onward n stop (stop p) h in omega arith

pub stop-onward : {A : Type 0} (x : Format A) (s : List ℕ) (p : ℕ) → p ≤ stop x s p
unfolding stands line_stop
stop-onward byte s p = omega arith
stop-onward word s p = omega arith
stop-onward (only good fault x) s p = stop-onward x s p
stop-onward zero_word s p = omega arith
stop-onward (text low high good) s p = omega arith
stop-onward (cell_text low high) s p = omega arith
stop-onward (listed count x) s p =
    omega (arith, stop-onward count s p, past-onward (here count s p) (λ q. stop x s q) (stop count s p) (λ q. stop-onward x s q))
stop-onward (give a) s p = omega arith
stop-onward (next of x g) s p = omega (arith, stop-onward x s p, stop-onward (g (here x s p)) s (stop x s p))

-- what stands where, field by field
pub width-here : (s : List ℕ) (p : ℕ) → width_here s p ≡ record { unit = byte_at s p; value = word_at s (p + 1) }
unfolding width_here stands width
width-here s p = refl

-- used or not, a width takes three bytes
widths_stand : (b c : Bool) (make : Width → Width → Column) (s : List ℕ) (p : ℕ)
    → stands (next Column.first (width b) (λ v. next Column.second (width c) (λ w. give (make v w)))) s p
    ≡ record { value = make (width_here s p) (width_here s (p + 3)); end = p + 6 }
unfolding width_here stands width
widths_stand true true make s p = let a : p + 1 + 2 ≡ p + 3 = omega arith in let b : p + 3 + 1 + 2 ≡ p + 6 = omega arith in rw (a, b)
widths_stand true false make s p = let a : p + 1 + 2 ≡ p + 3 = omega arith in let b : p + 3 + 1 + 2 ≡ p + 6 = omega arith in rw (a, b)
widths_stand false true make s p = let a : p + 1 + 2 ≡ p + 3 = omega arith in let b : p + 3 + 1 + 2 ≡ p + 6 = omega arith in rw (a, b)
widths_stand false false make s p = let a : p + 1 + 2 ≡ p + 3 = omega arith in let b : p + 3 + 1 + 2 ≡ p + 6 = omega arith in rw (a, b)

column-stands : (s : List ℕ) (p : ℕ) → stands column s p ≡ record {
  value = record {
    left = byte_at s p;
    right = byte_at s (p + 1);
    delimiter = byte_at s (p + 2);
    alignment = byte_at s (p + 3);
    constraint = byte_at s (p + 4);
    first = width_here s (p + 5);
    second = width_here s (p + 8);
  };
  end = p + 11;
}
unfolding stands column
column-stands s p =
    let d = byte_at s (p + 1 + 1) in
    let a = byte_at s (p + 1 + 1 + 1) in
    let k = byte_at s (p + 1 + 1 + 1 + 1) in
    let make : Width → Width → Column =
    λ v w. record { left = byte_at s p; right = byte_at s (p + 1); delimiter = d; alignment = a; constraint = k; first = v; second = w } in
    let a2 : p + 1 + 1 ≡ p + 2 = omega arith in
    let a3 : p + 2 + 1 ≡ p + 3 = omega arith in
    let a4 : p + 3 + 1 ≡ p + 4 = omega arith in
    let a5 : p + 4 + 1 ≡ p + 5 = omega arith in
    let a8 : p + 5 + 3 ≡ p + 8 = omega arith in
    let a11 : p + 5 + 6 ≡ p + 11 = omega arith in
    widths_stand (leb 3 k) (eqb k 6) make s (p + 1 + 1 + 1 + 1 + 1) ∙ rw (a2, a3, a4, a5, a8, a11)

pub column-here : (s : List ℕ) (p : ℕ) → column_here s p ≡ record {
  left = byte_at s p;
  right = byte_at s (p + 1);
  delimiter = byte_at s (p + 2);
  alignment = byte_at s (p + 3);
  constraint = byte_at s (p + 4);
  first = width_here s (p + 5);
  second = width_here s (p + 8);
}
unfolding column_here
column-here s p = ap (λ (e : Extent Column). e.value) (column-stands s p)

pub column-stop : (s : List ℕ) (p : ℕ) → column_stop s p ≡ p + 11
unfolding column_stop
column-stop s p = ap (λ (e : Extent Column). e.end) (column-stands s p)

pub cell-here : (s : List ℕ) (p : ℕ)
    → cell_here s p ≡ record { delimiter = byte_at s p; alignment = byte_at s (p + 1); lines = parts (byte_at s (p + 2)) (text_at s) (line_stop s) (p + 3) }
unfolding cell_here stands cell_by line
cell-here s p =
    let a : p + 1 + 1 ≡ p + 2 = omega arith in
    let b : p + 2 + 1 ≡ p + 3 = omega arith in
    rw (a, b)

pub cell-stop : (s : List ℕ) (p : ℕ) → cell_stop s p ≡ past (byte_at s (p + 2)) (line_stop s) (p + 3)
unfolding cell_stop stands cell_by line
cell-stop s p =
    let a : p + 1 + 1 ≡ p + 2 = omega arith in
    let b : p + 2 + 1 ≡ p + 3 = omega arith in
    rw (a, b)

pub row_here_lem : (s : List ℕ) (p : ℕ) → row_here s p ≡ record { limit = byte_at s p; cells = parts (byte_at s (p + 1)) (cell_here s) (cell_stop s) (p + 2) }
unfolding row_here cell_here cell_stop stands row_by
row_here_lem s p = let a : p + 1 + 1 ≡ p + 2 = omega arith in rw a

pub row-stop : (s : List ℕ) (p : ℕ) → row_stop s p ≡ past (byte_at s (p + 1)) (cell_stop s) (p + 2)
unfolding row_stop cell_stop stands row_by
row-stop s p = let a : p + 1 + 1 ≡ p + 2 = omega arith in rw a

pub lines-onward : (s : List ℕ) → Onward (line_stop s)
unfolding line_stop
lines-onward s p = omega arith

pub cells-onward : (s : List ℕ) → Onward (cell_stop s)
unfolding cell_stop
cells-onward s p = stop-onward cell s p

pub rows-onward : (s : List ℕ) → Onward (row_stop s)
unfolding row_stop
rows-onward s p = stop-onward (row most_columns) s p

-- counts stand before what they count
pub cell-onward : (s : List ℕ) (p : ℕ) → p + 3 ≤ cell_stop s p
cell-onward s p = rw (cell-stop s p) (past-onward (byte_at s (p + 2)) (line_stop s) (p + 3) (lines-onward s))

pub row-onward : (s : List ℕ) (p : ℕ) → p + 2 ≤ row_stop s p
row-onward s p = rw (row-stop s p) (past-onward (byte_at s (p + 1)) (cell_stop s) (p + 2) (cells-onward s))

-- a text that ends inside the sheet is as long as its length says
pub text-length : (s : List ℕ) (p : ℕ) → line_stop s p ≤ length s → length (text_at s p) ≡ byte_at s p
unfolding text_at line_stop
text-length s p h = simp (length-take, length-drop) (omega arith)

columns-past : (s : List ℕ) (n p : ℕ) → past n (column_stop s) p ≡ p + 11 * n
unfolding past
columns-past s zero p = omega arith
columns-past s (suc n) p = let h = columns-past s n (p + 11) in rw (column-stop s p) (omega arith)

-- the sections, one behind another: a count and as many parts
module _ (s : List ℕ) where
  pub style-place : style_place s ≡ 6 + byte_at s 5
  unfolding style_place line_stop part_at stands table_by
  style-place = refl

  columns_begin : columns_place s ≡ line_stop s (style_place s)
  unfolding columns_place style_place part_at stands table_by
  columns_begin = refl

  header_begins : header_place s ≡ past (byte_at s (columns_place s)) (column_stop s) (columns_place s + 1)
  unfolding header_place columns_place column_stop part_at stands table_by
  header_begins = refl

  pub header-place : header_place s ≡ columns_place s + 1 + 11 * byte_at s (columns_place s)
  header-place = header_begins ∙ columns-past s (byte_at s (columns_place s)) (columns_place s + 1)

  pub rows_begin : rows_place s ≡ past (byte_at s (header_place s)) (row_stop s) (header_place s + 1)
  unfolding rows_place header_place row_stop part_at stands table_by row_by
  rows_begin = refl

  pub rows_end_lem : end_place s ≡ past (byte_at s (rows_place s)) (row_stop s) (rows_place s + 1)
  unfolding end_place rows_place row_stop part_at stands table_by row_by
  rows_end_lem = refl

  -- what they hold
  pub indicator-here : (table_here s).indicator ≡ text_at s 5
  unfolding table_here stands table_by
  indicator-here = refl

  pub style-here : (table_here s).style ≡ text_at s (style_place s)
  unfolding table_here style_place part_at stands table_by
  style-here = refl

  pub columns-here : (table_here s).columns ≡ parts (byte_at s (columns_place s)) (column_here s) (column_stop s) (columns_place s + 1)
  unfolding table_here columns_place column_here column_stop part_at stands table_by
  columns-here = refl

  pub header-here : (table_here s).header ≡ parts (byte_at s (header_place s)) (row_here s) (row_stop s) (header_place s + 1)
  unfolding table_here header_place row_here row_stop part_at stands table_by row_by
  header-here = refl

  pub rows-here : (table_here s).rows ≡ parts (byte_at s (rows_place s)) (row_here s) (row_stop s) (rows_place s + 1)
  unfolding table_here rows_place row_here row_stop part_at stands table_by row_by
  rows-here = refl

-- the sections of an accepted sheet
module _ (s : List ℕ) (t : Table) (q : ℕ) (accepted : sheet s ≡ got t q) where
  pub end-place : end_place s ≡ length s
  end-place = sym (accepted_places s t q accepted).1

  pub rows_inside : rows_place s + 1 ≤ length s
  rows_inside = omega (arith, end-place, rows_end_lem s, past-onward (byte_at s (rows_place s)) (row_stop s) (rows_place s + 1) (rows-onward s))

  pub header_inside : header_place s + 1 ≤ rows_place s
  header_inside = omega (arith, rows_begin s, past-onward (byte_at s (header_place s)) (row_stop s) (header_place s + 1) (rows-onward s))

  style_inside : line_stop s (style_place s) ≤ length s
  style_inside = omega (arith, rows_inside, header_inside, header-place s, columns_begin s)

  -- the style's count is 22
  pub style-count : byte_at s (style_place s) ≡ 22
  style-count =
      sym (text-length s (style_place s) style_inside)
      ∙ (ap length (sym (style-here s))
      ∙ (ap (λ (u : Table). length u.style) (sym (accepted_places s t q accepted).0) ∙ (accepted_limits s t q accepted).style))

  pub columns-place : columns_place s ≡ style_place s + 23
  unfolding line_stop
  columns-place = omega (arith, columns_begin s, style-count)

  pub column-count : length t.columns ≡ byte_at s (columns_place s)
  column-count =
      ap (λ (u : Table). length u.columns) (accepted_places s t q accepted).0
      ∙ (ap length (columns-here s) ∙ parts-count (byte_at s (columns_place s)) (column_here s) (column_stop s) (columns_place s + 1))

  -- column j stands after j columns
  pub column-at : (j : ℕ) → j < byte_at s (columns_place s) → column_at t j ≡ column_here s (columns_place s + 1 + 11 * j)
  column-at j l =
      ap (λ (u : Table). column_at u j) (accepted_places s t q accepted).0
      ∙ (ap (λ (cs : List Column). get_or cs j no_column) (columns-here s)
      ∙ (parts_at no_column j (byte_at s (columns_place s)) (column_here s) (column_stop s) (columns_place s + 1) l
      ∙ ap (column_here s) (columns-past s j (columns_place s + 1))))
