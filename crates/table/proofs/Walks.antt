-- Walking from one part to the next: positions, and what is still to come. Assumes nothing.
use Prim.Native.Nat.{ℕ, zero, suc, ◌+◌, ◌-◌, ◌≤◌, ◌<◌}
use mathlib.Core.Path.{◌≡◌, refl, sym, ◌∙◌}
use mathlib.Core.List.{List, []}
use native.Mathlib.Omega.{arith}
use lib.ListN.{length, get_or, take, drop, drop_of_length-le}
use lib.Seq.{drop-drop}
use Rattle.rules.specs.Sheet.{no_row, no_cell}
use Rattle.rules.specs.Places.{past, parts, byte_at, text_at, line_stop, cell_here, cell_stop, row_here, row_stop, header_place, rows_place}
use Rattle.laws.proofs.Stands as stands
use Rattle.laws.proofs.Stands.{Onward, past-onward, cell-here, cell-stop, row_here_lem, row-stop, cell-onward, row-onward, lines-onward, cells-onward, rows-onward}
use Rattle.table.specs.Held.{IsAccepted, table_of}
use Rattle.table.specs.Walk.{rows_in, cells_in, lines_in, rows_end, cells_end, lines_end, first_line, RowIs, CellIs, RowsNext, CellsNext, CellsSkipped, LinesNext}
use Rattle.table.specs.declared.records.Rows.{Rows}
use Rattle.table.specs.declared.records.Cells.{Cells}
use Rattle.table.specs.declared.records.Lines.{Lines}
use Rattle.table.specs.declared.records.Row.{Row}
use Rattle.table.specs.declared.records.Cell.{Cell}
use Rattle.table.proofs.Held.{held, table_here_lem, room}

-- with i of n parts passed and standing at p, the last of them ends at w
pub record Passing (stop : ℕ → ℕ) (n i p w : ℕ) : Type 0 where
  pub rest : past (n - i) stop p ≡ w

pub passing-again : (stop : ℕ → ℕ) (n i p q w : ℕ) → i < n → Passing stop n i p w → q ≡ stop p → Passing stop n (i + 1) q w
unfolding past
passing-again stop n i p q w h e g =
    let z : n - i ≡ suc (n - (i + 1)) = omega arith in
    record { rest = rw g (rw z at e.rest) }

pub passing_done : (stop : ℕ → ℕ) (n i p w : ℕ) → n ≤ i → Passing stop n i p w → p ≡ w
unfolding past
passing_done stop n i p w h e = let z : n - i ≡ 0 = omega arith in rw z at e.rest

pub passing_inside : (stop : ℕ → ℕ) (n i p w : ℕ) → Onward stop → i < n → Passing stop n i p w → stop p ≤ w
unfolding past
passing_inside stop n i p w o h e =
    let z : n - i ≡ suc (n - (i + 1)) = omega arith in
    let k : past (n - (i + 1)) stop (stop p) ≡ w = rw z at e.rest in
    let l = past-onward (n - (i + 1)) stop (stop p) o in
    omega arith

-- a cell's lines from its count on, a row's cells from theirs
pub cell_begin : (s : List ℕ) (p n : ℕ) → n ≡ byte_at s (p + 2) → Passing (line_stop s) n 0 (p + 3) (cell_stop s p)
cell_begin s p n e = let z : n - 0 ≡ byte_at s (p + 2) = omega arith in record { rest = rw z (sym (cell-stop s p)) }

pub row_begin : (s : List ℕ) (p n : ℕ) → n ≡ byte_at s (p + 1) → Passing (cell_stop s) n 0 (p + 2) (row_stop s p)
row_begin s p n e = let z : n - 0 ≡ byte_at s (p + 1) = omega arith in record { rest = rw z (sym (row-stop s p)) }

-- the first of n parts, and the others
first_part : {A : Type 0} (d : A) (n : ℕ) (here : ℕ → A) (stop : ℕ → ℕ) (p : ℕ) → 0 < n → get_or (parts n here stop p) 0 d ≡ here p
unfolding parts
first_part d zero here stop p h = absurd (omega arith)
first_part d (suc n) here stop p h = refl

other-parts : {A : Type 0} (n : ℕ) (here : ℕ → A) (stop : ℕ → ℕ) (p : ℕ) → 0 < n → parts (n - 1) here stop (stop p) ≡ drop 1 (parts n here stop p)
unfolding parts
other-parts zero here stop p h = absurd (omega arith)
other-parts (suc n) here stop p h = let z : suc n - 1 ≡ n = omega arith in rw z

pub other-past : (n : ℕ) (stop : ℕ → ℕ) (p : ℕ) → 0 < n → past (n - 1) stop (stop p) ≡ past n stop p
unfolding past
other-past zero stop p h = absurd (omega arith)
other-past (suc n) stop p h = let z : suc n - 1 ≡ n = omega arith in rw z

first_inside : (n : ℕ) (stop : ℕ → ℕ) (p : ℕ) → Onward stop → 0 < n → stop p ≤ past n stop p
first_inside n stop p o h = let a = past-onward (n - 1) stop (stop p) o in omega (arith, other-past n stop p h)

-- as many as are left
pub rows_number : (s : List ℕ) (c : Rows) → length (rows_in s c) ≡ c.left
unfolding rows_in
rows_number s c = stands.parts-count c.left (row_here s) (row_stop s) c.at

pub cells_number : (s : List ℕ) (c : Cells) → length (cells_in s c) ≡ c.left
unfolding cells_in
cells_number s c = stands.parts-count c.left (cell_here s) (cell_stop s) c.at

pub lines_number : (s : List ℕ) (c : Lines) → length (lines_in s c) ≡ c.left
unfolding lines_in
lines_number s c = stands.parts-count c.left (text_at s) (line_stop s) c.at

-- the first row, and those after it
module _ (s : List ℕ) (c : Rows) (some : 0 < c.left) where
  pub row_inside : row_stop s c.at ≤ rows_end s c
  unfolding rows_end
  row_inside = first_inside c.left (row_stop s) c.at (rows-onward s) some

  pub row_whole : rows_end s c ≤ length s → row_stop s c.at ≤ length s
  row_whole h = let a = row_inside in omega arith

  pub row_room : rows_end s c ≤ length s → c.at + 2 ≤ length s
  row_room h = let a = row-onward s c.at in let b = row_inside in omega arith

  pub row_is : (limit left : ℕ) → limit ≡ byte_at s c.at → left ≡ byte_at s (c.at + 1) → RowIs s c
      (record { limit = limit; cells = record { at = c.at + 2; left = left } })
  unfolding rows_in cells_in cells_end
  row_is limit left e i =
      let f = first_part no_row c.left (row_here s) (row_stop s) c.at some ∙ row_here_lem s c.at in
      record { limit = rw f e; cells = rw (f, i); ends = rw i (sym (row-stop s c.at)) }

  pub rows_next : (p : ℕ) → p ≡ row_stop s c.at → RowsNext s c (record { at = p; left = c.left - 1 })
  unfolding rows_in rows_end
  rows_next p e = record {
    rows = rw e (other-parts c.left (row_here s) (row_stop s) c.at some);
    left = omega arith;
    ends = rw e (other-past c.left (row_stop s) c.at some);
  }

-- the first cell, and those after it
module _ (s : List ℕ) (c : Cells) (some : 0 < c.left) where
  pub cell_inside : cell_stop s c.at ≤ cells_end s c
  unfolding cells_end
  cell_inside = first_inside c.left (cell_stop s) c.at (cells-onward s) some

  pub cell_whole : cells_end s c ≤ length s → cell_stop s c.at ≤ length s
  cell_whole h = let a = cell_inside in omega arith

  pub cell_room : cells_end s c ≤ length s → c.at + 3 ≤ length s
  cell_room h = let a = cell-onward s c.at in let b = cell_inside in omega arith

  pub cell_is : (delimiter alignment left : ℕ) → delimiter ≡ byte_at s c.at → alignment ≡ byte_at s (c.at + 1) → left ≡ byte_at s (c.at + 2)
      → CellIs s c (record { delimiter = delimiter; alignment = alignment; lines = record { at = c.at + 3; left = left } })
  unfolding cells_in lines_in lines_end
  cell_is delimiter alignment left e i j =
      let f = first_part no_cell c.left (cell_here s) (cell_stop s) c.at some ∙ cell-here s c.at in
      record { delimiter = rw f e; alignment = rw f i; lines = rw (f, j); ends = rw j (sym (cell-stop s c.at)) }

  pub cells_next : (p : ℕ) → p ≡ cell_stop s c.at → CellsNext s c (record { at = p; left = c.left - 1 })
  unfolding cells_in cells_end
  cells_next p e = record {
    cells = rw e (other-parts c.left (cell_here s) (cell_stop s) c.at some);
    left = omega arith;
    ends = rw e (other-past c.left (cell_stop s) c.at some);
  }

-- the first line, and those after it
module _ (s : List ℕ) (c : Lines) (some : 0 < c.left) where
  pub line_inside : line_stop s c.at ≤ lines_end s c
  unfolding lines_end
  line_inside = first_inside c.left (line_stop s) c.at (lines-onward s) some

  pub line_whole : lines_end s c ≤ length s → line_stop s c.at ≤ length s
  line_whole h = let a = line_inside in omega arith

  pub line-room : lines_end s c ≤ length s → c.at + 1 + byte_at s c.at ≤ length s
  unfolding line_stop
  line-room h = let b = line_inside in omega arith

  pub line_is : (n : ℕ) → n ≡ byte_at s c.at → take (c.at + 1 + n - (c.at + 1)) (drop (c.at + 1) s) ≡ first_line s c
  unfolding lines_in text_at
  line_is n e =
      let f = first_part [] c.left (text_at s) (line_stop s) c.at some in
      let z : c.at + 1 + n - (c.at + 1) ≡ byte_at s c.at = omega arith in
      rw (z, f)

  pub lines_next : (p : ℕ) → p ≡ line_stop s c.at → LinesNext s c (record { at = p; left = c.left - 1 })
  unfolding lines_in lines_end
  lines_next p e = record {
    lines = rw e (other-parts c.left (text_at s) (line_stop s) c.at some);
    left = omega arith;
    ends = rw e (other-past c.left (line_stop s) c.at some);
  }

-- the cells of a row and the lines of a cell are inside the sheet where the rows and the cells are
pub cells_inside : (s : List ℕ) (c : Rows) (r : Row) → 0 < c.left → rows_end s c ≤ length s → RowIs s c r → cells_end s r.cells ≤ length s
cells_inside s c r some h is = rw is.ends (row_whole s c some h)

pub lines_inside : (s : List ℕ) (c : Cells) (x : Cell) → 0 < c.left → cells_end s c ≤ length s → CellIs s c x → lines_end s x.lines ≤ length s
lines_inside s c x some h is = rw is.ends (cell_whole s c some h)

-- where the walk over the header begins, and that over the rows
pub header_is : (s : List ℕ) (p n : ℕ) → IsAccepted s → p ≡ header_place s → n ≡ byte_at s p
    → (rows_in s (record { at = p + 1; left = n }) ≡ (table_of s).header) × (rows_end s (record { at = p + 1; left = n }) ≡ rows_place s)
unfolding rows_in rows_end
header_is s p n h e i = (rw (table_here_lem s h, i, e) (sym (stands.header-here s)), rw (i, e) (sym (stands.rows_begin s)))

pub rows_are : (s : List ℕ) (p n : ℕ) → IsAccepted s → p ≡ rows_place s → n ≡ byte_at s p
    → (rows_in s (record { at = p + 1; left = n }) ≡ (table_of s).rows) × (rows_end s (record { at = p + 1; left = n }) ≡ length s)
unfolding rows_in rows_end
rows_are s p n h e i =
    let r = held s h in
    (rw (table_here_lem s h, i, e) (sym (stands.rows-here s)), rw (i, e) (sym (stands.rows_end_lem s) ∙ stands.end-place s (table_of s) r.end r.reads))

pub cells-none : (s : List ℕ) (c : Cells) → c.left ≤ 0 → cells_end s c ≡ c.at
unfolding cells_end past
cells-none s c h = let z : c.left ≡ 0 = omega arith in rw z

pub rows_none : (s : List ℕ) (c : Rows) → c.left ≤ 0 → rows_end s c ≡ c.at
unfolding rows_end past
rows_none s c h = let z : c.left ≡ 0 = omega arith in rw z

-- behind the header there is a count
pub rows-room : (s : List ℕ) (c : Rows) → IsAccepted s → rows_end s c ≡ rows_place s → c.left ≤ 0 → c.at < length s
rows-room s c h e l = let r = room s h in let i = rows_none s c l in omega arith

-- ---- cells passed over

-- i of the n cells that are to be passed
pub record Skipping (s : List ℕ) (all c : Cells) (n i : ℕ) : Type 0 where
  pub within : i ≤ n
  pub skipped : CellsSkipped s all i c
  pub inside : cells_end s c ≤ length s

module _ (s : List ℕ) (all : Cells) (n : ℕ) where
  pub skip-again : (c r : Cells) (i : ℕ) → i < n → CellsNext s c r → Skipping s all c n i → Skipping s all r n (i + 1)
  skip-again c r i h next so =
      record {
        within = omega arith;
        skipped = record {
          cells = next.cells ∙ rw so.skipped.cells (drop-drop 1 i (cells_in s all));
          left = omega (arith, next.left, so.skipped.left);
          ends = next.ends ∙ so.skipped.ends;
        };
        inside = omega (arith, next.ends, so.inside);
      }

  -- no cell is left to pass
  pub skip_short : (c : Cells) (i : ℕ) → c.left ≡ 0 → Skipping s all c n i → CellsSkipped s all n c
  skip_short c i z so =
      let h : length (cells_in s all) ≤ n = omega (arith, cells_number s all, so.skipped.left, so.within) in
      let none : length (cells_in s c) ≤ 0 = omega (arith, cells_number s c) in
      record {
        cells = drop_of_length-le (cells_in s c) none ∙ sym (drop_of_length-le (cells_in s all) h);
        left = omega (arith, so.skipped.left, so.within);
        ends = so.skipped.ends;
      }
