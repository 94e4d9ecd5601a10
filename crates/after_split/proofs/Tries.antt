-- What is found so far and what is still to come make the whole: one law for each way out of the walk's functions. Assumes nothing.
use Prim.Native.Nat.{ℕ, ◌+◌, ◌-◌, ◌≤◌, ◌<◌, max}
use mathlib.Core.Path.{◌≡◌, refl, sym, ap, ◌∙◌}
use mathlib.Core.List.{List, [], ◌∷◌}
use mathlib.Core.Bool.{Bool, true, false}
use native.Mathlib.Omega.{arith}
use lib.ListN.{length, get_or, drop, drop_of_length-le}
use lib.Dec.{leb, ltb}
use lib.Seq.{drop-cons, get_or-drop}
use borrow.Author.Tests.{leb-true, leb-false, ltb-true, ltb-false}
use Rattle.rules.specs.Text.{or_else}
use Rattle.rules.specs.Sheet as sheet
use Rattle.rules.specs.Sheet.{Table, no_cell, no_row, column_at}
use Rattle.rules.specs.Widths.{lifted, shorter_by3, longest_part}
use Rattle.rules.specs.Places.{rows_place}
use Rattle.rules.specs.declared.Column.{Column}
use Rattle.table.specs.Walk.{rows_in, cells_in, lines_in, rows_end, first_row, first_cell, first_line, RowIs, CellIs, LinesNext, CellsSkipped}
use Rattle.table.specs.declared.records.Rows.{Rows}
use Rattle.table.specs.declared.records.Cells.{Cells}
use Rattle.table.specs.declared.records.Lines.{Lines}
use Rattle.table.specs.declared.records.Row.{Row}
use Rattle.table.specs.declared.records.Cell.{Cell}
use Rattle.table.proofs.Walks.{lines_number, cells_number, rows_number, cells-none, rows_none, rows_next}
use Rattle.after_split.specs.declared.Tried.{Tried}
use Rattle.after_split.specs.Known.{LinesKnown, RowsKnown}
use Rattle.after_split.proofs.Knowns.{lines_known, rows_known}
use Rattle.after_split.specs.Trial.{of_line, of_lines, of_cells, of_rows, otherwise, RowTried, Enough, RowsTried}
use Rattle.after_split.proofs.Trials.{lines_cons, lines-nil, cells_there, cells_short, rows-le, rows_append, longest-part, shorter_kept}

-- a list of as many as are left
nothing : {A : Type 0} (l : List A) → length l ≤ 0 → l ≡ []
nothing l h = drop_of_length-le l h

-- ---- what is enough

-- all of it, or a part after which the walk ended
whole_enough : (a n m : ℕ) → m ≡ n → Enough a n m
whole_enough a n m e = record { part = omega arith; all = λ k. e }

-- b is what the test for an early end answered
module _ (a m : ℕ) (b : Bool) (e : b ≡ ltb a (m + 3)) where
  saves-three : b ≡ false → m + 3 ≤ a
  saves-three f = ltb-false a (m + 3) (sym e ∙ f)

  pub saves-some : b ≡ false → 0 < a
  saves-some f = omega (arith, saves-three f)

  saves_less : {A : Type 0} → b ≡ true → m + 3 ≤ a → A
  saves_less t k = absurd (omega (arith, ltb-true a (m + 3) (sym e ∙ t)))

  part_enough : (n : ℕ) → b ≡ true → m ≤ n → Enough a n m
  part_enough n t h = record { part = h; all = saves_less t }

-- what is enough is offered, or not, as the longest part is
pub enough_spares : (a n m : ℕ) → Enough a n m → shorter_by3 m a ≡ shorter_by3 n a
enough_spares a n m e = go (leb (m + 3) a) refl
  where
    go : (b : Bool) → leb (m + 3) a ≡ b → shorter_by3 m a ≡ shorter_by3 n a
    go true t = ap (λ (k : ℕ). shorter_by3 k a) (e.all (leb-true (m + 3) a t))
    go false t = let l = leb-false (m + 3) a t in sym (shorter_kept a m l) ∙ shorter_kept a n (omega (arith, e.part))

-- ---- lines

-- m is the longest part of the lines before c, and n of what was before them
pub record LinesSoFar (s : List ℕ) (a d n : ℕ) (all c : Lines) (m : ℕ) : Type 0 where
  pub whole : max m (of_lines a d (lines_in s c)) ≡ max n (of_lines a d (lines_in s all))
  pub known : LinesKnown s d c

module _ (s : List ℕ) (a d n : ℕ) (all : Lines) where
  pub lines-again : (c r : Lines) (l : List ℕ) (m k : ℕ) → 0 < c.left → l ≡ first_line s c → k ≡ max m (of_line a d l) → LinesNext s c r
      → LinesSoFar s a d n all c m → LinesSoFar s a d n all r k
  lines-again c r l m k some f q next so =
      let w = drop-cons (lines_in s c) 0 [] (omega (arith, lines_number s c)) in
      let g : of_lines a d (lines_in s c) ≡ max (of_line a d l) (of_lines a d (lines_in s r)) = ap (of_lines a d) w
      ∙ lines_cons a d (first_line s c) (drop 1 (lines_in s c)) ∙ rw (f, next.lines) in
      record { whole = omega (arith, so.whole, g); known = lines_known s d c r next so.known }

  pub lines_done : (c : Lines) (m : ℕ) → c.left ≤ 0 → LinesSoFar s a d n all c m → Enough a (max n (of_lines a d (lines_in s all))) m
  lines_done c m h so =
      let z = ap (of_lines a d) (nothing (lines_in s c) (omega (arith, lines_number s c))) in
      whole_enough a _ m (omega (arith, so.whole, z, lines-nil a d))

-- ---- a row

module _ (s : List ℕ) (all : Cells) (j a d before : ℕ) (c : Cells) (skipped : CellsSkipped s all j c) where
  pub row_short : c.left ≡ 0 → RowTried s all j a d before (record { longest = before; end = c.at })
  row_short z =
      let none = cells_short j a d (cells_in s all) (omega (arith, cells_number s all, skipped.left)) in
      record {
        longest = whole_enough a _ before (omega (arith, none));
        ends = λ k. sym (cells-none s c (omega arith)) ∙ skipped.ends;
      }

  module _ (x : Cell) (e m : ℕ) (n : c.left ≡ 0 → ⊥) (is : CellIs s c x) (q : e ≡ or_else x.delimiter d)
      (f : Enough a (max before (of_lines a e (lines_in s x.lines))) m) (b : Bool) (u : b ≡ ltb a (m + 3)) where
    row-cell : Enough a (max before (of_cells j a d (cells_in s all))) m
    row-cell =
        let k = cells_number s all in
        let z : j + 0 ≡ j = omega arith in
        let here : first_cell s c ≡ get_or (cells_in s all) j no_cell = rw skipped.cells (get_or-drop j (cells_in s all) 0 no_cell ∙ rw z) in
        rw (cells_there j a d (cells_in s all) (omega (arith, skipped.left)), ← here, ← is.delimiter, ← is.lines, ← q) f

    pub row_enough : (l : ℕ) → b ≡ true → RowTried s all j a d before (record { longest = m; end = l })
    row_enough l t = record { longest = row-cell; ends = saves_less a m b u t }

    pub row_there : (last : Cells) → CellsSkipped s c c.left last → RowTried s all j a d before (record { longest = m; end = last.at })
    row_there last rest = record { longest = row-cell; ends = λ k. sym (cells-none s last (omega (arith, rest.left))) ∙ rest.ends ∙ skipped.ends }

-- ---- rows

rows-cons : (j a d : ℕ) (r : sheet.Row) (rs : List sheet.Row) → of_rows j a d (r ∷ rs) ≡ max (of_cells j a d r.cells) (of_rows j a d rs)
unfolding of_rows
rows-cons j a d r rs = refl

rows-nil : (j a d : ℕ) → of_rows j a d [] ≡ 0
unfolding of_rows
rows-nil j a d = refl

-- m is the longest part in the rows before c
pub record RowsSoFar (s : List ℕ) (j a d : ℕ) (all c : Rows) (m : ℕ) : Type 0 where
  pub whole : max m (of_rows j a d (rows_in s c)) ≡ of_rows j a d (rows_in s all)
  pub ends : rows_end s c ≡ rows_end s all
  pub known : RowsKnown s d c

module _ (s : List ℕ) (j a d : ℕ) (all : Rows) where
  -- the walk ends after a row, or goes on
  module _ (c : Rows) (row : Row) (found : Tried) (m : ℕ) (some : 0 < c.left) (is : RowIs s c row) (tried : RowTried s row.cells j a d m found)
      (so : RowsSoFar s j a d all c m) (b : Bool) (u : b ≡ ltb a (found.longest + 3)) where
    rows-first : of_rows j a d (rows_in s c) ≡ max (of_cells j a d (cells_in s row.cells)) (of_rows j a d (drop 1 (rows_in s c)))
    rows-first =
        let w = drop-cons (rows_in s c) 0 no_row (omega (arith, rows_number s c)) in
        ap (of_rows j a d) w ∙ rows-cons j a d (first_row s c) (drop 1 (rows_in s c)) ∙ rw is.cells

    pub rows_enough : b ≡ true → RowsTried s all j a d found
    rows_enough t = record {
      longest = part_enough a found.longest b u _ t (omega (arith, so.whole, rows-first, tried.longest.part));
      ends = saves_less a found.longest b u t;
    }

    pub rows-again : b ≡ false → RowsSoFar s j a d all (record { at = found.end; left = c.left - 1 }) found.longest
    rows-again f =
        let l = saves-three a found.longest b u f in
        let next = rows_next s c some found.end (tried.ends l ∙ is.ends) in
        let g : of_rows j a d (rows_in s (record { at = found.end; left = c.left - 1 })) ≡ of_rows j a d (drop 1 (rows_in s c)) = ap (of_rows j a d)
        next.rows in
        record {
          whole = omega (arith, so.whole, rows-first, g, tried.longest.all l);
          ends = next.ends ∙ so.ends;
          known = rows_known s d c _ next so.known;
        }

  pub rows_done : (c : Rows) (m : ℕ) → c.left ≤ 0 → RowsSoFar s j a d all c m → RowsTried s all j a d (record { longest = m; end = c.at })
  rows_done c m h so =
      let z = ap (of_rows j a d) (nothing (rows_in s c) (omega (arith, rows_number s c))) in
      record { longest = whole_enough a _ m (omega (arith, so.whole, z, rows-nil j a d)); ends = λ k. sym (rows_none s c h) ∙ so.ends }

-- ---- the whole

-- the header's walk ends where the rows' count stands
pub header-behind : (s : List ℕ) (c : Rows) (j a d : ℕ) (r : Tried) (b : Bool) → b ≡ ltb a (r.longest + 3) → b ≡ false → RowsTried s c j a d r
    → rows_end s c ≡ rows_place s → rows_end s (record { at = r.end; left = 0 }) ≡ rows_place s
header-behind s c j a d r b q f tried e = rows_none s (record { at = r.end; left = 0 }) (omega arith) ∙ tried.ends (saves-three a r.longest b q f) ∙ e

-- m of the header and n of the rows
both_enough : (a x y m n : ℕ) → Enough a x m → Enough a y n → Enough a (max x y) (max m n)
both_enough a x y m n e f = record { part = omega (arith, e.part, f.part); all = λ k. omega (arith, e.all (omega arith), f.all (omega arith)) }

-- no longer than what lines are split at
pub tried-le : (s : List ℕ) (j a d : ℕ) (c : Rows) (r : Tried) → RowsTried s c j a d r → r.longest ≤ lifted a
tried-le s j a d c r x = omega (arith, x.longest.part, rows-le j a d (rows_in s c))

-- after the header alone, and after header and rows
module _ (s : List ℕ) (j a d : ℕ) (h : Rows) (first : Tried) (x : RowsTried s h j a d first) (t : Table) (f : rows_in s h ≡ t.header)
    (o : d ≡ otherwise t j) where
  both : longest_part t j a ≡ max (of_rows j a d (rows_in s h)) (of_rows j a d t.rows)
  both = longest-part t j a ∙ rw (← o, f) (rows_append j a d t.header t.rows)

  pub tried_header : (b : Bool) → b ≡ ltb a (first.longest + 3) → b ≡ true → shorter_by3 first.longest a ≡ shorter_by3 (longest_part t j a) a
  tried_header b e k = enough_spares a (longest_part t j a) first.longest (part_enough a first.longest b e _ k (omega (arith, both, x.longest.part)))

  pub tried_both : (c : Rows) (others : Tried) (m : ℕ) → RowsTried s c j a d others → m ≡ max first.longest others.longest → rows_in s c ≡ t.rows
      → shorter_by3 m a ≡ shorter_by3 (longest_part t j a) a
  tried_both c others m y e g =
      enough_spares a (longest_part t j a) m (rw (e, both, ← g) (both_enough a _ _ _ _ x.longest y.longest))

-- the delimiter where a cell sets none
pub otherwise_is : (t : Table) (j : ℕ) (c : Column) (q : ℕ) → c ≡ column_at t j → q ≡ or_else c.delimiter (or_else t.delimiter 32) → q ≡ otherwise t j
otherwise_is t j c q e f = f ∙ rw e
