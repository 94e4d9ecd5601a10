-- The lines ahead in the rest of a sheet are those ahead in the sheet, and what is read of them all are the table's cell lines. Assumes nothing.
use Prim.Native.Nat.{ℕ, ◌+◌, ◌-◌}
use mathlib.Core.Path.{◌≡◌, refl, ap, sym, ◌∙◌}
use mathlib.Core.List.{List, ◌++◌, map, append-nil}
use native.Mathlib.Omega.{arith}
use lib.ListN.{length, take, drop}
use lib.Seq.{get_or-drop, drop-drop}
use Rattle.rules.specs.Text.{flat}
use Rattle.rules.specs.Sheet.{Cell, all_rows}
use Rattle.rules.specs.CellLines.{in_column, on_line, lines_of_cells, lines_of_rows, row_lines, cell_lines}
use Rattle.rules.specs.Places.{byte_at, past, parts, text_at, line_stop, cell_here, cell_stop, row_here, row_stop, header_place, rows_place}
use Rattle.laws.proofs.Lists.{map-append, map-flat}
use Rattle.laws.proofs.CellLines.{on-cell, on_cells, on_rows, rows_append}
use Rattle.laws.proofs.Stands as stands
use Rattle.laws.proofs.Stands.{past-moved, parts-moved, cell-here, cell-stop, row_here_lem, row-stop}
use Rattle.table.specs.Held.{IsAccepted, table_of}
use Rattle.table.specs.Step.{lines_at, cells_at, rows_at, section_stop, in_sections, in_rows, in_cells, ahead, ahead_end}
use Rattle.table.specs.Pass.{start}
use Rattle.table.specs.declared.step.Left.{Left}
use Rattle.table.proofs.Held.{held, table_here_lem}

-- ---- the bytes from a on

module _ (s : List ℕ) (a : ℕ) where
  abbrev rest : List ℕ
  rest = drop a s

  abbrev on : ℕ → ℕ
  on p = a + p

  byte-rest : (p i : ℕ) → byte_at rest (p + i) ≡ byte_at s (a + p + i)
  byte-rest p i = let z : a + (p + i) ≡ a + p + i = omega arith in get_or-drop a s (p + i) 0 ∙ ap (byte_at s) z

  byte-here : (p : ℕ) → byte_at rest p ≡ byte_at s (a + p)
  byte-here p = get_or-drop a s p 0

  pub text-rest : (p : ℕ) → text_at rest p ≡ text_at s (a + p)
  unfolding text_at
  text-rest p =
      let z : a + (p + 1) ≡ a + p + 1 = omega arith in
      rw (byte-here p) (ap (take (byte_at s (a + p))) (drop-drop (p + 1) a s ∙ ap (λ n. drop n s) z))

  pub line-rest : (p : ℕ) → a + line_stop rest p ≡ line_stop s (a + p)
  unfolding line_stop
  line-rest p = omega (arith, byte-here p)

  cell-rest : (p : ℕ) → a + cell_stop rest p ≡ cell_stop s (a + p)
  cell-rest p =
      let z : a + (p + 3) ≡ a + p + 3 = omega arith in
      ap on (cell-stop rest p)
      ∙ (past-moved on (line_stop rest) (line_stop s) line-rest (byte_at rest (p + 2)) (p + 3)
      ∙ (rw (byte-rest p 2, z) (sym (cell-stop s (a + p)))))

  row-rest : (p : ℕ) → a + row_stop rest p ≡ row_stop s (a + p)
  row-rest p =
      let z : a + (p + 2) ≡ a + p + 2 = omega arith in
      ap on (row-stop rest p)
      ∙ (past-moved on (cell_stop rest) (cell_stop s) cell-rest (byte_at rest (p + 1)) (p + 2)
      ∙ (rw (byte-rest p 1, z) (sym (row-stop s (a + p)))))

  section-rest : (p : ℕ) → a + section_stop rest p ≡ section_stop s (a + p)
  unfolding section_stop
  section-rest p =
      let z : a + (p + 1) ≡ a + p + 1 = omega arith in
      past-moved on (row_stop rest) (row_stop s) row-rest (byte_at rest p) (p + 1) ∙ rw (byte-here p, z)

  -- the places of lines, cell by cell, row by row, section by section
  lines_rest : (p : ℕ) → map on (lines_at rest p) ≡ lines_at s (a + p)
  unfolding lines_at
  lines_rest p =
      let z : a + (p + 3) ≡ a + p + 3 = omega arith in
      parts-moved on (λ q. q) (λ q. q) on (line_stop rest) (line_stop s) (λ q. refl) line-rest (byte_at rest (p + 2)) (p + 3) ∙ rw (byte-rest p 2, z)

  cells_rest : (p : ℕ) → map (map on) (cells_at rest p) ≡ cells_at s (a + p)
  unfolding cells_at
  cells_rest p =
      let z : a + (p + 2) ≡ a + p + 2 = omega arith in
      parts-moved (map on) (lines_at rest) (lines_at s) on (cell_stop rest) (cell_stop s) lines_rest cell-rest (byte_at rest (p + 1)) (p + 2)
      ∙ rw (byte-rest p 1, z)

  rows-rest : (p : ℕ) → map (map (map on)) (rows_at rest p) ≡ rows_at s (a + p)
  unfolding rows_at
  rows-rest p =
      let z : a + (p + 1) ≡ a + p + 1 = omega arith in
      parts-moved (map (map on)) (cells_at rest) (cells_at s) on (row_stop rest) (row_stop s) cells_rest row-rest (byte_at rest p) (p + 1)
      ∙ rw (byte-here p, z)

  -- the lines ahead
  sections-ahead : (n p : ℕ) → map (on_line on) (in_sections rest n p) ≡ in_sections s n (a + p)
  unfolding in_sections
  sections-ahead n p =
      on_rows on (flat (parts n (rows_at rest) (section_stop rest) p))
      ∙ ap lines_of_rows (map-flat (map (map on)) (parts n (rows_at rest) (section_stop rest) p)
      ∙ ap flat (parts-moved (map (map (map on))) (rows_at rest) (rows_at s) on (section_stop rest) (section_stop s) rows-rest section-rest n p))

  rows-ahead : (m n p : ℕ) → map (on_line on) (in_rows rest m n p) ≡ in_rows s m n (a + p)
  unfolding in_rows
  rows-ahead m n p =
      map-append (on_line on) (lines_of_rows (parts m (cells_at rest) (row_stop rest) p)) (in_sections rest n (past m (row_stop rest) p))
      ∙ rw (
        on_rows on (parts m (cells_at rest) (row_stop rest) p),
        parts-moved (map (map on)) (cells_at rest) (cells_at s) on (row_stop rest) (row_stop s) cells_rest row-rest m p,
        sections-ahead n (past m (row_stop rest) p),
        past-moved on (row_stop rest) (row_stop s) row-rest m p,
      )

  cells-ahead : (j k m n p : ℕ) → map (on_line on) (in_cells rest j k m n p) ≡ in_cells s j k m n (a + p)
  unfolding in_cells
  cells-ahead j k m n p =
      map-append (on_line on) (lines_of_cells j (parts k (lines_at rest) (cell_stop rest) p)) (in_rows rest m n (past k (cell_stop rest) p))
      ∙ rw (
        on_cells on j (parts k (lines_at rest) (cell_stop rest) p),
        parts-moved (map on) (lines_at rest) (lines_at s) on (cell_stop rest) (cell_stop s) lines_rest cell-rest k p,
        rows-ahead m n (past k (cell_stop rest) p),
        past-moved on (cell_stop rest) (cell_stop s) cell-rest k p,
      )

  pub ahead-rest : (p : ℕ) (c : Left) → map (on_line on) (ahead rest p c) ≡ ahead s (a + p) c
  unfolding ahead
  ahead-rest p c =
      let q = past c.lines (line_stop rest) p in
      map-append (on_line on) (map (in_column (c.begun - 1)) (parts c.lines (λ q. q) (line_stop rest) p))
      (in_cells rest c.begun c.cells c.rows c.sections q)
      ∙ rw (
        on-cell on (c.begun - 1) (parts c.lines (λ q. q) (line_stop rest) p),
        parts-moved on (λ q. q) (λ q. q) on (line_stop rest) (line_stop s) (λ q. refl) line-rest c.lines p,
        cells-ahead c.begun c.cells c.rows c.sections q,
        past-moved on (line_stop rest) (line_stop s) line-rest c.lines p,
      )

  pub end_rest : (p : ℕ) (c : Left) → a + ahead_end rest p c ≡ ahead_end s (a + p) c
  unfolding ahead_end
  end_rest p c =
      let q = past c.lines (line_stop rest) p in
      let r = past c.cells (cell_stop rest) q in
      past-moved on (section_stop rest) (section_stop s) section-rest c.sections (past c.rows (row_stop rest) r)
      ∙ rw (
        past-moved on (row_stop rest) (row_stop s) row-rest c.rows r,
        past-moved on (cell_stop rest) (cell_stop s) cell-rest c.cells q,
        past-moved on (line_stop rest) (line_stop s) line-rest c.lines p,
      )

-- ---- what is read of the lines

module _ (s : List ℕ) where
  abbrev same : ℕ → ℕ
  same p = p

  lines_read : (p : ℕ) → map (text_at s) (lines_at s p) ≡ (cell_here s p).lines
  unfolding lines_at
  lines_read p =
      parts-moved (text_at s) (λ q. q) (text_at s) same (line_stop s) (line_stop s) (λ q. refl) (λ q. refl) (byte_at s (p + 2)) (p + 3)
      ∙ sym (ap (λ (x : Cell). x.lines) (cell-here s p))

  cells_read : (p : ℕ) → map (map (text_at s)) (cells_at s p) ≡ row_lines (row_here s p)
  unfolding cells_at
  cells_read p =
      parts-moved (map (text_at s)) (lines_at s) (λ q. (cell_here s q).lines) same (cell_stop s) (cell_stop s) lines_read (λ q. refl) (byte_at s (p + 1)) (p + 2)
      ∙ (sym (parts-moved (λ (x : Cell). x.lines) (cell_here s) (λ q. (cell_here s q).lines) same (cell_stop s) (cell_stop s) (λ q. refl) (λ q. refl)
      (byte_at s (p + 1)) (p + 2))
      ∙ sym (ap row_lines (row_here_lem s p)))

  rows_read : (p : ℕ) → map (map (map (text_at s))) (rows_at s p) ≡ map row_lines (parts (byte_at s p) (row_here s) (row_stop s) (p + 1))
  unfolding rows_at
  rows_read p =
      parts-moved (map (map (text_at s))) (cells_at s) (λ q. row_lines (row_here s q)) same (row_stop s) (row_stop s) cells_read (λ q. refl) (byte_at s p) (p + 1)
      ∙ sym (parts-moved row_lines (row_here s) (λ q. row_lines (row_here s q)) same (row_stop s) (row_stop s) (λ q. refl) (λ q. refl) (byte_at s p) (p + 1))

  -- the header is a section, and the rows stand behind it
  all-ahead : ahead s (start s).at (start s).left ≡ lines_of_rows (rows_at s (header_place s)) ++ lines_of_rows (rows_at s (rows_place s))
  unfolding ahead in_cells in_rows in_sections rows_at parts past flat lines_of_cells
  all-ahead =
      rw (sym (stands.rows_begin s))
      (ap (λ rs. lines_of_rows (rows_at s (header_place s)) ++ lines_of_rows rs) (append-nil (rows_at s (rows_place s))))

  all_end : ahead_end s (start s).at (start s).left ≡ past (byte_at s (rows_place s)) (row_stop s) (rows_place s + 1)
  unfolding ahead_end past section_stop
  all_end = rw (sym (stands.rows_begin s))

-- "each cell line of header and rows"
pub all_read : (s : List ℕ) → IsAccepted s → map (on_line (text_at s)) (ahead s (start s).at (start s).left) ≡ cell_lines (table_of s)
unfolding cell_lines
all_read s h =
    let header = rows_at s (header_place s) in
    let rows = rows_at s (rows_place s) in
    ap (map (on_line (text_at s))) (all-ahead s ∙ sym (rows_append header rows))
    ∙ (on_rows (text_at s) (header ++ rows)
    ∙ ap lines_of_rows texts)
  where
    texts : map (map (map (text_at s))) (rows_at s (header_place s) ++ rows_at s (rows_place s)) ≡ map row_lines (all_rows (table_of s))
    texts =
        map-append (map (map (text_at s))) (rows_at s (header_place s)) (rows_at s (rows_place s))
        ∙ (rw (rows_read s (header_place s), rows_read s (rows_place s), table_here_lem s h, stands.header-here s, stands.rows-here s)
        (sym (map-append row_lines (parts (byte_at s (header_place s)) (row_here s) (row_stop s) (header_place s + 1))
        (parts (byte_at s (rows_place s)) (row_here s) (row_stop s) (rows_place s + 1)))))

pub all_inside : (s : List ℕ) → IsAccepted s → ahead_end s (start s).at (start s).left ≡ length s
all_inside s h =
    let r = held s h in
    all_end s ∙ (sym (stands.rows_end_lem s) ∙ stands.end-place s (table_of s) r.end r.reads)
