-- Heads passed and a line taken: the lines ahead are the same, but for the one that is taken. Assumes nothing.
use Prim.Native.Nat.{ℕ, zero, suc, ◌+◌, ◌-◌, ◌≤◌, ◌<◌, max}
use mathlib.Core.Path.{◌≡◌, ap, sym, ◌∙◌}
use mathlib.Core.List.{List, [], ◌∷◌, ◌++◌, map, append_assoc}
use native.Mathlib.Omega.{arith}
use lib.ListN.{length, get_or, take, drop}
use lib.Seq.{slice}
use Rattle.rules.specs.Text.{flat, text_width}
use Rattle.rules.specs.Sheet.{most_columns}
use Rattle.rules.specs.Widths.{lifted}
use Rattle.rules.specs.CellLines.{InColumn, in_column, lines_of_cells, lines_of_rows}
use Rattle.rules.specs.Places.{byte_at, past, parts, text_at, line_stop, cell_stop, row_stop}
use Rattle.laws.proofs.Text.{width_whole, width-le}
use Rattle.laws.proofs.CellLines.{rows_append}
use Rattle.laws.proofs.Stands.{Onward, past-onward, cell-stop, row-stop, cell-onward, row-onward, lines-onward, cells-onward, rows-onward}
use Rattle.table.specs.Step.{lines_at, cells_at, rows_at, section_stop, in_sections, in_rows, in_cells, ahead, ahead_end, Ready, SameAhead, Takes, AllNarrow}
use Rattle.table.specs.declared.step.Left.{Left}
use Rattle.table.specs.declared.step.Stand.{Stand}
use Rattle.table.proofs.Walks.{other-past}

-- ---- what is left goes on from where it stands

module _ (s : List ℕ) where
  sections-onward : Onward (section_stop s)
  unfolding section_stop
  sections-onward p = omega (arith, past-onward (byte_at s p) (row_stop s) (p + 1) (rows-onward s))

  section-onward : (p : ℕ) → p + 1 ≤ section_stop s p
  unfolding section_stop
  section-onward p = past-onward (byte_at s p) (row_stop s) (p + 1) (rows-onward s)

  rows_end_lem : (m n p : ℕ) → p ≤ past n (section_stop s) (past m (row_stop s) p)
  rows_end_lem m n p =
      omega (arith, past-onward m (row_stop s) p (rows-onward s), past-onward n (section_stop s) (past m (row_stop s) p) sections-onward)

  cells_end : (k m n p : ℕ) → p ≤ past n (section_stop s) (past m (row_stop s) (past k (cell_stop s) p))
  cells_end k m n p = omega (arith, past-onward k (cell_stop s) p (cells-onward s), rows_end_lem m n (past k (cell_stop s) p))

  pub ahead_end_lem : (p : ℕ) (c : Left) → p ≤ ahead_end s p c
  unfolding ahead_end
  ahead_end_lem p c =
      omega (arith, past-onward c.lines (line_stop s) p (lines-onward s), cells_end c.cells c.rows c.sections (past c.lines (line_stop s) p))

  -- ---- a section's head, a row's, a cell's, and a line

  sections-first : (n p : ℕ) → 0 < n → in_rows s (byte_at s p) (n - 1) (p + 1) ≡ in_sections s n p
  unfolding in_sections in_rows rows_at section_stop parts flat
  sections-first zero p h = absurd (omega arith)
  sections-first (suc n) p h =
      let z : suc n - 1 ≡ n = omega arith in
      rw z (sym (rows_append (parts (byte_at s p) (cells_at s) (row_stop s) (p + 1))
      (flat (parts n (rows_at s) (section_stop s) (past (byte_at s p) (row_stop s) (p + 1))))))

  rows-first : (m n p : ℕ) → 0 < m → in_cells s 0 (byte_at s (p + 1)) (m - 1) n (p + 2) ≡ in_rows s m n p
  unfolding in_cells in_rows cells_at parts past flat
  rows-first zero n p h = absurd (omega arith)
  rows-first (suc m) n p h =
      let z : suc m - 1 ≡ m = omega arith in
      rw (z, row-stop s p) (sym (append_assoc (lines_of_cells 0 (parts (byte_at s (p + 1)) (lines_at s) (cell_stop s) (p + 2)))
      (lines_of_rows (parts m (cells_at s) (row_stop s) (past (byte_at s (p + 1)) (cell_stop s) (p + 2))))
      (in_sections s n (past m (row_stop s) (past (byte_at s (p + 1)) (cell_stop s) (p + 2))))))

  cells-first : (j k m n p : ℕ) → 0 < k
      → map (in_column j) (parts (byte_at s (p + 2)) (λ q. q) (line_stop s) (p + 3))
      ++ in_cells s (j + 1) (k - 1) m n (past (byte_at s (p + 2)) (line_stop s) (p + 3)) ≡ in_cells s j k m n p
  unfolding in_cells lines_at parts past lines_of_cells
  cells-first j zero m n p h = absurd (omega arith)
  cells-first j (suc k) m n p h =
      let z : suc k - 1 ≡ k = omega arith in
      let i : j + 1 ≡ suc j = omega arith in
      rw (z, i, cell-stop s p) (sym (append_assoc (map (in_column j) (parts (byte_at s (p + 2)) (λ q. q) (line_stop s) (p + 3)))
      (lines_of_cells (suc j) (parts k (lines_at s) (cell_stop s) (past (byte_at s (p + 2)) (line_stop s) (p + 3))))
      (in_rows s m n (past k (cell_stop s) (past (byte_at s (p + 2)) (line_stop s) (p + 3))))))

  line_first : (l j : ℕ) (p : ℕ) (others : ℕ → List (InColumn ℕ)) → 0 < l
      → map (in_column j) (parts l (λ q. q) (line_stop s) p) ++ others (past l (line_stop s) p)
      ≡ in_column j p ∷ (map (in_column j) (parts (l - 1) (λ q. q) (line_stop s) (line_stop s p)) ++ others (past (l - 1) (line_stop s) (line_stop s p)))
  unfolding parts past
  line_first zero j p others h = absurd (omega arith)
  line_first (suc l) j p others h = let z : suc l - 1 ≡ l = omega arith in rw z

-- a line's bytes, as they are lent, and where they end
line-lent : (s : List ℕ) (p n : ℕ) → n ≡ byte_at s p → take (p + 1 + n - (p + 1)) (drop (p + 1) s) ≡ text_at s p
unfolding text_at
line-lent s p n e = let z : p + 1 + n - (p + 1) ≡ byte_at s p = omega arith in rw z

line-ended : (s : List ℕ) (p n : ℕ) → n ≡ byte_at s p → p + 1 + n ≡ line_stop s p
unfolding line_stop
line-ended s p n e = omega arith

-- ---- what a head says

module _ (s : List ℕ) (p : ℕ) (c : Left) (ready : Ready s p c) where
  -- of a cell
  pub cell_room : c.lines ≡ 0 → 0 < c.cells → p + 3 ≤ length s
  unfolding ahead_end past
  cell_room l h =
      let e : ahead_end s p c ≤ length s = ready.inside in
      let f = rw (l, sym (other-past c.cells (cell_stop s) p h)) at e in
      omega (arith, cell-onward s p, cells_end s (c.cells - 1) c.rows c.sections (cell_stop s p), f)

  pub cell-headed : (n : ℕ) → c.lines ≡ 0 → 0 < c.cells → n ≡ byte_at s (p + 2) → SameAhead s p c (record {
    at = p + 3;
    left = record { sections = c.sections; rows = c.rows; cells = c.cells - 1; begun = c.begun + 1; lines = n };
  })
  unfolding ahead ahead_end parts past
  cell-headed n l h e =
      let z : c.begun + 1 - 1 ≡ c.begun = omega arith in
      record {
        same = rw (l, e, z) (cells-first s c.begun c.cells c.rows c.sections p h);
        ends = rw (l, e, sym (other-past c.cells (cell_stop s) p h), cell-stop s p);
        counted = record { few = omega (arith, ready.counted.few); started = λ i. omega arith };
      }

  -- of a row
  pub row_room : c.lines ≡ 0 → c.cells ≡ 0 → 0 < c.rows → p + 2 ≤ length s
  unfolding ahead_end past
  row_room l k h =
      let e : ahead_end s p c ≤ length s = ready.inside in
      let f = rw (l, k, sym (other-past c.rows (row_stop s) p h)) at e in
      omega (arith, row-onward s p, rows_end_lem s (c.rows - 1) c.sections (row_stop s p), f)

  pub row-headed : (n : ℕ) → c.lines ≡ 0 → c.cells ≡ 0 → 0 < c.rows → n ≡ byte_at s (p + 1) → n < 256 → SameAhead s p c (record {
    at = p + 2;
    left = record { sections = c.sections; rows = c.rows - 1; cells = n; begun = 0; lines = 0 };
  })
  unfolding ahead ahead_end in_cells parts past lines_of_cells
  row-headed n l k h e f = record {
    same = rw (l, k, e) (rows-first s c.rows c.sections p h);
    ends = rw (l, k, e, sym (other-past c.rows (row_stop s) p h), row-stop s p);
    counted = record { few = omega arith; started = λ i. omega arith };
  }

  -- of a section
  pub section-room : c.lines ≡ 0 → c.cells ≡ 0 → c.rows ≡ 0 → 0 < c.sections → p + 1 ≤ length s
  unfolding ahead_end past
  section-room l k m h =
      let e : ahead_end s p c ≤ length s = ready.inside in
      let f = rw (l, k, m, sym (other-past c.sections (section_stop s) p h)) at e in
      omega (arith, section-onward s p, past-onward (c.sections - 1) (section_stop s) (section_stop s p) (sections-onward s), f)

  pub section-headed : (n : ℕ) → c.lines ≡ 0 → c.cells ≡ 0 → c.rows ≡ 0 → 0 < c.sections → n ≡ byte_at s p → SameAhead s p c (record {
    at = p + 1;
    left = record { sections = c.sections - 1; rows = n; cells = 0; begun = 0; lines = 0 };
  })
  unfolding ahead ahead_end in_cells in_rows parts past lines_of_cells flat section_stop
  section-headed n l k m h e = record {
    same = rw (l, k, m, e) (sections-first s c.sections p h);
    ends = rw (l, k, m, e, sym (other-past c.sections (section_stop s) p h));
    counted = record { few = omega arith; started = λ i. omega arith };
  }

  -- ---- a line: it is inside the sheet, and the others are ahead of its end
  line-room : 0 < c.lines → line_stop s p ≤ length s
  unfolding ahead_end
  line-room h =
      let e : ahead_end s p c ≤ length s = ready.inside in
      let f = rw (sym (other-past c.lines (line_stop s) p h)) at e in
      let q = past (c.lines - 1) (line_stop s) (line_stop s p) in
      omega (arith, past-onward (c.lines - 1) (line_stop s) (line_stop s p) (lines-onward s), cells_end s c.cells c.rows c.sections q, f)

  pub line_bytes : 0 < c.lines → p + 1 + byte_at s p ≤ length s
  unfolding line_stop
  line_bytes h = line-room h

  pub line_taken : (before : List ℕ) (n m : ℕ) → 0 < c.lines → n ≡ byte_at s p
      → m ≡ max (get_or before (c.begun - 1) 0) (lifted (text_width (take (p + 1 + n - (p + 1)) (drop (p + 1) s)))) → Takes s before p c (record {
        at = p;
        end = p + 1 + n;
        column = c.begun - 1;
        longest = m;
        left = record { sections = c.sections; rows = c.rows; cells = c.cells; begun = c.begun; lines = c.lines - 1 };
      })
  unfolding ahead ahead_end
  line_taken before n m h e k =
      let i = line-ended s p n e in
      record {
        first = rw i (line_first s c.lines (c.begun - 1) p (in_cells s c.begun c.cells c.rows c.sections) h);
        onward = omega arith;
        ends = i;
        characters = k ∙ ap (λ l. max (get_or before (c.begun - 1) 0) (lifted (text_width l))) (line-lent s p n e);
        inside = rw (i, sym (other-past c.lines (line_stop s) p h));
        counted = record { few = ready.counted.few; started = λ j. ready.counted.started (omega arith) };
      }

-- ---- the longest of some lines and another one

-- one with no more bytes than the longest so far has characters isn't longer
pub line_shorter : (m : ℕ) (t : List ℕ) → max 1 (length t) ≤ m → m ≡ max m (lifted (text_width t))
line_shorter m t h = omega (arith, width-le t)

pub line-counted : (t : List ℕ) (n : ℕ) → n ≡ text_width (slice 0 (length t) t) → (n ≡ text_width t) × (n ≤ length t)
line-counted t n e = let w = width_whole n t e in (w, omega (arith, w, width-le t))

-- ---- heads up to the next line

pub same-again : (s : List ℕ) (p : ℕ) (c : Left) (a b : Stand) → SameAhead s p c a → SameAhead s a.at a.left b → SameAhead s p c b
same-again s p c a b h k = record { same = k.same ∙ h.same; ends = k.ends ∙ h.ends; counted = k.counted }

pub same_ready : (s : List ℕ) (p : ℕ) (c : Left) (a : Stand) → ahead_end s p c ≤ length s → SameAhead s p c a → Ready s a.at a.left
same_ready s p c a h k = record { inside = omega (arith, k.ends); counted = k.counted }

pub same_inside : (s : List ℕ) (p : ℕ) (c : Left) (a : Stand) → ahead_end s p c ≤ length s → SameAhead s p c a → a.at ≤ length s
same_inside s p c a h k = omega (arith, ahead_end_lem s a.at a.left, k.ends)

-- no line is ahead where nothing is left
pub nothing-ahead : (s : List ℕ) (p : ℕ) (c : Left) → c.lines ≡ 0 → c.cells ≤ 0 → c.rows ≤ 0 → c.sections ≤ 0 → ahead s p c ≡ []
unfolding ahead in_cells in_rows in_sections parts past lines_of_cells flat
nothing-ahead s p c l i j h =
    let k : c.cells ≡ 0 = omega arith in
    let m : c.rows ≡ 0 = omega arith in
    let n : c.sections ≡ 0 = omega arith in
    rw (l, k, m, n)

-- the line that comes first is of a column that there can be
pub first_narrow : (s : List ℕ) (c : Left) (a : Stand) → SameAhead s 0 c a → 0 < a.left.lines → AllNarrow (ahead s 0 c)
    → a.left.begun - 1 < most_columns
unfolding ahead
first_narrow s c a h l k =
    let d = a.left in
    let e = line_first s d.lines (d.begun - 1) a.at (in_cells s d.begun d.cells d.rows d.sections) l in
    (rw (sym h.same, e) at k).0
