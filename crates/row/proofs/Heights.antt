-- How many lines a row's cells have, column by column. Assumes nothing.
use Prim.Native.Nat.{ℕ, ◌+◌, ◌*◌, ◌≤◌, max}
use mathlib.Core.Path.{◌≡◌, refl, sym, ap, ◌∙◌}
use mathlib.Core.List.{List, []}
use mathlib.Core.Bool.{Bool}
use native.Mathlib.Omega.{arith}
use native.Mathlib.Nat.{mul-suc}
use native.Mathlib.Numerals.{add-one}
use lib.ListN.{length, get_or}
use Rattle.rules.specs.Text.{All, or_else}
use Rattle.rules.specs.Sheet.{Cell, no_cell}
use Rattle.rules.specs.Wrap.{wrap_lines}
use Rattle.laws.proofs.Text.{width-nil}
use Rattle.laws.proofs.RowBytes.{pairs_of}
use Rattle.table.specs.Walk.{cells_in, lines_in, first_cell, CellIs}
use Rattle.table.specs.declared.records.Cells.{Cells}
use Rattle.table.specs.declared.records.Cell as records
use Rattle.row.specs.View.{View, visible_at}
use Rattle.row.specs.Open.{CellKnown}
use Rattle.row.specs.Visible.{cells_left, KnownLeft, Begins, Gives}
use Rattle.row.specs.Height.{cell_height, height_up_to, added_up_to}
use Rattle.row.specs.declared.VisibleColumn.{VisibleColumn}
use Rattle.row.specs.declared.visible.VisibleCells.{VisibleCells}
use Rattle.row.proofs.Open.{blank-line, no_cells}
use Rattle.row.proofs.ByColumn.{Walking, walking_begins, walked-here, walking-on, walking_done}

-- ---- one cell

-- a missing cell
pub height-missing : (s : List ℕ) (c : Cells) (v : VisibleColumn) → c.left ≡ 0 → 1 ≡ cell_height (first_cell s c) v
unfolding cell_height
height-missing s c v h = rw (no_cells s c h) (sym (ap length (blank-line v.width v.delimiter)))

pub height-here : (s : List ℕ) (c : Cells) (x : records.Cell) → CellIs s c x → (v : VisibleColumn) (d n : ℕ)
    → d ≡ or_else x.delimiter v.delimiter → n ≡ length (wrap_lines v.width d (lines_in s x.lines)) → n ≡ cell_height (first_cell s c) v
unfolding cell_height
height-here s c x X v d n e f =
    let y : d ≡ or_else (first_cell s c).delimiter v.delimiter = e ∙ ap (λ m. or_else m v.delimiter) X.delimiter in
    f ∙ rw (X.lines, y)

-- ---- the columns of a row

-- the columns before i are measured
pub record Measuring (plain : Bool) (s : List ℕ) (view : View) (xs : List Cell) (c : VisibleCells) (most i : ℕ) : Type 0 where
  pub walking : Walking s view xs c i
  pub known : KnownLeft plain c
  pub tall : most ≡ height_up_to xs view i

module _ (plain : Bool) (s : List ℕ) (view : View) where
  pub measuring_begins : (cells : Cells) (c : VisibleCells) → Begins s view cells c → All (CellKnown plain) (cells_in s cells)
      → Measuring plain s view (cells_in s cells) c 0 0
  unfolding height_up_to
  measuring_begins cells c B k = record { walking = walking_begins s view cells c B; known = B.known plain k; tall = refl }

  pub measuring-on : (xs : List Cell) (c d : VisibleCells) (most i : ℕ) → Measuring plain s view xs c most i → (v : VisibleColumn) (cells : Cells) → Gives c v cells d
      → (n m k : ℕ) → n ≡ cell_height (first_cell s cells) v → m ≡ max most n → k ≡ i + 1 → Measuring plain s view xs d m k
  unfolding height_up_to
  measuring-on xs c d most i M v cells G n m k o x e =
      rw e
      (let H = walked-here s view xs c d i M.walking v cells G in
      record {
        walking = walking-on s view xs c d i M.walking v cells G;
        known = G.still plain M.known;
        tall = rw (add-one i) (x ∙ rw (M.tall, o, H.cell, H.column));
      })

  pub measuring_done : (xs : List Cell) (c : VisibleCells) (most i : ℕ) → Measuring plain s view xs c most i → cells_left c ≡ [] → most ≡ height_up_to xs view (length view)
  measuring_done xs c most i M e = M.tall ∙ ap (height_up_to xs view) (walking_done s view xs c i M.walking e)

-- ---- pairs

pub pairs-missing : (s : List ℕ) (c : Cells) → c.left ≡ 0 → (0 ≡ pairs_of (first_cell s c).lines) × (0 ≤ length s)
unfolding pairs_of
pairs-missing s c h = (rw (no_cells s c h) (omega (arith, width-nil)), omega arith)

-- the columns before i are counted, none of them by more than `most`
pub record Adding (f : Cell → VisibleColumn → ℕ) (most : ℕ) (s : List ℕ) (view : View) (xs : List Cell) (c : VisibleCells) (sum i : ℕ) : Type 0 where
  pub walking : Walking s view xs c i
  pub total : sum ≡ added_up_to f xs view i
  pub small : sum ≤ most * i

module _ (f : Cell → VisibleColumn → ℕ) (most : ℕ) (s : List ℕ) (view : View) where
  pub adding_begins : (cells : Cells) (c : VisibleCells) → Begins s view cells c → Adding f most s view (cells_in s cells) c 0 0
  unfolding added_up_to
  adding_begins cells c B = record { walking = walking_begins s view cells c B; total = refl; small = omega arith }

  module _ (xs : List Cell) (c : VisibleCells) (sum i : ℕ) (A : Adding f most s view xs c sum i) where
    pub adding-on : (d : VisibleCells) (v : VisibleColumn) (cells : Cells) → Gives c v cells d → (n k : ℕ) → (n ≡ f (first_cell s cells) v) × (n ≤ most)
        → k ≡ i + 1 → Adding f most s view xs d (sum + n) k
    unfolding added_up_to
    adding-on d v cells G n k o z =
        rw z
        (let H = walked-here s view xs c d i A.walking v cells G in
        let e : n ≡ f (get_or xs (visible_at view i).number no_cell) (visible_at view i) = rw (H.cell, H.column) at o.0 in
        record {
          walking = walking-on s view xs c d i A.walking v cells G;
          total = rw (add-one i) (omega (arith, A.total, e));
          small = more_room most i (omega (arith, A.small, o.1));
        })
      where
        more_room : (m i : ℕ) → sum + n ≤ m * i + m → sum + n ≤ m * (i + 1)
        more_room m i h = rw (add-one i, mul-suc m i) (omega arith)

    pub adding_done : cells_left c ≡ [] → (sum ≡ added_up_to f xs view (length view)) × (sum ≤ most * length view)
    adding_done h = let e = walking_done s view xs c i A.walking h in (rw e at A.total, rw e at A.small)
