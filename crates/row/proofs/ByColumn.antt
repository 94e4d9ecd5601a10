-- A row's cells in the visible columns, one after another. Assumes nothing.
use Prim.Native.Nat.{ℕ, zero, suc, ◌+◌, ◌-◌, ◌≤◌, ◌<◌}
use mathlib.Core.Path.{◌≡◌, refl, sym, ap, subst, ◌∙◌}
use mathlib.Core.List.{List, [], ◌∷◌}
use mathlib.Core.Bool.{Bool}
use native.Mathlib.Omega.{arith}
use native.Mathlib.Numerals.{add-one}
use lib.ListN.{length, drop, get_or, length-drop}
use lib.Seq.{get_or-drop}
use Rattle.rules.specs.Text.{All}
use Rattle.rules.specs.Sheet.{Cell, no_cell}
use Rattle.laws.proofs.Lists.{all_drop}
use Rattle.table.specs.Walk.{cells_in, cells_end, first_cell}
use Rattle.table.specs.declared.records.Cells.{Cells}
use Rattle.row.specs.View.{View, no_column, visible_at}
use Rattle.row.specs.Open.{CellKnown, RisingFrom}
use Rattle.row.specs.Visible.{cells_by, cells_left, KnownLeft, Begins, Gives}
use Rattle.row.specs.declared.VisibleColumn.{VisibleColumn}
use Rattle.row.specs.declared.visible.VisibleCells.{VisibleCells}

-- the cells from column m on, by those from column n on
numbered : (xs : List Cell) (n m : ℕ) (vs : View) → n ≤ m → ((i : ℕ) → i < length vs → m ≤ (visible_at vs i).number)
    → cells_by (drop (m - n) xs) m vs ≡ cells_by xs n vs
numbered xs n m [] h r = refl
numbered xs n m (v ∷ vs) h r =
    let e : (m - n) + (v.number - m) ≡ v.number - n = omega (arith, r 0 (omega arith)) in
    let x : get_or (drop (m - n) xs) (v.number - m) no_cell ≡ get_or xs (v.number - n) no_cell =
    get_or-drop (m - n) xs (v.number - m) no_cell ∙ ap (λ k. get_or xs k no_cell) e in
    rw (x, numbered xs n m vs h (λ i l. r (suc i) (omega arith)))

-- none of the columns after v comes before it
pub rising-next : (n : ℕ) (v : VisibleColumn) (view vs : View) → view ≡ v ∷ vs → RisingFrom n view → RisingFrom v.number vs
rising-next n v view vs V O i k h l =
    let R : RisingFrom n (v ∷ vs) = subst (RisingFrom n) V O in
    ((R 0 (suc i) (omega arith) (omega arith)).1, (R (suc i) (suc k) (omega arith) (omega arith)).1)

module _ (s : List ℕ) (left next : Cells) (n : ℕ) (v : VisibleColumn) (view vs : View) (V : view ≡ v ∷ vs) (O : RisingFrom n view)
    (e : cells_in s next ≡ drop (v.number - n) (cells_in s left)) where
  from_next : n ≤ v.number
  from_next = ((subst (RisingFrom n) V O) 0 0 (omega arith) (omega arith)).0

  pub cells-next : cells_by (cells_in s left) n view ≡ (v, first_cell s next) ∷ cells_by (cells_in s next) v.number vs
  cells-next =
      let xs = cells_in s left in
      let k = v.number - n in
      let z : k + 0 ≡ k = omega arith in
      let x : first_cell s next ≡ get_or xs k no_cell = ap (λ l. get_or l 0 no_cell) e ∙ get_or-drop k xs 0 no_cell ∙ ap (λ q. get_or xs q no_cell) z in
      let y : cells_by (cells_in s next) v.number vs ≡ cells_by xs n vs =
      ap (λ l. cells_by l v.number vs) e ∙ numbered xs n v.number vs from_next (λ i l. (rising-next n v view vs V O i i (omega arith) l).0) in
      ap (cells_by xs n) V ∙ rw (x, y)

  pub known-next : (plain : Bool) → All (CellKnown plain) (cells_in s left) → All (CellKnown plain) (cells_in s next)
  known-next plain k = subst (All (CellKnown plain)) (sym e) (all_drop (CellKnown plain) (v.number - n) (cells_in s left) k)

-- ---- the columns one after another

length_by : (xs : List Cell) (n : ℕ) (vs : View) → length (cells_by xs n vs) ≡ length vs
length_by xs n [] = refl
length_by xs n (v ∷ vs) = ap suc (length_by xs n vs)

-- from the one of visible column i on
from_column : (xs : List Cell) (n : ℕ) (vs : View) (i : ℕ) → i < length vs
    → drop i (cells_by xs n vs) ≡ (visible_at vs i, get_or xs ((visible_at vs i).number - n) no_cell) ∷ drop (suc i) (cells_by xs n vs)
from_column xs n [] i h = absurd (omega arith)
from_column xs n (v ∷ vs) zero h = refl
from_column xs n (v ∷ vs) (suc i) h = from_column xs n vs i (omega arith)

-- the cells xs are walked up to visible column i
pub record Walking (s : List ℕ) (view : View) (xs : List Cell) (c : VisibleCells) (i : ℕ) : Type 0 where
  pub within : i ≤ length view
  pub sheet : c.sheet.now ≡ s
  pub left : cells_left c ≡ drop i (cells_by xs 0 view)

pub walking_begins : (s : List ℕ) (view : View) (cells : Cells) (c : VisibleCells) → Begins s view cells c → Walking s view (cells_in s cells) c 0
walking_begins s view cells c B = record { within = omega arith; sheet = B.sheet; left = B.left }

-- the next is visible column i with its cell
pub record Here (s : List ℕ) (view : View) (xs : List Cell) (v : VisibleColumn) (cells : Cells) (i : ℕ) : Type 0 where
  pub within : i < length view
  pub column : v ≡ visible_at view i
  pub cell : first_cell s cells ≡ get_or xs (visible_at view i).number no_cell
  pub inside : cells_end s cells ≤ length s

module _ (s : List ℕ) (view : View) (xs : List Cell) (c d : VisibleCells) (i : ℕ) (W : Walking s view xs c i) where
  module _ (v : VisibleColumn) (cells : Cells) (G : Gives c v cells d) where
    next-is : cells_left c ≡ (v, first_cell s cells) ∷ cells_left d
    next-is = G.next ∙ ap (λ t. (v, first_cell t cells) ∷ cells_left d) W.sheet

    more : i < length view
    more =
        let l = length-drop i (cells_by xs 0 view) in
        omega (arith, l, length_by xs 0 view, ap length (sym W.left ∙ next-is))

    lists : (visible_at view i, get_or xs ((visible_at view i).number - 0) no_cell) ∷ drop (suc i) (cells_by xs 0 view) ≡ (v, first_cell s cells) ∷ cells_left d
    lists = sym (from_column xs 0 view i more) ∙ (sym W.left ∙ next-is)

    pub walked-here : Here s view xs v cells i
    walked-here =
        let e = ap (λ l. get_or l 0 (no_column, no_cell)) lists in
        let z : (visible_at view i).number - 0 ≡ (visible_at view i).number = omega arith in
        record {
          within = more;
          column = sym (ap (λ p. p.0) e);
          cell = sym (ap (λ p. p.1) e) ∙ ap (λ k. get_or xs k no_cell) z;
          inside = rw W.sheet at G.inside;
        }

    pub known-here : (plain : Bool) → KnownLeft plain c → All (CellKnown plain) (cells_in s cells)
    known-here plain k = subst (λ t. All (CellKnown plain) (cells_in t cells)) W.sheet (G.known plain k)

    pub walking-on : Walking s view xs d (i + 1)
    walking-on = record {
      within = omega (arith, more);
      sheet = G.sheet ∙ W.sheet;
      left = rw (add-one i) (sym (ap (drop 1) lists));
    }

-- all are walked
pub walking_done : (s : List ℕ) (view : View) (xs : List Cell) (c : VisibleCells) (i : ℕ) → Walking s view xs c i → cells_left c ≡ [] → i ≡ length view
walking_done s view xs c i W e =
    let l = length-drop i (cells_by xs 0 view) in
    omega (arith, W.within, l, length_by xs 0 view, ap length (sym W.left ∙ e))
