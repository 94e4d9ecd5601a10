-- A row's cells opened, exit by exit and column by column. Assumes nothing.
use Prim.Native.Nat.{ℕ, zero, suc, ◌+◌, ◌≤◌, ◌<◌}
use mathlib.Core.Path.{◌≡◌, refl, sym, ap, subst, ◌∙◌}
use mathlib.Core.List.{List, [], ◌∷◌}
use mathlib.Core.Logic.{inl, inr, ⊎_elim}
use mathlib.Core.Bool.{Bool, true, false, ◌||◌}
use native.Mathlib.Omega.{arith}
use native.Mathlib.Numerals.{add-one}
use native.Mathlib.Nat.{eq-or-lt_of_le}
use lib.ListN.{length, drop, get_or, set, length-set}
use lib.Seq.{get_or-set_same, get_or-set_other, drop-nil}
use lib.Dec.{eqb}
use borrow.Author.Tests.{ne_eqb}
use Rattle.rules.specs.Text.{All, or_else}
use Rattle.rules.specs.Limits.{Printable, Optional}
use Rattle.rules.specs.Sheet.{Cell, no_cell, most_columns}
use Rattle.rules.specs.Wrap.{wrap_lines}
use Rattle.laws.proofs.Text.{width-nil}
use Rattle.laws.proofs.Split.{wrap_short}
use Rattle.rules.specs.Places.{past, parts}
use Rattle.cells.specs.Cell.{TextIs, rest, FirstOf, Further}
use Rattle.cells.specs.declared.Next.{Next}
use Rattle.cells.proofs.Laws.{rest-none, wrap_more, wrap-none, first_others}
use Rattle.table.proofs.Walks.{cells_number}
use Rattle.table.specs.Walk.{cells_in, lines_in, lines_end, first_cell, CellIs}
use Rattle.table.specs.declared.records.Cells.{Cells}
use Rattle.table.specs.declared.records.Cell as records
use Rattle.row.specs.Alignment.{aligned}
use Rattle.row.specs.View.{View, visible_at}
use Rattle.row.specs.Pending.{no_pending, pending_at, any_found, remaining}
use Rattle.row.specs.Open.{CellKnown, OpenedAt, missing}
use Rattle.row.specs.Visible.{KnownLeft, Begins, Gives}
use Rattle.row.specs.declared.visible.VisibleCells.{VisibleCells}
use Rattle.row.specs.declared.VisibleColumn.{VisibleColumn}
use Rattle.row.specs.declared.Pending.{Pending}
use Rattle.row.proofs.Stand.{stands_next, same_below}
use Rattle.row.proofs.ByColumn.{Walking, walking_begins, walked-here, walking-on}

-- ---- one cell

pub blank-line : (w d : ℕ) → wrap_lines w d ([] ∷ []) ≡ [] ∷ []
blank-line w d = wrap_more w d [] [] ∙ rw (wrap_short w d [] (omega (arith, width-nil)), wrap-none w d)

pub no_cells : (s : List ℕ) (c : Cells) → c.left ≡ 0 → first_cell s c ≡ no_cell
unfolding cells_in parts
no_cells s c h = rw h

-- of one blank line, what comes from line n on
only-first : (n : ℕ) (ls : List (List ℕ)) → ls ≡ [] → elim (eqb n 0) as (λ b. List (List ℕ)) [ true ↦ [] ∷ ls | false ↦ [] ] ≡ drop {A = List ℕ} n ([] ∷ [])
only-first zero ls e = ap (λ l. [] ∷ l) e
only-first (suc n) ls e = rw (ne_eqb (suc n) 0 (λ z. omega arith)) (sym (drop-nil n))

-- a cell's delimiter, or its column's
pub or-printable : (a b : ℕ) → Optional a → Printable b → Printable (or_else a b)
or-printable zero b o p = p
or-printable (suc a) b (inl e) p = absurd (omega arith)
or-printable (suc a) b (inr h) p = h

-- the first of some cells is known as they all are
pub cell_known : (plain : Bool) (s : List ℕ) (c : Cells) → 0 < c.left → All (CellKnown plain) (cells_in s c) → CellKnown plain (first_cell s c)
cell_known plain s c h k = (subst (All (CellKnown plain)) (first_others no_cell (cells_in s c) (omega (arith, cells_number s c))) k).0

module _ (plain : Bool) (s : List ℕ) (c : Cells) (x : records.Cell) (X : CellIs s c x) (K : CellKnown plain (first_cell s c)) where
  pub texts-here : All (TextIs plain) (lines_in s x.lines)
  texts-here = rw X.lines K.texts

  pub delimiter-here : (v : VisibleColumn) (d : ℕ) → Printable v.delimiter → d ≡ or_else x.delimiter v.delimiter → Printable d
  delimiter-here v d p e = rw (e, X.delimiter) (or-printable (first_cell s c).delimiter v.delimiter K.delimiter p)

-- a missing cell
pub opened-missing : (s : List ℕ) (c : Cells) (v : VisibleColumn) (n : ℕ) (plain : Bool) → 0 < v.width → Printable v.delimiter
    → c.left ≡ 0 → OpenedAt s (first_cell s c) v n (missing v n plain)
unfolding remaining lines_end past lines_in parts
opened-missing s c v n plain wide prints h =
    let w = v.width in
    let d = v.delimiter in
    let f : rest s w d (missing v n plain).line.cursor ≡ [] = rest-none s w d (missing v n plain).line.cursor wide (omega arith) in
    rw (no_cells s c h)
    (record {
      stands = record {
        lines = only-first n _ f ∙ ap (drop n) (sym (blank-line w d));
        none = λ e. (f, refl);
        ready = record {
          wide = wide;
          delimiter = prints;
          line = record {
            ends = omega arith;
            order = omega arith;
            within = omega arith;
            columns = sym width-nil;
            fits = omega (arith, width-nil);
          };
          inside = record { ends = omega arith; from = omega arith; begins = refl; texts = tt };
        };
      };
      delimiter = refl;
      alignment = refl;
    })

-- a cell at its line n
pub opened-cell : (s : List ℕ) (c : Cells) (x : records.Cell) → CellIs s c x → (v : VisibleColumn) (n : ℕ) (plain : Bool) → 0 < v.width
    → (first : Next) (r : Pending)
    → Printable r.delimiter
    → r.delimiter ≡ or_else x.delimiter v.delimiter → r.alignment ≡ aligned x.alignment v.alignment
    → FirstOf s v.width r.delimiter plain (wrap_lines v.width r.delimiter (lines_in s x.lines)) first
    → Further s v.width r.delimiter n first r.line → OpenedAt s (first_cell s c) v n r × (r.line.cursor.plain ≡ plain)
opened-cell s c x X v n plain wide first r prints e f g m =
    let y : r.delimiter ≡ or_else (first_cell s c).delimiter v.delimiter = e ∙ ap (λ n. or_else n v.delimiter) X.delimiter in
    let z : r.alignment ≡ aligned (first_cell s c).alignment v.alignment = f ∙ ap (λ n. aligned n v.alignment) X.alignment in
    let ls = wrap_lines v.width r.delimiter (first_cell s c).lines in
    let l = m plain ls (rw X.lines at g) in (
      record {
        stands = rw (← y) (stands_next s v ls n r.delimiter plain (drop n ls) r wide prints refl l refl);
        delimiter = y;
        alignment = z;
      },
      l.same,
    )

-- ---- a row's cells, column by column

-- the columns before i are opened
pub record Opening (plain : Bool) (s : List ℕ) (view : View) (xs : List Cell) (n : ℕ) (ts : List Pending) (c : VisibleCells) (more : Bool)
    (i : ℕ) : Type 0 where
  pub walking : Walking s view xs c i
  pub known : KnownLeft plain c
  pub size : length ts ≡ most_columns
  pub done : (k : ℕ) → k < i → OpenedAt s (get_or xs (visible_at view k).number no_cell) (visible_at view k) n (pending_at ts k)
  pub found : more ≡ any_found ts i
  pub walked : (k : ℕ) → k < i → (pending_at ts k).line.cursor.plain ≡ plain

pub opening_begins : (plain : Bool) (s : List ℕ) (view : View) (cells : Cells) (n : ℕ) (ts : List Pending) → length ts ≡ most_columns → (c : VisibleCells)
    → Begins s view cells c → All (CellKnown plain) (cells_in s cells) → Opening plain s view (cells_in s cells) n ts c false 0
unfolding any_found
opening_begins plain s view cells n ts l c B h = record {
  walking = walking_begins s view cells c B;
  known = B.known plain h;
  size = l;
  done = λ k x. absurd (omega arith);
  found = refl;
  walked = λ k x. absurd (omega arith);
}

module _ (plain : Bool) (s : List ℕ) (view : View) (few : length view ≤ most_columns) (xs : List Cell) (n : ℕ) (ts : List Pending) (c d : VisibleCells)
    (more : Bool) (i : ℕ) (O : Opening plain s view xs n ts c more i) (v : VisibleColumn) (cells : Cells) (G : Gives c v cells d) where
  pub opening_on : (t : Pending) (m : Bool) → OpenedAt s (first_cell s cells) v n t → t.line.cursor.plain ≡ plain → m ≡ (more || t.line.found)
      → Opening plain s view xs n (set ts i t) d m (i + 1)
  unfolding any_found
  opening_on t m o w x =
      let H = walked-here s view xs c d i O.walking v cells G in
      let k : i < length ts = omega (arith, O.size, H.within, few) in
      let p = rw (H.cell, H.column) at o in
      record {
        walking = walking-on s view xs c d i O.walking v cells G;
        known = G.still plain O.known;
        size = length-set ts i t ∙ O.size;
        done = λ q l.
            ⊎_elim
            (λ (u : q ≡ i). rw (u, get_or-set_same ts i t no_pending k) p)
            (λ (u : q < i). rw (get_or-set_other ts i q t no_pending (λ z. omega arith)) (O.done q u))
            (eq-or-lt_of_le (omega arith));
        found = rw (add-one i) (x ∙ rw (O.found, same_below ts i i t (omega arith), get_or-set_same ts i t no_pending k));
        walked = λ q l.
            ⊎_elim
            (λ (u : q ≡ i). rw (u, get_or-set_same ts i t no_pending k) w)
            (λ (u : q < i). rw (get_or-set_other ts i q t no_pending (λ z. omega arith)) (O.walked q u))
            (eq-or-lt_of_le (omega arith));
      }
