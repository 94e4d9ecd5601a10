-- An accepted sheet's table keeps every limit and stands in the sheet from its first byte to its last; a refusal is numbered 1 to 9. Assumes nothing.
use Prim.Native.Nat.{ℕ, ◌≤◌}
use mathlib.Core.Path.{◌≡◌, refl, ap, sym, subst, ◌∙◌}
use mathlib.Core.Logic.{◌⊎◌, inl, inr}
use mathlib.Core.List.{List}
use mathlib.Core.Bool.{Bool, true, false, cond, ◌||◌}
use native.Mathlib.Omega.{arith}
use lib.ListN.{length}
use lib.Dec.{ltb, leb, eqb}
use borrow.Author.Tests.{eqb-true, eq-eqb, ltb-false}
use Rattle.rules.specs.Sheet.{Cell, Row, Table, most_columns}
use Rattle.rules.specs.declared.Width.{Width}
use Rattle.rules.specs.declared.Column.{Column}
use Rattle.rules.specs.Field.{Read, got, refused, onward, between, printable, printable_or_zero, ended}
use Rattle.rules.specs.Description.{Format, Faithful, reads}
use Rattle.rules.specs.Format.{width, column, line, cell_by, cell, row_by, row, table_by, table, sheet_by, sheet}
use Rattle.rules.specs.Places.{table_here, end_place}
use Rattle.rules.specs.Steps.{step_of, read_from, after}
use Rattle.rules.specs.Steps.{Step, At, Refused}
use Rattle.rules.specs.Limits.{Printable, Optional, WidthLimits, ColumnLimits, LineLimits, CellLimits, RowLimits, TableLimits}
use Rattle.rules.specs.Calls.{check, check_of}
use Rattle.laws.proofs.Lists.{all_imp}
pub use Rattle.laws.proofs.Reading.{between_both}
use Rattle.laws.proofs.Reading.{Number, KeepsValue, Reads, Sound, sound, steps}
use Rattle.rules.proofs.Parts.{Whole, table_whole}

-- ---- what passed the tests keeps the limits

or_either : (a b : Bool) → (a || b) ≡ true → (a ≡ true) ⊎ (b ≡ true)
or_either true b e = inl refl
or_either false b e = inr e

at_most : (low high v : ℕ) → between low high v ≡ true → v ≤ high
at_most low high v e = (between_both low high v e).1

pub optional_either : (v : ℕ) → printable_or_zero v ≡ true → Optional v
optional_either v e = go (or_either (eqb v 0) (printable v) e)
  where
    go : (eqb v 0 ≡ true) ⊎ (printable v ≡ true) → Optional v
    go (inl h) = inl (eqb-true v 0 h)
    go (inr h) = inr (between_both 32 126 v h)

-- a used width's value, by its unit
fixed-value : (u v : ℕ) → v ≤ cond (eqb u 0) 400 65535 → u ≡ 0 → v ≤ 400
fixed-value u v h e = let i = eq-eqb u 0 e in rw i at h

pub any_value : (u v : ℕ) → v ≤ cond (eqb u 0) 400 65535 → v ≤ 65535
any_value u v h = go (eqb u 0) h
  where
    go : (b : Bool) → v ≤ cond b 400 65535 → v ≤ 65535
    go true i = omega arith
    go false i = omega arith

width_limits : (used : Bool) (w : Width) → KeepsValue (width used) w → WidthLimits used w
unfolding KeepsValue width
width_limits true w k =
    let v = at_most 0 (cond (eqb w.unit 0) 400 65535) w.value k.1.0.0 in
    record {
      unit = at_most 0 1 w.unit k.0.0;
      fixed = fixed-value w.unit w.value v;
      percent = any_value w.unit w.value v;
      unused = λ e. let z : ◌≡◌ {A = ℕ} 0 1 = cc in absurd (omega arith);
    }
width_limits false w k =
    let u = at_most 0 0 w.unit k.0.0 in
    let v : w.value ≡ 0 = k.1.0 in
    record { unit = omega arith; fixed = λ e. omega arith; percent = omega arith; unused = λ e. (omega arith, v) }

column_limits : (c : Column) → KeepsValue column c → ColumnLimits c
unfolding KeepsValue column
column_limits c k = record {
  left = at_most 0 20 c.left k.0.0;
  right = at_most 0 20 c.right k.1.0.0;
  delimiter = optional_either c.delimiter k.1.1.0.0;
  alignment = at_most 0 3 c.alignment k.1.1.1.0.0;
  constraint = at_most 0 6 c.constraint k.1.1.1.1.0.0;
  first = width_limits (leb 3 c.constraint) c.first k.1.1.1.1.1.0;
  second = width_limits (eqb c.constraint 6) c.second k.1.1.1.1.1.1.0;
}

line_limits : (l : List ℕ) → KeepsValue line l → LineLimits l
unfolding KeepsValue line
line_limits l k = record {
  length = at_most 0 200 (length l) k.0;
  characters = k.1;
}

cell_limits : (x : Cell) → KeepsValue cell x → CellLimits x
unfolding KeepsValue cell_by
cell_limits x k =
    let n = between_both 1 8 (length x.lines) k.1.1.0.0.0 in
    record {
      delimiter = optional_either x.delimiter k.0.0;
      alignment = at_most 0 3 x.alignment k.1.0.0;
      some_line = n.0;
      lines = n.1;
      texts = all_imp (KeepsValue line) LineLimits line_limits x.lines k.1.1.0.1;
    }

row_limits : (columns : ℕ) (r : Row) → KeepsValue (row columns) r → RowLimits columns r
unfolding KeepsValue row_by
row_limits columns r k = record {
  limit = at_most 0 255 r.limit k.0.0;
  cells = at_most 0 columns (length r.cells) k.1.0.0.0;
  each = all_imp (KeepsValue cell) CellLimits cell_limits r.cells k.1.0.1;
}

pub table_limits : (t : Table) → KeepsValue table t → TableLimits t
unfolding KeepsValue table_by
table_limits t k =
    let e = between_both 1 1 t.edition k.0.0 in
    let indicator = k.1.1.1.1.0 in
    let style = k.1.1.1.1.1.0 in
    let n = between_both 22 22 (length t.style) style.0 in
    let columns = k.1.1.1.1.1.1.0 in
    let header = k.1.1.1.1.1.1.1.0 in
    let rows = k.1.1.1.1.1.1.1.1.0 in
    let m = length t.columns in
    record {
      edition = omega arith;
      arrangement = at_most 0 2 t.arrangement k.1.0.0;
      target = at_most 0 400 t.target k.1.1.0.0;
      delimiter = optional_either t.delimiter k.1.1.1.0.0;
      indicator = at_most 0 8 (length t.indicator) indicator.0;
      indicator_characters = all_imp (λ c. printable c ≡ true) Printable (between_both 32 126) t.indicator indicator.1;
      style = omega arith;
      style_characters_fit = all_imp (λ c. printable_or_zero c ≡ true) Optional optional_either t.style style.1;
      columns = at_most 0 most_columns m columns.0.0;
      each_column = all_imp (KeepsValue column) ColumnLimits column_limits t.columns columns.1;
      header = at_most 0 1 (length t.header) header.0.0;
      header_row = all_imp (KeepsValue (row m)) (RowLimits m) (row_limits m) t.header header.1;
      rows = at_most 0 100 (length t.rows) rows.0.0;
      each_row = all_imp (KeepsValue (row m)) (RowLimits m) (row_limits m) t.rows rows.1;
    }

-- ---- the sheet

pub line_whole : Faithful line Whole
unfolding Faithful line
line_whole l = tt

-- an accepted sheet is short enough, its table was read from its first byte, and nothing stands behind it
pub record Accepted (s : List ℕ) (t : Table) (q : ℕ) : Type 0 where
  pub short : length s ≤ 32768
  pub read : Reads table Whole s 0 t q
  pub whole : q ≡ length s

abbrev SheetSound : List ℕ → Read Table → Type 0
SheetSound s (got t q) = Accepted s t q
SheetSound s (refused n q) = Number n

ended_sound : (s : List ℕ) → length s ≤ 32768 → (y : Read Table) → Sound table Whole s 0 y
    → SheetSound s (onward y (λ t p. onward (ended s p) (λ u q. got t q)))
unfolding onward ended
ended_sound s short (got t p) r = go (ltb p (length s)) refl
  where
    go : (b : Bool) → ltb p (length s) ≡ b
        → SheetSound s (onward {A = Unit {0}} (elim b as (λ x. Read (Unit {0})) [ true ↦ refused 9 p | false ↦ got tt p ]) (λ u q. got t q))
    go true e = (omega arith, omega arith)
    go false e = let i = r.inside (omega arith) in record { short = short; read = r; whole = omega (arith, ltb-false p (length s) e) }
ended_sound s short (refused n q) r = r

sheet_sound : (s : List ℕ) → SheetSound s (sheet s)
unfolding sheet_by
sheet_sound s = go (ltb 32768 (length s)) refl
  where
    go : (b : Bool) → ltb 32768 (length s) ≡ b
        → SheetSound s (elim b as (λ x. Read Table) [
          | true ↦ refused 2 32768
          | false ↦ onward (reads table s 0)
              (λ t p. onward (ended s p) (λ u q. got t q))
        ])
    go true e = (omega arith, omega arith)
    go false e = ended_sound s (ltb-false 32768 (length s) e) (reads table s 0) (sound table Whole (table_whole line line_whole) s 0)

-- a refused sheet's number
pub refused_number : (s : List ℕ) (n p : ℕ) → sheet s ≡ refused n p → Number n
refused_number s n p e = subst (SheetSound s) e (sheet_sound s)

pub accepted : (s : List ℕ) (t : Table) (q : ℕ) → sheet s ≡ got t q → Accepted s t q
accepted s t q e = subst (SheetSound s) e (sheet_sound s)

-- the table of an accepted sheet keeps every limit
pub accepted_limits : (s : List ℕ) (t : Table) (q : ℕ) → sheet s ≡ got t q → TableLimits t
accepted_limits s t q e = table_limits t (accepted s t q e).read.kept

-- it is what stands in the sheet, and the sheet ends where its rows do
pub accepted_places : (s : List ℕ) (t : Table) (q : ℕ) → sheet s ≡ got t q → (t ≡ table_here s) × (length s ≡ end_place s)
unfolding table_here end_place
accepted_places s t q e = let a = accepted s t q e in (a.read.value, sym a.whole ∙ a.read.end)

-- the table and the end of a sheet that the check answers 0 for
pub record Reading (s : List ℕ) : Type 0 where
  pub table : Table
  pub end : ℕ
  pub reads : sheet s ≡ got table end

pub checked-reading : (s : List ℕ) → (check s).number ≡ 0 → Reading s
unfolding check check_of
checked-reading s e = go (sheet s) refl e
  where
    go : (y : Read Table) → sheet s ≡ y → (check_of y).number ≡ 0 → Reading s
    go (got t q) i j = record { table = t; end = q; reads = i }
    go (refused n q) i j = let h = refused_number s n q i in absurd (omega arith)

-- the steps of the whole: 2, the fields, 9. Whatever a line is
pub sheet_steps : (x : Format (List ℕ)) → Faithful x Whole → (s : List ℕ) → step_of (sheet_by x s) ≡ elim (ltb 32768 (length s))
    [ true ↦ Refused 2 32768 | false ↦ read_from ended s (after (table_by x) s (At 0)) ]
unfolding sheet_by onward read_from
sheet_steps x whole s = go (ltb 32768 (length s))
  where
    ends : (t : Table) (y : Read (Unit {0})) → step_of (onward y (λ u q. got t q)) ≡ step_of y
    ends t (got u q) = refl
    ends t (refused n q) = refl

    inner : (y : Read Table) → step_of (onward y (λ t p. onward (ended s p) (λ u q. got t q))) ≡ read_from ended s (step_of y)
    inner (got t p) = ends t (ended s p)
    inner (refused n p) = refl

    go : (b : Bool)
        → step_of {A = Table} (elim b as (λ z. Read Table) [
          | true ↦ refused 2 32768
          | false ↦ onward (reads (table_by x) s 0)
              (λ t p. onward (ended s p) (λ u q. got t q))
        ])
        ≡ elim b as (λ z. Step) [ true ↦ Refused 2 32768 | false ↦ read_from ended s (after (table_by x) s (At 0)) ]
    go true = refl
    go false = inner (reads (table_by x) s 0) ∙ ap (read_from ended s) (sym (steps (table_by x) Whole (table_whole x whole) s 0))
