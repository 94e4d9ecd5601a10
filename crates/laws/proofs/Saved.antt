-- The writer keeps what document 02's order 4 asks of it. Assumes nothing.
use Prim.Native.Nat.{ℕ, ◌≤◌, ◌<◌}
use mathlib.Core.Path.{◌≡◌, refl, ap, sym, subst, ◌∙◌}
use mathlib.Core.Logic.{◌≢◌}
use mathlib.Core.List.{List}
use mathlib.Core.Bool.{Bool, true, false, ◌||◌}
use native.Mathlib.Omega.{arith}
use lib.ListN.{length}
use lib.Dec.{ltb, leb}
use borrow.Author.Tests.{ltb-false, le-ltb}
use Rattle.rules.specs.Text.{All}
use Rattle.rules.specs.Sheet.{Table}
use Rattle.rules.specs.Field.{got}
use Rattle.rules.specs.Description.{writes}
use Rattle.rules.specs.Format.{table, sheet, written}
use Rattle.rules.specs.Limits.{IsByte}
use Rattle.rules.specs.Steps.{Step, At, Refused}
use Rattle.rules.specs.Writer.{judges, judged, save_of, save, save_taken, write_sheet}
use Rattle.rules.specs.Calls.{Written, not_printed, over, put_or}
use Rattle.rules.specs.Editor.{Taken, start, takes, numbers_of, text_of}
use Rattle.rules.specs.Saving.{InOrder, Saving}
use Rattle.laws.proofs.Writing.{answer, sheet_says, accepted-written}
use Rattle.laws.proofs.Judging.{table_tests, judged_ends, judged_inside, judged_number, table_narrow, judged_bytes}
use Rattle.laws.proofs.Editor.{slices_give}

-- ---- what the judgement of a table comes to

-- it is in order
record Fine (t : Table) (q : ℕ) : Type 0 where
  short : length (written t) ≤ 32768
  end : q ≡ length (written t)
  bytes : All IsByte (written t)

-- or it has a fault
record Faulty (t : Table) (n p : ℕ) : Type 0 where
  number : (2 ≤ n) × (n ≤ 8)
  place : n ≢ 2 → (p < length (written t)) × (length (written t) ≤ 32768)

abbrev TableJudged : Table → Step → Type 0
TableJudged t (At q) = Fine t q
TableJudged t (Refused n p) = Faulty t n p

table-judged : (t : Table) → TableJudged t (judged t)
unfolding judged written
table-judged t = go (ltb 32768 (length (writes table t))) refl
  where
    fields : length (writes table t) ≤ 32768 → (y : Step) → judges table t 0 ≡ y → TableJudged t y
    fields short (At q) e = record { short = short; end = omega (arith, judged_ends table t 0 q e); bytes = judged_bytes table table_narrow t 0 q e }
    fields short (Refused n p) e =
        let number = judged_number table t 0 n p e in
        let inside = judged_inside table table_tests t 0 n p e in
        record { number = (omega (arith, number.0), number.1); place = λ i. (omega (arith, inside.1), short) }

    go : (b : Bool) → ltb 32768 (length (writes table t)) ≡ b
        → TableJudged t (elim b as (λ z. Step) [ true ↦ Refused 2 32768 | false ↦ judges table t 0 ])
    go true e = record { number = (omega arith, omega arith); place = λ i. absurd (i refl) }
    go false e = fields (ltb-false 32768 (length (writes table t)) e) (judges table t 0) refl

fine : (t : Table) (h : InOrder t) → Fine t h.end
fine t h = subst (TableJudged t) h.fine (table-judged t)

faulty : (t : Table) (n p : ℕ) → judged t ≡ Refused n p → Faulty t n p
faulty t n p e = subst (TableJudged t) e (table-judged t)

-- a table that is read again from what was written of it is in order
read_in-order : (t : Table) (p : ℕ) → sheet (written t) ≡ got t p → InOrder t
read_in-order t p e = go (judged t) refl (sym (sheet_says t) ∙ e)
  where
    go : (y : Step) → judged t ≡ y → answer t y ≡ got t p → InOrder t
    go (At q) i h = record { end = q; fine = i }
    go (Refused n q) i h = let z : ◌≡◌ {A = ℕ} 0 1 = cc in absurd (omega arith)

in-order_read : (t : Table) (h : InOrder t) → sheet (written t) ≡ got t (length (written t))
in-order_read t h = sheet_says t ∙ (ap (answer t) h.fine ∙ ap (got t) (fine t h).end)

accepted_in-order : (s : List ℕ) → All IsByte s → (t : Table) (p : ℕ) → sheet s ≡ got t p → InOrder t × (written t ≡ s)
accepted_in-order s bytes t p e =
    let same = accepted-written s t p bytes e in
    (read_in-order t p (ap sheet (sym same) ∙ e), sym same)

-- ---- the call

-- a refusal leaves the buffer as it was
abbrev Keeps : List ℕ → Written → Type 0
Keeps b w = w.answer.number ≢ 0 → (w.buffer ≡ b) × (w.answer.written ≡ 0)

save-keeps : (t : Table) (b : List ℕ) (y : Step) → Keeps b (save_of y t b)
unfolding save_of put_or
save-keeps t b (At q) = go (leb (length (written t)) (length b))
  where
    go : (z : Bool) → Keeps b (elim z as (λ i. Written) [
      | true ↦ record { answer = record { number = 0; place = 0; written = length (written t) }; buffer = over (written t) b }
      | false ↦ not_printed 22 (length (written t)) b
    ])
    go true h = absurd (h refl)
    go false h = (refl, refl)
save-keeps t b (Refused n p) = λ h. (refl, refl)

call-keeps : (ns ts b : List ℕ) → Keeps b (write_sheet ns ts b)
unfolding write_sheet save_taken save
call-keeps ns ts b = go (takes table ns ts start)
  where
    told : (g : Taken Table) (missing left : Bool) → Keeps b (elim missing as (λ z. Written) [
      | true ↦ not_printed 1 g.after.numbers b
      | false ↦ elim left as (λ z. Written) [ true ↦ not_printed 9 g.after.numbers b | false ↦ save g.value b ]
    ])
    told g true left = λ h. (refl, refl)
    told g false true = λ h. (refl, refl)
    told g false false = save-keeps g.value b (judged g.value)

    go : (g : Taken Table) → Keeps b (save_taken ns ts g b)
    go g = told g g.after.missing (ltb g.after.numbers (length ns) || ltb g.after.text (length ts))

-- nothing is missing in a table's slices, and nothing is left over
slices_said : (t : Table) (b : List ℕ) → write_sheet (numbers_of table t) (text_of table t) b ≡ save t b
unfolding write_sheet save_taken
slices_said t b =
    ap (λ (g : Taken Table). save_taken ns ts g b) (slices_give t)
    ∙ go (ltb (length ns) (length ns)) (ltb (length ts) (length ts)) (le-ltb (length ns) (length ns) (omega arith))
    (le-ltb (length ts) (length ts) (omega arith))
  where
    ns : List ℕ
    ns = numbers_of table t

    ts : List ℕ
    ts = text_of table t

    go : (c d : Bool) → c ≡ false → d ≡ false
        → elim (c || d) as (λ z. Written) [ true ↦ not_printed 9 (length ns) b | false ↦ save t b ] ≡ save t b
    go c d h k = rw (h, k)

pub saving : Saving
saving = record {
  reads = in-order_read;
  bytes = λ t h. (fine t h).bytes;
  short = λ t h. (fine t h).short;
  writes = accepted_in-order;
  in_order = λ t h. record { from = written t; bytes = (fine t h).bytes; end = length (written t); reads = in-order_read t h };
  described = λ t d. (accepted_in-order d.from d.bytes t d.end d.reads).0;
  refuses = λ t n p e. sheet_says t ∙ ap (answer t) e;
  numbers = λ t n p e. (faulty t n p e).number;
  places = λ t n p e. (faulty t n p e).place;
  said = slices_said;
  kept = call-keeps;
}
