-- What the call answers: one law for each way out of the code. Assumes nothing.
use Prim.Native.Nat.{ℕ, zero, suc, ◌+◌, ◌≤◌, ◌<◌}
use mathlib.Core.Path.{◌≡◌, refl, sym, ap, ◌∙◌}
use mathlib.Core.Logic.{◌⊎◌, inl, inr}
use mathlib.Core.List.{List, []}
use mathlib.Core.Bool.{Bool, true, false, ◌||◌}
use native.Mathlib.Omega.{arith}
use lib.ListN.{length}
use lib.Dec.{leb, ltb}
use borrow.Author.Tests.{le-leb, lt-leb, lt-ltb, le-ltb, ltb-true, ltb-false, leb-true, leb-false}
use Rattle.rules.specs.Sheet.{Table}
use Rattle.rules.specs.Description.{writes}
use Rattle.rules.specs.Format.{line, table, written}
use Rattle.rules.specs.Calls.{Written, not_printed, put_or}
use Rattle.rules.specs.Calls as calls
use Rattle.rules.specs.Editor.{Cursor, Taken, start, takes}
use Rattle.rules.specs.Writer.{judges, judged, save_of, save, save_taken, write_sheet}
use Rattle.rules.specs.Steps.{Step, At, Refused}
use Rattle.rules.proofs.Parts.{Whole, table_whole}
use Rattle.laws.proofs.Accepted.{line_whole}
use Rattle.laws.proofs.Judging.{table_tests, judged_inside, judged_number, table_narrow, judged_bytes}
use Rattle.buffer.specs.Put.{put_at, over}
use Rattle.buffer.proofs.Laws.{over-put-zero}
use Rattle.editor.specs.Walk.{Walk}
use Rattle.editor.specs.declared.walk.Walk.{Walk as Going}
use Rattle.editor.specs.Walk.{walk_of, number_in, place_in, cap, State, state, cursor_of, fault_of, place_of, first_place, walked}
use Rattle.writer.specs.Answer.{Decided, begun, fitting, decided}
use Rattle.editor.proofs.Entering.{cap_under}
use Rattle.editor.proofs.Texts.{low_bytes}
use Rattle.writer.proofs.Whole.{Enters, walked_cursor, enters}

-- ---- by the first run

abbrev told : ℕ → ℕ → Decided
told n p = record { number = n; place = p }

pub fit_fault : (n at place room : ℕ) → (n ≡ 0 → ⊥) → told n at ≡ fitting n at place room
unfolding fitting
fit_fault zero at place room h = absurd (h refl)
fit_fault (suc n) at place room h = refl

pub fit_short : (n at place room : ℕ) → n ≡ 0 → room < place → told 22 place ≡ fitting n at place room
unfolding fitting
fit_short n at place room h i = rw (h, fitting, lt-leb place room i)

pub fit_fine : (n at place room : ℕ) → n ≡ 0 → place ≤ room → told 0 0 ≡ fitting n at place room
unfolding fitting
fit_fine n at place room h i = rw (h, fitting, le-leb place room i)

module _ (w : Walk) (numbers bytes room : ℕ) where
  pub decided-missing : w.missing ≡ true → told 1 w.numbers ≡ decided w numbers bytes room
  unfolding decided
  decided-missing m = rw (m, decided)

  module _ (m : w.missing ≡ false) (over : Bool) (e : over ≡ (ltb w.numbers numbers || ltb w.text bytes)) where
    pub decided-over : over ≡ true → told 9 w.numbers ≡ decided w numbers bytes room
    unfolding decided
    decided-over h = rw (m, decided, ← e, h)

    module _ (f : over ≡ false) where
      pub decided_long : 32768 < w.place → told 2 32768 ≡ decided w numbers bytes room
      unfolding decided
      decided_long h = rw (m, decided, ← e, f, lt-ltb 32768 w.place h)

      pub decided_fit : w.place ≤ 32768 → fitting w.fault w.at w.place room ≡ decided w numbers bytes room
      unfolding decided
      decided_fit h = rw (m, decided, ← e, f, le-ltb 32768 w.place h)

-- by the code's tests of a walk on which nothing was missing
module _ (w : Going) (numbers bytes room : ℕ) where
  some-over : (b : Bool) → (ltb w.numbers numbers || ltb w.text bytes) ≡ b → b ≡ true → told 9 w.numbers ≡ decided (walk_of w) numbers bytes room
  some-over b e h = decided-over (walk_of w) numbers bytes room refl b (sym e) h

  pub numbers_over : w.numbers < numbers → told 9 w.numbers ≡ decided (walk_of w) numbers bytes room
  numbers_over h = some-over true (rw (lt-ltb w.numbers numbers h)) refl

  pub text_over : numbers ≤ w.numbers → w.text < bytes → told 9 w.numbers ≡ decided (walk_of w) numbers bytes room
  text_over h k = some-over true (rw (le-ltb w.numbers numbers h, lt-ltb w.text bytes k)) refl

  module _ (h : numbers ≤ w.numbers) (k : bytes ≤ w.text) where
    none-over : false ≡ (ltb w.numbers numbers || ltb w.text bytes)
    none-over = rw (le-ltb w.numbers numbers h, le-ltb w.text bytes k)

    pub too_long : 32768 < w.place → told 2 32768 ≡ decided (walk_of w) numbers bytes room
    too_long l = decided_long (walk_of w) numbers bytes room refl false none-over refl l

    pub by_fit : w.place ≤ 32768 → fitting (number_in w.fault) (place_in w.fault) w.place room ≡ decided (walk_of w) numbers bytes room
    by_fit l = decided_fit (walk_of w) numbers bytes room refl false none-over refl l

-- ---- what the first run tells of the table that the slices describe

-- the walk w over slices that give g
record Told (w : Walk) (g : Taken Table) : Type 0 where
  cursor : cursor_of w ≡ g.after
  size : g.after.missing ≡ false → w.place ≡ cap (length (written g.value))
  fault : g.after.missing ≡ false → length (written g.value) ≤ 32768 → w.fault ≡ fault_of (judges table g.value 0)
  at : g.after.missing ≡ false → length (written g.value) ≤ 32768 → w.at ≡ place_of (judges table g.value 0) 0 0

module _ (ns ts : List ℕ) where
  run_enters : (d : List ℕ) → (takes table ns ts start).after.missing ≡ false
      → Enters (judges table (takes table ns ts start).value 0) (writes table (takes table ns ts start).value) (state begun d) (walked table ns ts (state begun d))
  run_enters d m = enters table Whole (table_whole line line_whole) ns ts (state begun d) (omega arith) m

  run-told : (d : List ℕ) → Told (walked table ns ts (state begun d)).walk (takes table ns ts start)
  unfolding written
  run-told d =
      let n = length (writes table (takes table ns ts start).value) in
      let z : 0 + n ≡ n = omega arith in
      record {
        cursor = walked_cursor table ns ts (state begun d);
        size = λ m. (run_enters d m).place ∙ ap cap z;
        fault = λ m h. ((run_enters d m).exact (omega arith)).fault;
        at = λ m h. ((run_enters d m).exact (omega arith)).at;
      }

-- ---- what is answered

-- a refusal: number and place as decided, and the buffer as it was
record Turned (b : List ℕ) (d : Decided) (x : Written) : Type 0 where
  number : d.number ≡ 0 → ⊥
  is : x ≡ not_printed d.number d.place b

-- the table is in order, and its sheet fits
record Fits (w : Walk) (g : Taken Table) (b : List ℕ) (d : Decided) (x : Written) : Type 0 where
  number : d.number ≡ 0
  there : g.after.missing ≡ false
  end : ℕ
  fine : judges table g.value 0 ≡ At end
  short : length (written g.value) ≤ 32768
  room : length (written g.value) ≤ length b
  size : w.place ≡ length (written g.value)
  is : x ≡ record { answer = record { number = 0; place = 0; written = length (written g.value) }; buffer = calls.over (written g.value) b }

turned : (n p : ℕ) (b : List ℕ) (d : Decided) (x : Written) → (n ≡ 0 → ⊥) → told n p ≡ d → x ≡ not_printed n p b → Turned b d x
turned n p b d x h e f = rw (← e) (record { number = h; is = f })

cap_long : (n : ℕ) → 32768 < n → 32768 < cap n
unfolding cap
cap_long n h = omega arith

module _ (ns ts b : List ℕ) (w : Walk) (g : Taken Table) (told-so : Told w g) where
  abbrev answered : Decided
  answered = decided w (length ns) (length ts) (length b)

  abbrev Came : Written → Type 0
  Came x = Turned b answered x ⊎ Fits w g b answered x

  -- the cursor's parts
  missing_as : w.missing ≡ g.after.missing
  missing_as = ap (λ (c : Cursor). c.missing) told-so.cursor

  numbers_as : w.numbers ≡ g.after.numbers
  numbers_as = ap (λ (c : Cursor). c.numbers) told-so.cursor

  text_as : w.text ≡ g.after.text
  text_as = ap (λ (c : Cursor). c.text) told-so.cursor

  over_as : (ltb w.numbers (length ns) || ltb w.text (length ts)) ≡ (ltb g.after.numbers (length ns) || ltb g.after.text (length ts))
  over_as = rw (numbers_as, text_as)

  -- nothing is missing and nothing left over, and the sheet isn't too long
  module _ (m : g.after.missing ≡ false) (e : (ltb g.after.numbers (length ns) || ltb g.after.text (length ts)) ≡ false)
      (short : length (written g.value) ≤ 32768) where
    size_as : w.place ≡ length (written g.value)
    size_as = told-so.size m ∙ sym (cap_under (length (written g.value)) (omega arith))

    here : w.missing ≡ false
    here = missing_as ∙ m

    none_over : false ≡ (ltb w.numbers (length ns) || ltb w.text (length ts))
    none_over = sym (over_as ∙ e)

    fitted : fitting w.fault w.at w.place (length b) ≡ answered
    fitted = decided_fit w (length ns) (length ts) (length b) here false none_over refl (omega (arith, size_as))

    by_judgement : (y : Step) → judges table g.value 0 ≡ y → Came (save_of y g.value b)
    unfolding save_of put_or first_place written
    by_judgement (Refused n p) j =
        let inside = judged_inside table table_tests g.value 0 n p j in
        let number = judged_number table g.value 0 n p j in
        let f : w.fault ≡ n = told-so.fault m short ∙ ap fault_of j in
        let a : w.at ≡ p = told-so.at m short ∙ ap (λ y. place_of y 0 0) j ∙ sym (cap_under p (omega (arith, inside.1))) in
        let some : w.fault ≡ 0 → ⊥ = λ z. absurd (omega (arith, f, z, number.0)) in
        inl (turned n p b answered (not_printed n p b) (λ z. absurd (omega (arith, z, number.0)))
        (ap (λ k. told k p) (sym f) ∙ ap (told w.fault) (sym a)
        ∙ fit_fault w.fault w.at w.place (length b) some ∙ fitted) refl)
    by_judgement (At q) j = go (leb (length (written g.value)) (length b)) refl
      where
        f : w.fault ≡ 0
        f = told-so.fault m short ∙ ap fault_of j

        go : (z : Bool) → leb (length (written g.value)) (length b) ≡ z
            → Came (elim z as (λ i. Written) [
              | true ↦ record { answer = record { number = 0; place = 0; written = length (written g.value) }; buffer = calls.over (written g.value) b }
              | false ↦ not_printed 22 (length (written g.value)) b
            ])
        go true z =
            let room = leb-true (length (written g.value)) (length b) z in
            let d = fit_fine w.fault w.at w.place (length b) f (omega (arith, size_as)) ∙ fitted in
            inr (record { number = sym (ap (λ (x : Decided). x.number) d); there = m; end = q; fine = j; short = short; room = room; size = size_as; is = refl })
        go false z =
            let room = leb-false (length (written g.value)) (length b) z in
            let d = fit_short w.fault w.at w.place (length b) f (omega (arith, size_as, room)) ∙ fitted in
            inl (turned 22 (length (written g.value)) b answered (not_printed 22 (length (written g.value)) b) (λ i. absurd (omega arith))
            (ap (told 22) (sym size_as) ∙ d) refl)

  -- nothing is missing and nothing left over
  by_size : g.after.missing ≡ false → (ltb g.after.numbers (length ns) || ltb g.after.text (length ts)) ≡ false → Came (save g.value b)
  unfolding save judged save_of
  by_size m e = go (ltb 32768 (length (written g.value))) refl
    where
      go : (z : Bool) → ltb 32768 (length (written g.value)) ≡ z
          → Came (save_of (elim z as (λ i. Step) [ true ↦ Refused 2 32768 | false ↦ judges table g.value 0 ]) g.value b)
      go true z =
          let long = cap_long (length (written g.value)) (ltb-true 32768 (length (written g.value)) z) in
          inl (turned 2 32768 b answered (not_printed 2 32768 b) (λ i. absurd (omega arith))
          (decided_long w (length ns) (length ts) (length b) (missing_as ∙ m) false (sym (over_as ∙ e)) refl (omega (arith, told-so.size m))) refl)
      go false z = by_judgement m e (ltb-false 32768 (length (written g.value)) z) (judges table g.value 0) refl

  came : Came (save_taken ns ts g b)
  unfolding save_taken
  came = go g.after.missing refl (ltb g.after.numbers (length ns) || ltb g.after.text (length ts)) refl
    where
      go : (y : Bool) → g.after.missing ≡ y → (z : Bool) → (ltb g.after.numbers (length ns) || ltb g.after.text (length ts)) ≡ z
          → Came (elim y as (λ i. Written) [
            | true ↦ not_printed 1 g.after.numbers b
            | false ↦ elim z as (λ i. Written) [ true ↦ not_printed 9 g.after.numbers b | false ↦ save g.value b ]
          ])
      go true m z e =
          inl (turned 1 g.after.numbers b answered (not_printed 1 g.after.numbers b) (λ i. absurd (omega arith))
          (ap (told 1) (sym numbers_as) ∙ decided-missing w (length ns) (length ts) (length b) (missing_as ∙ m)) refl)
      go false m true e =
          inl (turned 9 g.after.numbers b answered (not_printed 9 g.after.numbers b) (λ i. absurd (omega arith))
          (ap (told 9) (sym numbers_as) ∙ decided-over w (length ns) (length ts) (length b) (missing_as ∙ m) true (sym (over_as ∙ e)) refl) refl)
      go false m false e = by_size m e

-- ---- the call

module _ (ns ts b : List ℕ) (w : Walk) (a : Decided) (f : w ≡ (walked table ns ts (state begun [])).walk)
    (e : a ≡ decided w (length ns) (length ts) (length b)) where
  first_run : Turned b a (write_sheet ns ts b) ⊎ Fits w (takes table ns ts start) b a (write_sheet ns ts b)
  unfolding write_sheet
  first_run = rw e (came ns ts b w (takes table ns ts start) (rw f (run-told ns ts [])))

  pub call_refused : (a.number ≡ 0 → ⊥)
      → (record { number = a.number; place = a.place; written = 0 } ≡ (write_sheet ns ts b).answer) × (b ≡ (write_sheet ns ts b).buffer)
  call_refused h = go first_run
    where
      go : Turned b a (write_sheet ns ts b) ⊎ Fits w (takes table ns ts start) b a (write_sheet ns ts b)
          → (record { number = a.number; place = a.place; written = 0 } ≡ (write_sheet ns ts b).answer) × (b ≡ (write_sheet ns ts b).buffer)
      go (inl x) = (sym (ap (λ (y : Written). y.answer) x.is), sym (ap (λ (y : Written). y.buffer) x.is))
      go (inr x) = absurd (h x.number)

  pub call_saved : (r : Walk) (d : List ℕ) → a.number ≡ 0 → state r d ≡ walked table ns ts (state begun b)
      → (record { number = 0; place = 0; written = w.place } ≡ (write_sheet ns ts b).answer) × (d ≡ (write_sheet ns ts b).buffer)
  unfolding written over
  call_saved r d h k = go first_run
    where
      go : Turned b a (write_sheet ns ts b) ⊎ Fits w (takes table ns ts start) b a (write_sheet ns ts b)
          → (record { number = 0; place = 0; written = w.place } ≡ (write_sheet ns ts b).answer) × (d ≡ (write_sheet ns ts b).buffer)
      go (inl x) = absurd (x.number h)
      go (inr x) =
          let t = (takes table ns ts start).value in
          let bytes = low_bytes (writes table t) (judged_bytes table table_narrow t 0 x.end x.fine) in
          let put = ((run_enters ns ts b x.there).exact (omega (arith, x.short))).sheet (omega (arith, x.room)) in (
            ap (λ n. record { number = 0; place = 0; written = n }) x.size ∙ sym (ap (λ (y : Written). y.answer) x.is),
            ap (λ (s : State). s.sheet) k ∙ put ∙ ap (put_at b 0) bytes ∙ sym (over-put-zero (writes table t) b) ∙ sym (ap (λ (y : Written). y.buffer) x.is),
          )

pub call_missing : (ns ts b : List ℕ) (w : Walk) → w ≡ (walked table ns ts (state begun [])).walk → w.missing ≡ true
    → (record { number = 1; place = w.numbers; written = 0 } ≡ (write_sheet ns ts b).answer) × (b ≡ (write_sheet ns ts b).buffer)
call_missing ns ts b w f m =
    call_refused ns ts b w (told 1 w.numbers) f (decided-missing w (length ns) (length ts) (length b) m) (λ z. absurd (omega arith))
