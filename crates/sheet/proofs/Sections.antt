-- Sections: what several fields come to, from what the code has read of them. Assumes nothing.
use Prim.Native.Nat.{ℕ, ◌<◌, ◌≤◌}
use mathlib.Core.Path.{◌≡◌, refl, sym, ◌∙◌, ap, subst}
use mathlib.Core.List.{List}
use mathlib.Core.Bool.{Bool, true, false, cond, not, ◌&&◌}
use mathlib.Core.Logic.{◌⊎◌, inl, inr}
use Rattle.std.specs.Prelude.{Ok, Err}
use Rattle.rules.specs.declared.Refusal.{Refusal}
use native.Mathlib.Omega.{arith}
use lib.ListN.{length, get_or}
use lib.Dec.{eqb, leb}
use borrow.Author.Tests.{lt-ltb, le-ltb, eq-eqb}
use Rattle.std.proofs.lemmas.Bool.{not-true, false≢true}
use Rattle.rules.specs.Sheet.{Table, most_columns}
use Rattle.rules.specs.Field.{Read, got, refused, byte_at, between, printable, printable_or_zero, ended}
use Rattle.rules.specs.Description.{Format, Faithful, reads, stands, word_to, optional, zero_word, counted, text}
use Rattle.rules.specs.Format.{line, cell_by, cell_count, row_by, width, column, table_by, sheet_by, sheet}
use Rattle.rules.specs.Limits.{PlainTable}
use Rattle.rules.proofs.Parts.{Whole}
use Rattle.rules.specs.Steps.{step_of, refused_as, read_from, here_of, byte_of, times, after}
use Rattle.rules.specs.Steps.{Step, At, Refused}
use Rattle.rules.specs.Calls.{check, check_of}
use Rattle.rules.specs.declared.Checked.{Checked}
use Rattle.laws.proofs.Reading.{tested}
use Rattle.laws.proofs.Reading.{after_off, times_off}
use Rattle.laws.proofs.Accepted.{sheet_steps}
use Rattle.laws.proofs.Plainly.{plainly_got, plainly_refused, plainly-table}
use Rattle.laws.proofs.Stands.{parts-count}
use Rattle.sheet.specs.Steps.{byte_between, constraint_after, cells_after, head_after, body_after, line_of, reading_of, at_first}
use Rattle.sheet.specs.Examine.{ExaminedIs}

-- a byte was read, so the next field starts inside the sheet or at its end
pub after_inside : (low high n : ℕ) (s : List ℕ) (x : Step) (p : ℕ) → read_from (byte_between low high n) s x ≡ At p → p ≤ length s
unfolding read_from
after_inside low high n s (At q) p e = go (byte_between low high n s q) refl e
  where
    go : (y : Read ℕ) → byte_between low high n s q ≡ y → step_of y ≡ At p → p ≤ length s
    go (got v r) i j = let t = tested (between low high) n s q v r i in let d : r ≡ p = cc in omega (arith, t.end, t.there)
    go (refused m r) i j = let z : ◌≡◌ {A = ℕ} 0 1 = cc in absurd (omega arith)
after_inside low high n s (Refused m q) p e = let z : ◌≡◌ {A = ℕ} 0 1 = cc in absurd (omega arith)

-- a cell
pub cell_after : (x : Format (List ℕ)) (s : List ℕ) (y : Step)
    → after (cell_by x) s y ≡ after (counted 1 8 x) s (read_from (byte_between 0 3 4) s (after optional s y))
unfolding after reads cell_by
cell_after x s y = refl

-- a width, used or not
used : (s : List ℕ) (x : Step) → after (width true) s x ≡ after (word_to (cond (eqb (byte_of s x) 0) 400 65535)) s (read_from (byte_between 0 1 4) s x)
unfolding after reads width here_of byte_of stands
used s x = refl

pub width_used : (b : Bool) (s : List ℕ) (x : Step) → b ≡ true
    → after (width b) s x ≡ after (word_to (cond (eqb (byte_of s x) 0) 400 65535)) s (read_from (byte_between 0 1 4) s x)
width_used b s x e = rw e (used s x)

pub width_unused : (b : Bool) (s : List ℕ) (x : Step) → b ≡ false → after (width b) s x ≡ after zero_word s (read_from (byte_between 0 0 8) s x)
unfolding after reads width
width_unused b s x e = rw e

pub constraint_off : (s : List ℕ) (n p : ℕ) → constraint_after s (Refused n p) ≡ Refused n p
unfolding constraint_after
constraint_off s n p = simp after_off

-- a column
pub column_after : (s : List ℕ) (x : Step)
    → after column s x
    ≡ constraint_after s (read_from (byte_between 0 3 4) s (after optional s (read_from (byte_between 0 20 5) s (read_from (byte_between 0 20 5) s x))))
unfolding after reads column here_of byte_of stands constraint_after
column_after s x = refl

-- a row
pub row_after : (x : Format (List ℕ)) (columns : ℕ) (s : List ℕ) (y : Step)
    → after (row_by x columns) s y ≡ cells_after x columns s (read_from (byte_between 0 255 5) s y)
unfolding after reads row_by here_of byte_of stands cells_after
row_after x columns s y = refl

-- the table
count_of : {A : Type 0} (low high : ℕ) (f : Format A) (s : List ℕ) (x : Step) → length (here_of (counted low high f) s x) ≡ byte_of s x
unfolding here_of byte_of stands
count_of low high f s x = parts-count (byte_of s x) _ _ _

table_after : (x : Format (List ℕ)) (s : List ℕ) (y : Step) → after (table_by x) s y ≡ body_after x s (head_after s y)
unfolding after reads table_by head_after body_after
table_after x s y =
    ap (λ (n : ℕ). after (counted 0 100 (row_by x n)) s (after (counted 0 1 (row_by x n)) s (after (counted 0 most_columns column) s (head_after s y))))
    (count_of 0 most_columns column s (head_after s y))

-- the whole: 2 for a sheet that is too long; else its fields, then 9
line_whole : (pairs : Bool) → Faithful (line_of pairs) Whole
unfolding Faithful line
line_whole true = λ l. tt
line_whole false = λ l. tt

pub reading_long : (pairs : Bool) (s : List ℕ) → 32768 < length s → Refused 2 32768 ≡ reading_of pairs s
unfolding reading_of
reading_long pairs s h = sym (sheet_steps (line_of pairs) (line_whole pairs) s ∙ rw (lt-ltb 32768 (length s) h))

pub reading_short : (pairs : Bool) (s : List ℕ) → length s ≤ 32768
    → reading_of pairs s ≡ read_from ended s (body_after (line_of pairs) s (head_after s (At 0)))
unfolding reading_of
reading_short pairs s h =
    sheet_steps (line_of pairs) (line_whole pairs) s
    ∙ rw (le-ltb 32768 (length s) h) (ap (read_from ended s) (table_after (line_of pairs) s (At 0)))

-- what the check answers is what the reading with pairs comes to
abbrev answer_of : Step → Checked
answer_of (At p) = record { number = 0; place = 0 }
answer_of (Refused n p) = record { number = n; place = p }

check-answer : (y : Read Table) → check_of y ≡ answer_of (step_of y)
unfolding check_of
check-answer (got t p) = refl
check-answer (refused n p) = refl

second-stands : (s : List ℕ) (x : Step) → x ≡ reading_of true s → answer_of x ≡ check s
unfolding check reading_of
second-stands s x e = sym (check-answer (sheet s) ∙ ap answer_of (sym e))

-- the reading without pairs stands unless it stopped at a C2: it is the reading, and a table that it gave is plain
record Stood (s : List ℕ) (x : Step) : Type 0 where
  answer : answer_of x ≡ check s
  plain : (t : Table) (p : ℕ) → sheet s ≡ got t p → PlainTable t

no_pair : (n b : ℕ) → (eqb n 6 && eqb b 194) ≡ false → (n ≡ 6) × (b ≡ 194) → ⊥
no_pair n b e h =
    let f : (eqb n 6 && eqb b 194) ≡ true = rw (eq-eqb n 6 h.0, eq-eqb b 194 h.1) in
    let z : ◌≡◌ {A = ℕ} 0 1 = cc in
    absurd (omega arith)

same-table : (t u : Table) (p q : ℕ) → got t p ≡ got u q → t ≡ u
same-table t u p q e = cc

first-stands : (s : List ℕ) (x : Step) → x ≡ reading_of false s → at_first s x ≡ false → Stood s x
unfolding check check_of reading_of at_first
first-stands s x e f = rw e (go (sheet_by (line_of false) s) refl (rw e at f))
  where
    go : (y : Read Table) → sheet_by (line_of false) s ≡ y → at_first s (step_of y) ≡ false → Stood s (step_of y)
    go (got t p) i j = record {
      answer = rw (plainly_got s t p i);
      plain = λ u q k. subst PlainTable (same-table t u p q (sym (plainly_got s t p i) ∙ k)) (plainly-table s t p i);
    }
    go (refused n p) i j =
        let h = plainly_refused s n p i (no_pair n (byte_at s p) j) in
        record { answer = rw h; plain = λ u q k. let l = sym h ∙ k in let z : ◌≡◌ {A = ℕ} 0 1 = cc in absurd (omega arith) }

-- what is answered after the last reading, which looked for pairs exactly where the first had stopped at a C2
unread : (s : List ℕ) (q : ℕ) → at_first s (At q) ≡ false
unfolding at_first
unread s q = refl

pub examined_good : (s : List ℕ) (pairs : Bool) (q : ℕ) → At q ≡ reading_of pairs s
    → (pairs ≡ true → at_first s (reading_of false s) ≡ true) → (b : Bool) → b ≡ not pairs → ExaminedIs s (Ok (record { plain = b }))
examined_good s true q read again b e =
    rw e
    (record {
      checked = second-stands s (At q) read;
      plain = λ f. let z : ◌≡◌ {A = ℕ} 0 1 = cc in absurd (omega arith);
      stood = rw (again refl);
    })
examined_good s false q read again b e =
    let k = first-stands s (At q) read (unread s q) in
    rw e (record { checked = k.answer; plain = λ f. k.plain; stood = rw (← read, unread s q) })

-- a refusal from either reading is what the check answers; the sheet is called plain exactly where the reading without pairs didn't stop at a C2
pub examined_bad : (s : List ℕ) (pairs : Bool) (r : Refusal) → refused_as r ≡ reading_of pairs s
    → (pairs ≡ true) ⊎ (at_first s (refused_as r) ≡ false)
    → ExaminedIs s (Err (record { refusal = r; plain = not (at_first s (reading_of false s)) }))
examined_bad s pairs r read h = record {
  checked = answered pairs read h;
  plain = λ f. (first-stands s (reading_of false s) refl (not-true _ f)).plain;
  stood = refl;
}
  where
    answered : (b : Bool) → refused_as r ≡ reading_of b s → (b ≡ true) ⊎ (at_first s (refused_as r) ≡ false) → answer_of (refused_as r) ≡ check s
    answered true e k = second-stands s (refused_as r) e
    answered false e (inl k) = absurd (false≢true k)
    answered false e (inr k) = (first-stands s (refused_as r) e k).answer

-- the same of readings of which the second looked for pairs only where the first had stopped at a C2
pub examined_refused : (s : List ℕ) (pairs : Bool) (r : Refusal) → refused_as r ≡ reading_of pairs s
    → (pairs ≡ true → at_first s (reading_of false s) ≡ true) → (pairs ≡ true) ⊎ (at_first s (refused_as r) ≡ false)
    → (b : Bool) → b ≡ not pairs → ExaminedIs s (Err (record { refusal = r; plain = b }))
examined_refused s pairs r read again h b e = rw (e ∙ ap not (sym (stopped pairs read again h))) (examined_bad s pairs r read h)
  where
    stopped : (p : Bool) → refused_as r ≡ reading_of p s → (p ≡ true → at_first s (reading_of false s) ≡ true)
        → (p ≡ true) ⊎ (at_first s (refused_as r) ≡ false)
        → at_first s (reading_of false s) ≡ p
    stopped true i a k = a refl
    stopped false i a (inl k) = absurd (false≢true k)
    stopped false i a (inr k) = rw (← i, k)

-- the end of the sheet
module _ (s : List ℕ) (p : ℕ) where
  pub ended_more : p < length s → Refused 9 p ≡ read_from ended s (At p)
  unfolding read_from ended
  ended_more h = rw (lt-ltb p (length s) h, ended)

  pub ended_all : length s ≤ p → At p ≡ read_from ended s (At p)
  unfolding read_from ended
  ended_all h = rw (le-ltb p (length s) h, ended)

-- sections as the code reads them, and a refusal in one
pub constraint_steps : (s : List ℕ) (x : Step)
    → constraint_after s x ≡ after (width (eqb (byte_of s x) 6)) s (after (width (leb 3 (byte_of s x))) s (read_from (byte_between 0 6 4) s x))
unfolding constraint_after after reads
constraint_steps s x = refl

pub cells_steps : (x : Format (List ℕ)) (columns : ℕ) (s : List ℕ) (y : Step)
    → cells_after x columns s y ≡ times (byte_of s y) (after (cell_by x) s) (after (cell_count columns) s y)
unfolding cells_after
cells_steps x columns s y = refl

pub head_steps : (s : List ℕ) (x : Step)
    → head_after s x ≡ after (text 22 22 printable_or_zero) s (after (text 0 8 printable) s (after optional s
    (after (word_to 400) s (read_from (byte_between 0 2 4) s (read_from (byte_between 1 1 3) s x)))))
unfolding head_after after reads
head_steps s x = refl

pub body_steps : (x : Format (List ℕ)) (s : List ℕ) (y : Step)
    → body_after x s y ≡ after (counted 0 100 (row_by x (byte_of s y))) s (after (counted 0 1 (row_by x (byte_of s y))) s
    (after (counted 0 most_columns column) s y))
unfolding body_after
body_steps x s y = refl

pub counted_steps : {A : Type 0} (low high : ℕ) (f : Format A) (s : List ℕ) (x : Step)
    → after (counted low high f) s x ≡ times (byte_of s x) (after f s) (read_from (byte_between low high 5) s x)
unfolding after reads here_of byte_of stands
counted_steps low high f s x = refl

pub style_steps : (s : List ℕ) (x : Step)
    → after (text 22 22 printable_or_zero) s x ≡ times (byte_of s x) (after optional s) (read_from (byte_between 22 22 5) s x)
unfolding after reads
style_steps s x = refl

pub byte_here : (s : List ℕ) (p : ℕ) → byte_of s (At p) ≡ get_or s p 0
unfolding byte_of
byte_here s p = refl

-- a refusal of a count
pub counted_stopped : {A : Type 0} (low high : ℕ) (f : Format A) (s : List ℕ) (x : Step) (n q : ℕ) → Refused n q ≡ read_from (byte_between low high 5) s x
    → Refused n q ≡ after (counted low high f) s x
counted_stopped low high f s x n q e = rw (counted_steps low high f s x, ← e) (sym (times_off (byte_of s x) (after f s) (after_off f s) n q))

pub style_stopped : (s : List ℕ) (x : Step) (n q : ℕ) → Refused n q ≡ read_from (byte_between 22 22 5) s x
    → Refused n q ≡ after (text 22 22 printable_or_zero) s x
style_stopped s x n q e = rw (style_steps s x, ← e) (sym (times_off (byte_of s x) (after optional s) (after_off optional s) n q))

pub cells_stopped : (x : Format (List ℕ)) (columns : ℕ) (s : List ℕ) (y : Step) (n q : ℕ) → Refused n q ≡ after (cell_count columns) s y
    → Refused n q ≡ cells_after x columns s y
cells_stopped x columns s y n q e = rw (cells_steps x columns s y, ← e) (sym (times_off (byte_of s y) (after (cell_by x) s) (after_off (cell_by x) s) n q))

pub cells_off : (x : Format (List ℕ)) (columns : ℕ) (s : List ℕ) (n q : ℕ) → cells_after x columns s (Refused n q) ≡ Refused n q
cells_off x columns s n q = sym (cells_stopped x columns s (Refused n q) n q (sym (after_off (cell_count columns) s n q)))
