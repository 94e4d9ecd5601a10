-- What each call answers, from what its parts found. Assumes nothing.
use Prim.Native.Nat.{ℕ, suc, ◌+◌, ◌-◌, ◌≤◌, ◌<◌}
use mathlib.Core.Path.{◌≡◌, refl, sym, ap, ◌∙◌}
use Rattle.rules.specs.Limits.{most_lines, PlainTable}
use mathlib.Core.List.{List, [], ◌∷◌, ◌++◌, append-nil}
use mathlib.Core.Bool.{Bool, true, false}
use native.Mathlib.Omega.{arith}
use lib.ListN.{length, take, drop, get_or, length-append, length-drop, drop_of_length-le}
use lib.Seq.{drop-cons, length-take-le}
use lib.Dec.{T, leb, ltb, leb→le, le→leb, ltb→lt, lt→ltb}
use Rattle.rules.specs.declared.Checked.{Checked}
use Rattle.rules.specs.declared.Counted.{Counted}
use Rattle.rules.specs.Sheet.{Table}
use Rattle.rules.specs.Field.{Read, got, refused}
use Rattle.rules.specs.Format.{sheet}
use Rattle.rules.specs.Page.{closed, line_at, line_count, byte_count, page as page_of, page_lines, whole_lines}
use Rattle.rules.specs.Calls as calls
use Rattle.rules.specs.Calls.{check, check_of, count, count_of, put_or, put, not_printed, print_page, print_of, print_line, print_line_of}
use Rattle.laws.proofs.Counts.{line-count-bound}
use Rattle.laws.proofs.Fitting.{fitting_few, fitting-none, fitting_more, fitting_stops, fitting-all}
use Rattle.laws.proofs.Sizes.{closed-one, byte-count-closed}
use Rattle.std.specs.Prelude.{Ok}
use Rattle.rules.specs.Refusals.{number_of}
use Rattle.rules.specs.Steps.{Refused, refused_as}
use Rattle.rules.specs.declared.Refusal.{Refusal}
use Rattle.rules.proofs.Refusals.{number_some}
use Rattle.sheet.specs.Examine.{ExaminedIs, checked_of}
use Rattle.sheet.specs.declared.Examined.{Examined}
use Rattle.table.specs.Held.{IsAccepted, table_of}
use Rattle.table.specs.Walk.{rows_in}
use Rattle.table.proofs.Held.{held, is_accepted}
use Rattle.buffer.specs.Put.{over}
use Rattle.parts.specs.Ahead.{ahead, lines_of, first_cursor}
use Rattle.display_info.specs.Opened.{Opened}
use Rattle.lines.specs.Walk.{size_of, TotalsAre, LineFound, LineRefused, past, short, WroteIs}
use Rattle.display_info.specs.declared.DisplayInfo.{DisplayInfo}
use Rattle.parts.specs.declared.cursor.Cursor.{Cursor}
use Rattle.lines.specs.declared.Totals.{Totals}
use Rattle.lines.specs.declared.Found.{Found}
use Rattle.lines.specs.declared.Written.{Written}
use Rattle.display_info.proofs.Opening.{limits_of}
use Rattle.parts.proofs.Parts.{first-ahead}
use Rattle.page.specs.Several as several

-- ---- tests

is_true : (b : Bool) → T b → b ≡ true
is_true true t = refl
is_true false t = absurd t

is_false : (b : Bool) → (T b → ⊥) → b ≡ false
is_false true h = absurd (h tt)
is_false false h = refl

pub le-true : (m n : ℕ) → m ≤ n → leb m n ≡ true
le-true m n h = is_true (leb m n) (le→leb m n h)

pub le-false : (m n : ℕ) → n < m → leb m n ≡ false
le-false m n h = is_false (leb m n) (λ t. let k = leb→le m n t in omega arith)

lt-true : (m n : ℕ) → m < n → ltb m n ≡ true
lt-true m n h = is_true (ltb m n) (lt→ltb m n h)

lt-false : (m n : ℕ) → n ≤ m → ltb m n ≡ false
lt-false m n h = is_false (ltb m n) (λ t. let k = ltb→lt m n t in omega arith)

pub chosen : {A : Type 0} (x : Bool) (a b : A) → x ≡ true → ◌≡◌ {A = A} (elim x as (λ y. A) [ true ↦ a | false ↦ b ]) a
chosen true a b e = refl
chosen false a b e = cc

pub passed_over : {A : Type 0} (x : Bool) (a b : A) → x ≡ false → ◌≡◌ {A = A} (elim x as (λ y. A) [ true ↦ a | false ↦ b ]) b
passed_over true a b e = cc
passed_over false a b e = refl

-- no line fits into nothing
fitting_nothing : (ls : List (List ℕ)) → whole_lines 0 ls ≡ []
fitting_nothing [] = fitting-none 0
fitting_nothing (l ∷ ls) = fitting_stops 0 l ls (omega arith)

-- a start of the buffer has come back written over as a whole
pub prefix_back : (l b a : List ℕ) (n : ℕ) → length l ≡ n → n ≤ length b → a ≡ over l (take n b) → a ++ drop n b ≡ over l b
unfolding over
prefix_back l b a n e h f =
    let z : drop (length l) (take n b) ≡ [] = drop_of_length-le (take n b) {i = length l} (omega (arith, length-take-le n b h)) in
    rw (f, z, append-nil, e)

-- ---- a sheet that was examined

pub accepted : (s : List ℕ) (e : Examined) → ExaminedIs s (Ok e) → IsAccepted s
accepted s e E = is_accepted s (checked_of (Ok e)) E.checked refl

pub plain_table : (s : List ℕ) (e : Examined) → ExaminedIs s (Ok e) → e.plain ≡ true → PlainTable (table_of s)
plain_table s e E h = let g = held s (accepted s e E) in E.plain h (table_of s) g.end g.reads

-- ---- a refused sheet, of which nothing is asked but what the check answers

module _ (s : List ℕ) (r : Refusal) (told : ◌≡◌ {A = Checked} (record { number = number_of r.reason; place = r.place }) (check s)) where
  pub refused_by : sheet s ≡ refused (number_of r.reason) r.place
  unfolding check check_of
  refused_by = go (sheet s) refl
    where
      go : (y : Read Table) → sheet s ≡ y → sheet s ≡ refused (number_of r.reason) r.place
      go (got t p) e =
          let z : number_of r.reason ≡ 0 = ap (λ (x : Checked). x.number) told ∙ rw e in
          absurd (number_some r.reason z)
      go (refused n p) e =
          let k : ◌≡◌ {A = Checked} (record { number = number_of r.reason; place = r.place }) (record { number = n; place = p }) = told ∙ rw e in
          let a : number_of r.reason ≡ n = ap (λ (x : Checked). x.number) k in
          let b : r.place ≡ p = ap (λ (x : Checked). x.place) k in
          rw (e, a, b)

  pub page_refused : (b : List ℕ) → print_page s b ≡ not_printed (number_of r.reason) r.place b
  unfolding print_page print_of
  page_refused b = rw refused_by

  pub line_refused : (k : ℕ) (b : List ℕ) → print_line s k b ≡ not_printed (number_of r.reason) r.place b
  unfolding print_line print_line_of
  line_refused k b = rw refused_by

  pub lines_refused : (k : ℕ) (b : List ℕ) → several.print_lines s k b ≡ several.no_lines (number_of r.reason) r.place b
  unfolding several.print_lines several.print_lines_of
  lines_refused k b = rw refused_by

-- ---- an accepted one

module _ (s : List ℕ) (h : IsAccepted s) where
  pub count_accepted : (r : Totals) → r.lines ≡ line_count (table_of s) → r.bytes ≡ byte_count (table_of s)
      → ◌≡◌ {A = Counted} (record { number = 0; place = 0; lines = r.lines; bytes = r.bytes }) (count s)
  unfolding count count_of
  count_accepted r e f = let g = (held s h).reads in rw (g, e, f)

  abbrev wrote-all : List ℕ → List ℕ → calls.Written
  wrote-all l b = record { answer = record { number = 0; place = 0; written = length l }; buffer = l ++ drop (length l) b }

  put_short : (l b : List ℕ) (n : ℕ) → n ≡ length l → length b < n → put l b ≡ not_printed 20 n b
  unfolding put_or
  put_short l b n e k = passed_over (leb (length l) (length b)) (wrote-all l b) (not_printed 20 (length l) b)
      (le-false (length l) (length b) (omega arith)) ∙ ap (λ m. not_printed 20 m b) (sym e)

  put_whole : (l b : List ℕ) (n : ℕ) → n ≡ length l → n ≤ length b → put l b ≡ record
      { answer = record { number = 0; place = 0; written = n }; buffer = over l b }
  unfolding put_or over
  put_whole l b n e k = chosen (leb (length l) (length b)) (wrote-all l b) (not_printed 20 (length l) b) (le-true (length l) (length b) (omega arith)) ∙ ap
      (λ m. record { answer = record { number = 0; place = 0; written = m }; buffer = over l b }) (sym e)

  bytes_of : length (page_of (table_of s)) ≡ byte_count (table_of s)
  unfolding byte_count
  bytes_of = refl

  page-put : (b : List ℕ) → print_page s b ≡ put (page_of (table_of s)) b
  unfolding print_page print_of
  page-put b = let g = (held s h).reads in rw g

  pub page_short : (b : List ℕ) (n : ℕ) → n ≡ byte_count (table_of s) → length b < n → print_page s b ≡ not_printed 20 n b
  page_short b n e k = page-put b ∙ put_short (page_of (table_of s)) b n (e ∙ sym bytes_of) k

  pub page_whole : (b : List ℕ) (n : ℕ) → n ≡ byte_count (table_of s) → n ≤ length b → print_page s b ≡ record
      { answer = record { number = 0; place = 0; written = n }; buffer = over (page_of (table_of s)) b }
  page_whole b n e k = page-put b ∙ put_whole (page_of (table_of s)) b n (e ∙ sym bytes_of) k

  line-past-count : (k : ℕ) (b : List ℕ) → line_count (table_of s) ≤ k → print_line s k b ≡ not_printed 21 (line_count (table_of s)) b
  unfolding print_line print_line_of
  line-past-count k b e = let H = held s h in ap (λ x. print_line_of x k b) H.reads ∙ passed_over (ltb k (line_count (table_of s)))
      (put (line_at (table_of s) k) b) (not_printed 21 (line_count (table_of s)) b) (lt-false k (line_count (table_of s)) e)

  line-put : (k : ℕ) (b : List ℕ) → k < line_count (table_of s) → print_line s k b ≡ put (line_at (table_of s) k) b
  unfolding print_line print_line_of
  line-put k b e = let H = held s h in ap (λ x. print_line_of x k b) H.reads ∙ chosen (ltb k (line_count (table_of s))) (put (line_at (table_of s) k) b)
      (not_printed 21 (line_count (table_of s)) b) (lt-true k (line_count (table_of s)) e)

  lines-past-count : (k : ℕ) (b : List ℕ) → line_count (table_of s) ≤ k → several.print_lines s k b ≡ several.no_lines 21 (line_count (table_of s)) b
  unfolding several.print_lines several.print_lines_of
  lines-past-count k b e = let H = held s h in ap (λ x. several.print_lines_of x k b) H.reads ∙ passed_over (ltb k (line_count (table_of s)))
      (several.put_lines (table_of s) k b) (several.no_lines 21 (line_count (table_of s)) b) (lt-false k (line_count (table_of s)) e)

  lines-put : (k : ℕ) (b : List ℕ) → k < line_count (table_of s) → several.print_lines s k b ≡ several.put_lines (table_of s) k b
  unfolding several.print_lines several.print_lines_of
  lines-put k b e = let H = held s h in ap (λ x. several.print_lines_of x k b) H.reads ∙ chosen (ltb k (line_count (table_of s)))
      (several.put_lines (table_of s) k b) (several.no_lines 21 (line_count (table_of s)) b) (lt-true k (line_count (table_of s)) e)

  -- the page is opened over all rows
  module _ (p : DisplayInfo) (rows : rows_in s p.rows ≡ (table_of s).rows) where
    lines-all : lines_of s p ≡ page_lines (table_of s)
    unfolding lines_of page_lines
    lines-all = rw rows

    pub count-all : (r : Totals) → TotalsAre s p r → (r.lines ≡ line_count (table_of s)) × (r.bytes ≡ byte_count (table_of s))
    unfolding line_count
    count-all r T = (T.lines ∙ ap length lines-all, T.bytes ∙ ap (λ ls. length (closed ls)) lines-all ∙ sym (byte-count-closed (table_of s)))

    pub lines-bound : (c : Cursor) (k : ℕ) → ahead s p c ≡ drop k (lines_of s p) → length (ahead s p c) ≤ most_lines
    unfolding line_count
    lines-bound c k e = omega (arith, ap length e, length-drop k (lines_of s p), ap length lines-all, line-count-bound (table_of s) (limits_of s h))

    pub lines-bound-first : Opened s p → length (ahead s p (first_cursor p.rows)) ≤ most_lines
    lines-bound-first O = lines-bound (first_cursor p.rows) 0 (first-ahead s p O)

    pub lines_few : (c : Cursor) (k : ℕ) (r : Written) {b a : List ℕ} → ahead s p c ≡ drop k (lines_of s p) → WroteIs s p c b a r → r.lines ≤ most_lines
    lines_few c k r {b} {a} e W = omega (arith, W.lines, fitting_few (length b) (ahead s p c), lines-bound c k e)

    closed-page : (b : List ℕ) → over (closed (page_lines (table_of s))) b ≡ over (page_of (table_of s)) b
    unfolding page_of
    closed-page b = refl

    -- the whole page
    pub page-written : (b a : List ℕ) (r : Written) → ahead s p (first_cursor p.rows) ≡ lines_of s p → WroteIs s p (first_cursor p.rows) b a r → byte_count
        (table_of s) ≤ length b
        → print_page s b ≡ record { answer = record { number = 0; place = 0; written = r.bytes }; buffer = a }
    page-written b a r e W room =
        let bytes = byte-count-closed (table_of s) in
        let all : whole_lines (length b) (ahead s p (first_cursor p.rows)) ≡ page_lines (table_of s) =
        ap (whole_lines (length b)) (e ∙ lines-all) ∙ fitting-all (length b) (page_lines (table_of s)) (omega arith) in
        let n : r.bytes ≡ byte_count (table_of s) = W.bytes ∙ ap (λ ls. length (closed ls)) all ∙ sym bytes in
        let text : over (page_of (table_of s)) b ≡ a = sym (W.page ∙ ap (λ ls. over (closed ls) b) all ∙ closed-page b) in
        page_whole b r.bytes n (omega arith) ∙ ap (λ x. record { answer = record { number = 0; place = 0; written = r.bytes }; buffer = x }) text

    size-all : (k : ℕ) → size_of s p k ≡ length (line_at (table_of s) k)
    unfolding line_at
    size-all k = ap (λ ls. length (get_or ls k []) + 1) lines-all ∙ sym (length-append (get_or (page_lines (table_of s)) k []) (10 ∷ []))

    count-lines : length (lines_of s p) ≡ line_count (table_of s)
    unfolding line_count
    count-lines = ap length lines-all

    -- line k isn't there, or doesn't fit
    module _ (k : ℕ) (b : List ℕ) (r : Refusal) where
      as_told : (n q : ℕ) → refused_as r ≡ Refused n q → (n ≡ number_of r.reason) × (q ≡ r.place)
      as_told n q e = (cc, cc)

      pub line_turned : LineRefused s p k (length b) r → print_line s k b ≡ not_printed (number_of r.reason) r.place b
      line_turned (past h e) =
          let t = as_told 21 (length (lines_of s p)) e in
          line-past-count k b (omega (arith, count-lines)) ∙ rw (← t.0, ← t.1, count-lines)
      line_turned (short h i e) =
          let t = as_told 20 (size_of s p k) e in
          line-put k b (omega (arith, count-lines)) ∙ put_short (line_at (table_of s) k) b (size_of s p k) (size-all k) i ∙ rw (← t.0, ← t.1)

      pub lines_turned : LineRefused s p k (length b) r → several.print_lines s k b ≡ several.no_lines (number_of r.reason) r.place b
      unfolding several.put_lines
      lines_turned (past h e) =
          let t = as_told 21 (length (lines_of s p)) e in
          lines-past-count k b (omega (arith, count-lines)) ∙ rw (← t.0, ← t.1, count-lines)
      lines_turned (short h i e) =
          let t = as_told 20 (size_of s p k) e in
          lines-put k b (omega (arith, count-lines))
          ∙ passed_over (leb (length (line_at (table_of s) k)) (length b)) (several.lines_given k (whole_lines (length b) (drop k (page_lines (table_of s)))) b)
          (several.no_lines 20 (length (line_at (table_of s) k)) b)
          (le-false (length (line_at (table_of s) k)) (length b) (omega (arith, size-all k))) ∙ rw (← t.0, ← t.1, size-all k)

    -- it is there
    module _ (k : ℕ) (b : List ℕ) (r : Found) (F : LineFound s p k (length b) r) where
      pub found_here : (k < line_count (table_of s)) × ((r.size ≡ length (line_at (table_of s) k)) × (r.size ≤ length b))
      found_here = (omega (arith, F.there, count-lines), (F.size ∙ size-all k, omega (arith, F.size, F.fits)))

      first-line : ahead s p r.cursor ≡ get_or (page_lines (table_of s)) k [] ∷ drop (suc k) (page_lines (table_of s))
      unfolding line_count
      first-line = F.lines ∙ ap (drop k) lines-all ∙ drop-cons (page_lines (table_of s)) k [] found_here.0

      -- the line alone, over a part of the buffer that holds just it
      pub line-written : (y a : List ℕ) (w : Written) → length y ≡ r.size → WroteIs s p r.cursor y a w →
          (w.bytes ≡ length (line_at (table_of s) k)) × (a ≡ over (line_at (table_of s) k) y)
      unfolding line_at
      line-written y a w e W =
          let l = get_or (page_lines (table_of s)) k [] in
          let rest = drop (suc k) (page_lines (table_of s)) in
          let size : length (get_or (page_lines (table_of s)) k []) + 1 ≡ length (line_at (table_of s) k) = sym
          (length-append (get_or (page_lines (table_of s)) k []) (10 ∷ [])) in
          let m : length y ≡ length (get_or (page_lines (table_of s)) k []) + 1 = e ∙ found_here.1.0 ∙ sym size in
          let z : length y - (length (get_or (page_lines (table_of s)) k []) + 1) ≡ 0 = omega arith in
          let only : whole_lines (length y) (ahead s p r.cursor) ≡ get_or (page_lines (table_of s)) k [] ∷ [] =
          ap (whole_lines (length y)) first-line ∙ fitting_more (length y) (get_or (page_lines (table_of s)) k []) (drop (suc k) (page_lines (table_of s)))
          (omega arith)
          ∙ ap (λ ls. get_or (page_lines (table_of s)) k [] ∷ ls) (ap (λ i. whole_lines i (drop (suc k) (page_lines (table_of s)))) z ∙ fitting_nothing
          (drop (suc k) (page_lines (table_of s)))) in
          let closed_is : closed (whole_lines (length y) (ahead s p r.cursor)) ≡ line_at (table_of s) k = ap closed only ∙ closed-one
          (get_or (page_lines (table_of s)) k []) in
          (W.bytes ∙ ap length closed_is, W.page ∙ ap (λ t. over t y) closed_is)

      pub line-answer : (m : ℕ) (a : List ℕ) → m ≡ length (line_at (table_of s) k) → a ≡ over (line_at (table_of s) k) b
          → print_line s k b ≡ record { answer = record { number = 0; place = 0; written = m }; buffer = a }
      line-answer m a e f =
          let h = found_here in
          line-put k b h.0 ∙ put_whole (line_at (table_of s) k) b m e (omega (arith, h.1.0, h.1.1)) ∙ ap
          (λ x. record { answer = record { number = 0; place = 0; written = m }; buffer = x }) (sym f)

      -- lines from it on
      pub lines-answer : (a : List ℕ) (w : Written) → WroteIs s p r.cursor b a w
          → several.print_lines s k b ≡ record { answer = record { number = 0; place = 0; written = w.bytes; next = k + w.lines }; buffer = a }
      unfolding several.put_lines over
      lines-answer a w W =
          let h = found_here in
          let from : ahead s p r.cursor ≡ drop k (page_lines (table_of s)) = F.lines ∙ ap (drop k) lines-all in
          lines-put k b h.0
          ∙ chosen (leb (length (line_at (table_of s) k)) (length b)) (several.lines_given k (whole_lines (length b) (drop k (page_lines (table_of s)))) b)
          (several.no_lines 20 (length (line_at (table_of s) k)) b)
          (le-true (length (line_at (table_of s) k)) (length b) (omega (arith, h.1.0, h.1.1)))
          ∙ rw (W.bytes, W.lines, W.page, from)

      pub k_small : k ≤ most_lines
      k_small = omega (arith, found_here.0, line-count-bound (table_of s) (limits_of s h))
