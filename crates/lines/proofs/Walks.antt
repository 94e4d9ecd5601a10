-- A page counted, sought and written part after part. Assumes nothing.
use Prim.Native.Nat.{ℕ, ◌+◌, ◌-◌, ◌≤◌, ◌<◌}
use mathlib.Core.Path.{◌≡◌, refl, sym, ap, ◌∙◌}
use mathlib.Core.List.{List, [], ◌++◌, append_assoc}
use mathlib.Core.Bool.{true, false, true≢false}
use native.Mathlib.Omega.{arith}
use lib.ListN.{length, take, drop, get_or, length-append, length-drop, take-append-drop, get_or-append}
use lib.Seq.{get_or-drop, drop-drop, take_all, take_at}
use borrow.Author.Tests.{leb-false}
use borrow.Rule.Slice.PartMut.{put_mid}
use Rattle.rules.specs.Page.{closed}
use Rattle.laws.proofs.Sizes.{closed-append, closed_none}
use Rattle.formatting.specs.Part.{PartIs}
use Rattle.formatting.specs.declared.content_format.Part.{Part}
use Rattle.formatting.proofs.Parts.{part_none, part_length, part_room, part_whole, part_join, part_short}
use Rattle.display_info.specs.Opened.{Opened}
use Rattle.parts.specs.Ahead.{part_lines, rest_lines, ahead, lines_of, is_end, first_cursor, further_on, At, Next}
use Rattle.display_info.specs.declared.DisplayInfo.{DisplayInfo}
use Rattle.lines.specs.declared.Sought.{Sought}
use Rattle.parts.specs.declared.cursor.Cursor.{Cursor}
use Rattle.rules.specs.declared.Reason.TheVariants.{NoSuchLine, PageOverBuffer}
use Rattle.lines.specs.Walk.{size_of, TotalsAre, SoughtIs, LineFound, LineRefused, past, short, WroteIs}
use Rattle.parts.proofs.Parts.{ahead-start, first-at, first-ahead, end-ahead}
use Rattle.parts.proofs.Bands.{drop-append, drop_whole, take_more, part_few}

-- ---- counting

-- the parts before the cursor are counted
pub record Counting (s : List ℕ) (p : DisplayInfo) (c : Cursor) (lines bytes : ℕ) : Type 0 where
  pub at : At s p c
  pub start : c.line ≡ 0
  pub counted : lines + length (ahead s p c) ≡ length (lines_of s p)
  pub sized : bytes + length (closed (ahead s p c)) ≡ length (closed (lines_of s p))

pub counting_begins : (s : List ℕ) (p : DisplayInfo) → Opened s p → (c : Cursor) → c ≡ first_cursor p.rows → Counting s p c 0 0
counting_begins s p O c e = rw e (record {
  at = first-at s p O;
  start = refl;
  counted = omega (arith, ap length (first-ahead s p O));
  sized = omega (arith, ap (λ ls. length (closed ls)) (first-ahead s p O));
})

module _ (s : List ℕ) (p : DisplayInfo) (c : Cursor) (lines bytes : ℕ) (C : Counting s p c lines bytes) where
  parts-length : length (ahead s p c) ≡ length (part_lines s p c) + length (rest_lines s p c)
  parts-length = ap length (ahead-start s p c C.start) ∙ length-append (part_lines s p c) (rest_lines s p c)

  parts_bytes : length (closed (ahead s p c)) ≡ length (closed (part_lines s p c)) + length (closed (rest_lines s p c))
  parts_bytes = ap (λ ls. length (closed ls)) (ahead-start s p c C.start) ∙ ap length (closed-append (part_lines s p c) (rest_lines s p c)) ∙
      length-append (closed (part_lines s p c)) (closed (rest_lines s p c))

  module _ (n m : ℕ) (en : n ≡ length (part_lines s p c)) (em : m ≡ length (closed (part_lines s p c))) where
    pub counting-room : (lines + n ≤ length (lines_of s p)) × (bytes + m ≤ length (closed (lines_of s p)))
    counting-room =
        let b = parts_bytes in
        (omega (arith, parts-length, C.counted), omega (arith, C.sized))

    pub counting-on : (k : Cursor) → Next s c k → Counting s p k (lines + n) (bytes + m)
    counting-on k N =
        let b = parts_bytes in
        record {
          at = N.at p;
          start = N.start;
          counted = rw (N.lines p) (omega (arith, parts-length, C.counted));
          sized = rw (N.lines p) (omega (arith, C.sized));
        }

  pub counting_done : is_end c.stage ≡ true → TotalsAre s p (record { lines = lines; bytes = bytes })
  counting_done e =
      let z = end-ahead s p c e in
      record {
        lines = omega (arith, C.counted, ap length z);
        bytes = omega (arith, C.sized, ap length (ap closed z ∙ closed_none));
      }

-- ---- seeking

-- `left` lines are still to be passed to reach line k
pub record Reaching (s : List ℕ) (p : DisplayInfo) (k : ℕ) (c : Cursor) (left : ℕ) : Type 0 where
  pub at : At s p c
  pub start : c.line ≡ 0
  pub within : left ≤ k
  pub lines : ahead s p c ≡ drop (k - left) (lines_of s p)
  pub passed : k - left ≤ length (lines_of s p)

pub reaching_begins : (s : List ℕ) (p : DisplayInfo) → Opened s p → (k : ℕ) (c : Cursor) → c ≡ first_cursor p.rows → Reaching s p k c k
reaching_begins s p O k c e =
    let z : k - k ≡ 0 = omega arith in
    rw e (record {
      at = first-at s p O;
      start = refl;
      within = omega arith;
      lines = first-ahead s p O ∙ ap (λ n. drop n (lines_of s p)) (sym z);
      passed = omega arith;
    })

module _ (s : List ℕ) (p : DisplayInfo) (k : ℕ) (c : Cursor) (left : ℕ) (R : Reaching s p k c left) where
  here-lines : length (part_lines s p c) + length (rest_lines s p c) ≡ length (lines_of s p) - (k - left)
  here-lines = sym (ap length (ahead-start s p c R.start) ∙ length-append (part_lines s p c) (rest_lines s p c)) ∙ ap length R.lines ∙ length-drop
      (k - left) (lines_of s p)

  pub reaching_found : (n : ℕ) → n ≡ length (part_lines s p c) → left < n → (r : Cursor) → r ≡ further_on c left → SoughtIs s p k
      (record { cursor = r; passed = k })
  unfolding ahead part_lines rest_lines
  reaching_found n e h r q =
      let z : 0 + left ≡ left = omega arith in
      let w = R.within in
      let line : r.line ≡ left = ap (λ (x : Cursor). x.line) q ∙ omega (arith, R.start) in
      let same : part_lines s p r ≡ part_lines s p c = rw q in
      let on : drop left (ahead s p c) ≡ ahead s p r =
      ap (drop left) (ahead-start s p c R.start) ∙ drop-append left (part_lines s p c) (rest_lines s p c) (omega arith) ∙ sym (rw (q, R.start, z))
      in
      let k_is : k - left + left ≡ k = omega arith in
      let there : drop left (ahead s p c) ≡ drop k (lines_of s p) =
      ap (drop left) R.lines ∙ drop-drop left (k - left) (lines_of s p) ∙ ap (λ m. drop m (lines_of s p)) k_is in
      record {
        lines = sym on ∙ there;
        at = record { rows = rw q R.at.rows; within = omega (arith, line, ap length same) };
        within = omega arith;
        passed = omega (arith, here-lines, R.passed);
        reached = λ _. refl;
        some = λ _. omega (arith, line, ap length same);
      }

  pub reaching-on : (n : ℕ) → n ≡ length (part_lines s p c) → n ≤ left → (r : Cursor) → Next s c r → Reaching s p k r (left - n)
  reaching-on n e h r N =
      let w = R.within in
      let m : k - (left - n) ≡ k - left + n = omega arith in
      let rest : rest_lines s p c ≡ drop n (ahead s p c) =
      sym (ap (drop n) (ahead-start s p c R.start) ∙ drop-append n (part_lines s p c) (rest_lines s p c) (omega arith) ∙ rw
      (drop_whole n (part_lines s p c) (omega arith))) in
      record {
        at = N.at p;
        start = N.start;
        within = omega arith;
        lines = N.lines p ∙ rest ∙ ap (drop n) R.lines ∙ drop-drop n (k - left) (lines_of s p) ∙ ap (λ j. drop j (lines_of s p)) (sym m);
        passed = omega (arith, here-lines, R.passed);
      }

module _ (s : List ℕ) (p : DisplayInfo) (k : ℕ) (r : Sought) (S : SoughtIs s p k r) where
  -- at the end all lines are passed
  pub all_passed : is_end r.cursor.stage ≡ true → r.passed ≡ length (lines_of s p)
  all_passed e = omega (
    arith,
    S.passed,
    ap length (sym S.lines ∙ end-ahead s p r.cursor e),
    length-drop r.passed (lines_of s p),
  )

  pub found_past : is_end r.cursor.stage ≡ true → (room : ℕ) → LineRefused s p k room (record { reason = NoSuchLine; place = r.passed })
  found_past e room = past (omega (arith, S.within, all_passed e)) (rw (all_passed e))

  module _ (e : is_end r.cursor.stage ≡ false) where
    there : ahead s p r.cursor ≡ drop k (lines_of s p)
    there = S.lines ∙ ap (λ n. drop n (lines_of s p)) (S.reached e)

    here-line : get_or (ahead s p r.cursor) 0 [] ≡ get_or (part_lines s p r.cursor) r.cursor.line []
    unfolding ahead
    here-line =
        let c = r.cursor in
        let z : r.cursor.line + 0 ≡ r.cursor.line = omega arith in
        get_or-append (drop r.cursor.line (part_lines s p r.cursor)) (rest_lines s p r.cursor) [] 0
        (omega (arith, length-drop r.cursor.line (part_lines s p r.cursor), S.some e))
        ∙ get_or-drop r.cursor.line (part_lines s p r.cursor) 0 [] ∙ ap (λ n. get_or (part_lines s p r.cursor) n []) z

    pub before : k < length (lines_of s p)
    unfolding ahead
    before = omega (
      arith,
      S.some e,
      ap length there,
      length-append (drop r.cursor.line (part_lines s p r.cursor)) (rest_lines s p r.cursor),
      length-drop r.cursor.line (part_lines s p r.cursor),
      length-drop k (lines_of s p),
    )

    module _ (size : ℕ) (Z : size ≡ length (get_or (part_lines s p r.cursor) r.cursor.line []) + 1) where
      size_is : size ≡ size_of s p k
      size_is =
          let z : k + 0 ≡ k = omega arith in
          let line : get_or (lines_of s p) k [] ≡ get_or (part_lines s p r.cursor) r.cursor.line [] =
          sym (get_or-drop k (lines_of s p) 0 [] ∙ ap (λ n. get_or (lines_of s p) n []) z) ∙ ap (λ ls. get_or ls 0 []) (sym there) ∙ here-line in
          Z ∙ sym (ap (λ l. length l + 1) line)

      pub found_short : (room : ℕ) → room < size → LineRefused s p k room (record { reason = PageOverBuffer; place = size })
      found_short room h = short before (omega (arith, h, size_is)) (rw size_is)

      pub found_there : (room : ℕ) → size ≤ room → LineFound s p k room (record { size = size; cursor = r.cursor })
      found_there room h = record { there = before; fits = omega (arith, h, size_is); size = size_is; lines = there; at = S.at }

-- ---- writing

-- `n` of the lines that `from` had before it are written, in `at` bytes
pub record Filling (s : List ℕ) (p : DisplayInfo) (from : Cursor) (b page : List ℕ) (c : Cursor) (n at : ℕ) : Type 0 where
  pub stands : At s p c
  pub few : n ≤ length (ahead s p from)
  pub rest : ahead s p c ≡ drop n (ahead s p from)
  pub part : PartIs (take n (ahead s p from)) b page (record { lines = n; bytes = at; whole = true })

pub filling_begins : (s : List ℕ) (p : DisplayInfo) (from : Cursor) (b : List ℕ) → At s p from → Filling s p from b b from 0 0
filling_begins s p from b A = record { stands = A; few = omega arith; rest = refl; part = part_none b }

module _ (s : List ℕ) (p : DisplayInfo) (from : Cursor) (b page : List ℕ) (c : Cursor) (n at : ℕ) (G : Filling s p from b page c n at) where
  pub filling-room : at ≤ length page
  filling-room = part_room _ b page _ G.part

  ahead_is : ahead s p c ≡ drop c.line (part_lines s p c) ++ rest_lines s p c
  unfolding ahead
  ahead_is = refl

  left_is : drop n (ahead s p from) ≡ drop c.line (part_lines s p c) ++ rest_lines s p c
  left_is = sym G.rest ∙ ahead_is

  all_is : ahead s p from ≡ (take n (ahead s p from) ++ drop c.line (part_lines s p c)) ++ rest_lines s p c
  all_is = sym (take-append-drop n (ahead s p from)) ∙ ap (λ ls. take n (ahead s p from) ++ ls) left_is
      ∙ sym (append_assoc (take n (ahead s p from)) (drop c.line (part_lines s p c)) (rest_lines s p c))

  module _ (ys d : List ℕ) (r : Part) (P : PartIs (drop c.line (part_lines s p c)) (take (length page - at) (drop at page)) ys r)
      (e : d ≡ put_mid at (length page - at) page ys) where
    both : PartIs (take n (ahead s p from) ++ drop c.line (part_lines s p c)) b d
        (record { lines = n + r.lines; bytes = at + r.bytes; whole = r.whole })
    both = part_join (take n (ahead s p from)) (drop c.line (part_lines s p c)) b page d ys (record { lines = n; bytes = at; whole = true }) r
        G.part refl P e

    pub filling-lines : n + r.lines ≤ length (ahead s p from)
    filling-lines = omega (
      arith,
      part_few _ _ _ _ P,
      ap length left_is,
      length-append (drop c.line (part_lines s p c)) (rest_lines s p c),
      length-drop n (ahead s p from),
      G.few,
    )

    pub filling_bytes : at + r.bytes ≤ length b
    filling_bytes = omega (arith, part_room _ b d _ both, part_length _ b d _ both)

    -- the part is whole
    pub filling-on : r.whole ≡ true → (k : Cursor) → Next s c k → Filling s p from b d k (n + r.lines) (at + r.bytes)
    filling-on w k N =
        let m : r.lines ≡ length (drop c.line (part_lines s p c)) = P.lines ∙ part_whole _ _ _ _ P w in
        let rest : drop (n + r.lines) (ahead s p from) ≡ rest_lines s p c =
        sym (drop-drop r.lines n (ahead s p from)) ∙ ap (drop r.lines) left_is
        ∙ drop-append r.lines (drop c.line (part_lines s p c)) (rest_lines s p c) (omega arith) ∙ rw
        (drop_whole r.lines (drop c.line (part_lines s p c)) (omega arith)) in
        let done : take (n + r.lines) (ahead s p from) ≡ take n (ahead s p from) ++ drop c.line (part_lines s p c) =
        take_more n r.lines (ahead s p from) ∙ ap (λ ls. take n (ahead s p from) ++ take r.lines ls) left_is
        ∙ ap (λ ls. take n (ahead s p from) ++ ls) (take_at (drop c.line (part_lines s p c)) (rest_lines s p c) r.lines (sym m)) in
        record {
          stands = N.at p;
          few = filling-lines;
          rest = N.lines p ∙ sym rest;
          part = rw (done, ← w) both;
        }

    -- it isn't: nothing after it is written
    pub filling_stops : r.whole ≡ false → (k : Cursor) → k ≡ further_on c r.lines → WroteIs s p from b d
        (record { lines = n + r.lines; bytes = at + r.bytes; next = k })
    unfolding ahead part_lines rest_lines
    filling_stops w k q =
        let S = part_short _ (rest_lines s p c) b d _ both w in
        let all_lines = all_is in
        let l = leb-false (length (drop c.line (part_lines s p c))) r.lines (sym P.whole ∙ w) in
        let dl = length-drop c.line (part_lines s p c) in
        let on : drop r.lines (ahead s p c) ≡ ahead s p k =
        ap (drop r.lines) ahead_is ∙ drop-append r.lines (drop c.line (part_lines s p c)) (rest_lines s p c) (omega arith)
        ∙ ap (λ ls. ls ++ rest_lines s p c) (drop-drop r.lines c.line (part_lines s p c)) ∙ sym (rw q) in
        record {
          lines = S.lines ∙ rw (← all_lines);
          bytes = S.bytes ∙ rw (← all_lines);
          page = S.page ∙ rw (← all_lines);
          next = sym on ∙ ap (drop r.lines) G.rest ∙ drop-drop r.lines n (ahead s p from);
          at = record { rows = rw q G.stands.rows; within = rw q (omega arith) };
          left = λ _. omega (
            arith,
            ap length left_is,
            length-append (drop c.line (part_lines s p c)) (rest_lines s p c),
            length-drop n
                (ahead s p from),
            G.few,
          );
        }

  -- nothing is left
  pub filling_done : is_end c.stage ≡ true → WroteIs s p from b page (record { lines = n; bytes = at; next = c })
  filling_done e =
      let none : drop n (ahead s p from) ≡ [] = sym G.rest ∙ end-ahead s p c e in
      let whole : take n (ahead s p from) ≡ ahead s p from = take_all n (ahead s p from)
      (omega (arith, ap length none, length-drop n (ahead s p from))) in
      record {
        lines = G.part.lines ∙ rw whole;
        bytes = G.part.bytes ∙ rw whole;
        page = G.part.page ∙ rw whole;
        next = G.rest;
        at = G.stands;
        left = λ f. absurd (true≢false (sym e ∙ f));
      }
