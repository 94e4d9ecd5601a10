-- Lines of a row drawn one after another. Assumes nothing.
use Prim.Native.Nat.{ℕ, suc, ◌+◌, ◌-◌, ◌≤◌, ◌<◌}
use mathlib.Core.Path.{◌≡◌, refl, sym, ap, subst, ◌∙◌}
use mathlib.Core.List.{List, [], ◌∷◌, ◌++◌, map}
use mathlib.Core.Bool.{Bool, true, false, not, ◌&&◌}
use native.Mathlib.Omega.{arith}
use lib.ListN.{length, take, drop, get_or, length-append, length-map, length-drop, take-append-drop}
use lib.Seq.{take-suc, take_all, get_or-drop, drop-cons}
use borrow.Author.Tests.{ltb-true, ltb-false, leb-true, leb-false}
use lib.Dec.{leb}
use borrow.Rule.Slice.PartMut.{put_mid}
use Rattle.rules.specs.Sheet.{Row}
use Rattle.rules.specs.Widths.{visible, contents}
use Rattle.rules.specs.Page.{area_at, areas}
use Rattle.laws.proofs.Areas.{length-areas, line_at}
use Rattle.laws.proofs.Lists.{get_d_map}
use Rattle.table.specs.Held.{table_of}
use Rattle.buffer.specs.Put.{over}
use Rattle.buffer.proofs.Laws.{lent, lent_same}
use Rattle.row.specs.View.{View, Views}
use Rattle.row.specs.Height.{added_up_to}
use Rattle.formatting.specs.Line.{line_bytes, AfterAll, ReadyAll}
use Rattle.row.specs.Pending.{any_found}
use Rattle.formatting.specs.Part.{PartIs}
use Rattle.rules.specs.Limits.{Plain}
use Rattle.formatting.specs.Shown.{pairs_shown}
use Rattle.formatting.specs.RowText.{styled, row_lines, row_height, most_bytes, Marks, Sized, StandsAt}
use Rattle.formatting.specs.Stand.{in_limit, last_of}
use Rattle.row.specs.Open.{OpenedRow}
use Rattle.row.specs.declared.Pending.{Pending}
use Rattle.buffer.specs.declared.Edges.{Edges}
use Rattle.formatting.proofs.Parts.{part_none, part-line, part-full, part_length, part_room, part_join}
use Rattle.formatting.proofs.Whole.{line-styled, height_has, opened-stands, stands_after, stands_ready}

pub lines-count : (s : List ℕ) (y : Edges) (r : Row) → length (row_lines s y r) ≡ row_height s r
unfolding row_lines
lines-count s y r = length-map (areas (table_of s) (contents (table_of s)) r) (styled y) ∙ length-areas (table_of s) (contents (table_of s)) r

line_of : (s : List ℕ) (y : Edges) (r : Row) (j : ℕ) → j < row_height s r
    → get_or (row_lines s y r) j [] ≡ styled y (map (area_at (table_of s) (contents (table_of s)) r j) (visible (table_of s)))
unfolding row_lines
line_of s y r j h =
    get_d_map (styled y) (areas (table_of s) (contents (table_of s)) r) j [] [] (omega (arith, length-areas (table_of s) (contents (table_of s)) r))
    ∙ ap (styled y) (line_at (table_of s) (contents (table_of s)) r j h)

pub first-true : (a b : Bool) → (a && b) ≡ true → a ≡ true
first-true true b e = refl
first-true false b e = e

-- line j is pending, and its bytes are known, n being those of a plain line
pub record Measured (s : List ℕ) (view : View) (r : Row) (j : ℕ) (i : List ℕ) (y : Edges) (ts : List Pending) (last plain : Bool) (n : ℕ) : Type 0 where
  pub ready : ReadyAll s view ts
  pub indicator : Plain i
  pub most : length (line_bytes s view i y ts last) ≤ most_bytes plain n (length view)
  pub each : plain ≡ true → n ≡ length (line_bytes s view i y ts last)
  pub shown : length (line_bytes s view i y ts last)
      ≡ n + added_up_to (pairs_shown i r.limit j 1) r.cells view (length view)

-- ---- a row entered

module _ (s : List ℕ) (view : View) (r : Row) (W : Views (table_of s) (contents (table_of s)) view) where
  pub enters : (j : ℕ) (ts : List Pending) (found m : Bool) (limit : ℕ) → OpenedRow s r.cells view j ts → found ≡ any_found ts (length view)
      → limit ≡ r.limit → m ≡ (in_limit limit j && found) → StandsAt s view r j m ts
  enters j ts found m limit o f l g =
      let R = opened-stands s (table_of s) (contents (table_of s)) r view j ts W o in
      record { has = g ∙ rw (f, l) (sym (height_has s (table_of s) (contents (table_of s)) r view W j ts R)); stands = λ _. R }

  module _ (j : ℕ) (more : Bool) (ts : List Pending) (S : StandsAt s view r j more ts) (e : more ≡ true) where
    pub stands-drawn : ReadyAll s view ts
    stands-drawn = stands_ready s (table_of s) (contents (table_of s)) r view j ts W (S.stands e)

    pub stands_less : j < row_height s r
    stands_less = ltb-true j (row_height s r) (sym S.has ∙ e)

    pub stands-within : in_limit r.limit j ≡ true
    stands-within = first-true (in_limit r.limit j) (any_found ts (length view))
        (sym (height_has s (table_of s) (contents (table_of s)) r view W j ts (S.stands e)) ∙ sym S.has ∙ e)

    -- the pending line is the row's
    module _ (i : List ℕ) (M : Marks s i) (y : Edges) (limit : ℕ) (el : limit ≡ r.limit) (last : Bool) (ea : last ≡ last_of limit j) where
      pub line-here : line_bytes s view i y ts last ≡ get_or (row_lines s y r) j [] ++ (10 ∷ [])
      line-here =
          rw (M.are, ea, el)
          (line-styled s (table_of s) (contents (table_of s)) r view W j ts (S.stands e) y stands-within
          ∙ ap (λ l. l ++ (10 ∷ [])) (sym (line_of s y r j stands_less)))

      pub here_size : length (line_bytes s view i y ts last) ≡ length (get_or (row_lines s y r) j []) + 1
      here_size = ap length line-here ∙ length-append (get_or (row_lines s y r) j []) (10 ∷ [])

      -- it has its 0A
      pub line-some : 0 < length (line_bytes s view i y ts last)
      line-some = omega (arith, here_size)

    -- it can be drawn, and its bytes are known
    pub stands_measurable : (i : List ℕ) → Marks s i → (y : Edges) (limit : ℕ) → limit ≡ r.limit → (last : Bool) → last ≡ last_of limit j
        → (plain : Bool) (n : ℕ) → Sized s y r plain view n → Measured s view r j i y ts last plain n
    stands_measurable i M y limit el last ea plain n Z =
        let h = here_size i M y limit el last ea in
        record {
          ready = stands-drawn;
          indicator = M.plain;
          most = omega (arith, h, Z.most j stands_less);
          each = λ p. sym (h ∙ Z.each p j stands_less);
          shown = h ∙ rw M.are (Z.shown j stands_less);
        }

    -- the row goes on
    pub stands_more : (limit : ℕ) → limit ≡ r.limit → (us : List Pending) (found m : Bool) → AfterAll s view ts us → found ≡ any_found us
        (length view)
        → m ≡ (in_limit limit (j + 1) && found) → StandsAt s view r (j + 1) m us
    stands_more limit l us found m a f g =
        let R = stands_after s (table_of s) (contents (table_of s)) r view j ts us (S.stands e) a in
        record { has = g ∙ rw (f, l) (sym (height_has s (table_of s) (contents (table_of s)) r view W (j + 1) us R)); stands = λ _. R }

-- ---- lines drawn

-- the lines from `first` up to `line` are written, and line `line` is pending, if the row has it
pub record Running (s : List ℕ) (view : View) (y : Edges) (r : Row) (first : ℕ) (b page : List ℕ) (ts : List Pending) (more : Bool)
    (at line : ℕ) : Type 0 where
  pub onward : first ≤ line
  pub stands : StandsAt s view r line more ts
  pub part : PartIs (take (line - first) (drop first (row_lines s y r))) b page (record { lines = line - first; bytes = at; whole = true })

module _ (s : List ℕ) (view : View) (y : Edges) (r : Row) (first : ℕ) (W : Views (table_of s) (contents (table_of s)) view) (b : List ℕ) where
  pub running_begins : (ts : List Pending) (more : Bool) → StandsAt s view r first more ts → Running s view y r first b b ts more 0 first
  running_begins ts more S =
      let z : first - first ≡ 0 = omega arith in
      record { onward = omega arith; stands = S; part = rw z (part_none b) }

  module _ (page : List ℕ) (ts : List Pending) (more : Bool) (at line : ℕ) (G : Running s view y r first b page ts more at line) where
    pub running-length : length page ≡ length b
    running-length = part_length _ b page _ G.part

    pub running-room : at ≤ length page
    running-room = part_room _ b page _ G.part

    module _ (e : more ≡ true) where
      less : line < row_height s r
      less = stands_less s view r W line more ts G.stands e

      left : line - first < length (drop first (row_lines s y r))
      left = omega (arith, less, lines-count s y r, length-drop first (row_lines s y r), G.onward)

      here-at : get_or (drop first (row_lines s y r)) (line - first) [] ≡ get_or (row_lines s y r) line []
      here-at = get_or-drop first (row_lines s y r) (line - first) [] ∙ ap (λ k. get_or (row_lines s y r) k []) (omega (arith, G.onward))

      module _ (i : List ℕ) (M : Marks s i) (limit : ℕ) (el : limit ≡ r.limit) (last : Bool) (ea : last ≡ last_of limit line) where
        here : line_bytes s view i y ts last ≡ get_or (row_lines s y r) line [] ++ (10 ∷ [])
        here = line-here s view r W line more ts G.stands e i M y limit el last ea

        size : length (line_bytes s view i y ts last) ≡ length (get_or (row_lines s y r) line []) + 1
        size = ap length here ∙ length-append (get_or (row_lines s y r) line []) (10 ∷ [])

        -- a line was written
        pub running-on : length (line_bytes s view i y ts last) ≤ length page - at
            → (c ys : List ℕ) (us : List Pending) (found m : Bool) (n : ℕ)
            → ys ≡ over (line_bytes s view i y ts last) (take (length page - at) (drop at page)) → c ≡ put_mid at
            (length page - at) page ys
            → n ≡ length (line_bytes s view i y ts last) → AfterAll s view ts us → found ≡ any_found us (length view)
            → m ≡ (in_limit limit (line + 1) && found) → Running s view y r first b c us m (at + n) (line + 1)
        running-on room c ys us found m n o p q a f g =
            let wide : n ≡ length (get_or (row_lines s y r) line []) + 1 = q ∙ size in
            let fits : length (get_or (row_lines s y r) line []) + 1 ≤ length (take (length page - at) (drop at page)) =
            omega (arith, room, size, ap length (lent page at), length-drop at page) in
            let one = part-line (get_or (row_lines s y r) line []) (take (length page - at) (drop at page)) ys fits
            (o ∙ ap (λ t. over t (take (length page - at) (drop at page))) here) in
            let both = part_join (take (line - first) (drop first (row_lines s y r))) (get_or (row_lines s y r) line [] ∷ []) b page c ys
            (record { lines = line - first; bytes = at; whole = true })
            (record { lines = 1; bytes = length (get_or (row_lines s y r) line []) + 1; whole = true })
            G.part refl one p in
            let k : line + 1 - first ≡ suc (line - first) = omega (arith, G.onward) in
            let grown : take (line + 1 - first) (drop first (row_lines s y r)) ≡ take (line - first) (drop first (row_lines s y r)) ++
            (get_or (row_lines s y r) line [] ∷ []) =
            ap (λ j. take j (drop first (row_lines s y r))) k ∙ take-suc (drop first (row_lines s y r)) (line - first) [] left ∙ rw here-at in
            let count : line + 1 - first ≡ line - first + 1 = omega (arith, G.onward) in
            record {
              onward = omega (arith, G.onward);
              stands = stands_more s view r W line more ts G.stands e limit el us found m a f g;
              part = rw (grown, count, wide) both;
            }

        -- there is no room for it
        pub running-full : length page - at < length (line_bytes s view i y ts last)
            → PartIs (drop first (row_lines s y r)) b page (record { lines = line - first; bytes = at; whole = false })
        running-full h =
            let next : drop (line - first) (drop first (row_lines s y r)) ≡ get_or (row_lines s y r) line [] ∷ drop (suc (line - first))
            (drop first (row_lines s y r)) =
            drop-cons (drop first (row_lines s y r)) (line - first) [] left ∙ rw here-at in
            let whole : drop first (row_lines s y r)
            ≡ take (line - first) (drop first (row_lines s y r)) ++ (get_or (row_lines s y r) line [] ∷ drop (suc (line - first))
            (drop first (row_lines s y r))) =
            sym (take-append-drop (line - first) (drop first (row_lines s y r))) ∙ rw next in
            let none = part-full (get_or (row_lines s y r) line []) (drop (suc (line - first)) (drop first (row_lines s y r)))
            (take (length page - at) (drop at page))
            (omega (arith, h, size, ap length (lent page at), length-drop at page)) in
            let both = part_join (take (line - first) (drop first (row_lines s y r)))
            (get_or (row_lines s y r) line [] ∷ drop (suc (line - first)) (drop first (row_lines s y r)))
            b page page (take (length page - at) (drop at page)) (record { lines = line - first; bytes = at; whole = true })
            (record { lines = 0; bytes = 0; whole = false })
            G.part refl none (sym (lent_same page at running-room)) in
            let z : at + 0 ≡ at = omega arith in
            let w : line - first + 0 ≡ line - first = omega arith in
            subst (λ (ls : List (List ℕ)). PartIs ls b page (record { lines = line - first; bytes = at; whole = false })) (sym whole) (rw (z, w) at both)

    -- the row has no further line
    pub running_ends : more ≡ false → PartIs (drop first (row_lines s y r)) b page (record { lines = line - first; bytes = at; whole = true })
    running_ends e =
        let h = ltb-false line (row_height s r) (sym G.stands.has ∙ e) in
        let all : take (line - first) (drop first (row_lines s y r)) ≡ drop first (row_lines s y r) =
        take_all (line - first) (drop first (row_lines s y r)) (omega (arith, lines-count s y r, length-drop first (row_lines s y r))) in
        rw all at G.part

-- ---- room

-- what was found where the most doesn't fit: the line doesn't, or it does
pub too_long : (plain : Bool) (size n l count room : ℕ) → room < most_bytes plain size count → (plain ≡ true → size ≡ l) → l ≡ n
    → (not plain && leb n room) ≡ false → room < l
too_long true size n l count room h e f g = omega (arith, e refl)
too_long false size n l count room h e f g = omega (arith, leb-false n room g)

pub short_enough : (plain : Bool) (n l room : ℕ) → l ≡ n → (not plain && leb n room) ≡ true → l ≤ room
short_enough true n l room f g = let z : ◌≡◌ {A = ℕ} 0 1 = cc in absurd (omega arith)
short_enough false n l room f g = omega (arith, leb-true n room g)
