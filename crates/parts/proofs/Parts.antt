-- The parts of a page one after another. Assumes nothing.
use Prim.Native.Nat.{ℕ, zero, suc, ◌+◌, ◌-◌, ◌*◌, ◌≤◌, ◌<◌}
use mathlib.Core.Path.{◌≡◌, refl, sym, ap, ◌∙◌}
use mathlib.Core.List.{List, [], ◌∷◌, ◌++◌, map, append_assoc, append-nil}
use mathlib.Core.Logic.{∥∥₁_map, inl, inr, ⊎_elim}
use mathlib.Core.Bool.{Bool, true, false}
use native.Mathlib.Omega.{arith}
use lib.ListN.{length, drop, get_or, length-drop}
use lib.Seq.{drop-drop}
use lib.Dec.{ltb}
use borrow.Author.Tests.{lt-ltb, le-ltb}
use Rattle.rules.specs.Text.{All}
use Rattle.rules.specs.Sheet.{Cell, Row, no_row, all_rows}
use Rattle.rules.specs.Limits.{LineLimits, CellLimits, RowLimits, Plain, PlainCell, PlainRow}
use Rattle.rules.specs.Style.{top_border, header_lines, header_rule, content_lines, row_rule, bottom_border, any_junction, is_visible}
use Rattle.rules.specs.Widths.{visible}
use Rattle.rules.specs.Page.{areas, area_at, text_line, row_text, visible_widths, closed, ruled, shown, headed, ruled_rows, ruled_more, framed}
use Rattle.laws.proofs.Areas.{length-areas, line_at, visible-some}
use Rattle.laws.proofs.RowBytes.{line_bytes, row-shown, row_bytes}
use Rattle.laws.proofs.Counts.{height_bound, text-line-bound, text-line-most, text-line_twice}
use Rattle.laws.proofs.Lines.{plain_row, rule-length, border-length}
use Rattle.laws.proofs.Lists.{all_drop, all_get_d, all_left, all_right, get_d_map}
use Rattle.table.specs.Held.{IsAccepted, table_of}
use Rattle.table.proofs.Held.{held}
use Rattle.laws.proofs.Accepted.{accepted}
use Rattle.table.specs.Walk.{rows_in, first_row, RowsNext}
use Rattle.table.specs.declared.records.Rows.{Rows}
use Rattle.table.proofs.Walks.{rows_number}
use Rattle.cells.specs.Cell.{TextIs}
use Rattle.row.specs.Open.{CellKnown}
use Rattle.row.specs.Height.{added_up_to, pairs_held}
use Rattle.formatting.specs.Shown.{pairs_shown}
use Rattle.parts.proofs.Measures.{held-sum, line-sum, shown-sum}
use Rattle.formatting.specs.RowText.{styled, row_lines, row_height, most_bytes, Sized, Drawable}
use Rattle.borders.specs.Rule.{rule_text, rule_style_of}
use Rattle.borders.specs.declared.RuleStyle.{RuleStyle}
use Rattle.std.specs.Bool.{then_some}
use Rattle.std.specs.Option.{ForSome, option_and_then}
use Rattle.std.specs.Prelude.{Option, Some, None}
use Rattle.formatting.specs.Stand.{text_style_of}
use Rattle.formatting.proofs.Whole.{styled_text}
use Rattle.borders.proofs.Rule.{rule-drawn}
use Rattle.display_info.proofs.Among.{among-skipped}
use Rattle.display_info.proofs.Opening.{limits_of}
use Rattle.display_info.specs.Opened.{widths_in, styles_of, RowsAt, Opened}
use Rattle.parts.specs.Ahead.{rule_lines, text_lines, first_ruled, header_lines_of, row_lines_of, body_lines, part_by, part_lines, rest_by, rest_lines}
use Rattle.parts.specs.Ahead.{ahead, lines_of, is_end, first_cursor, At, Next, AfterRow}
use Rattle.parts.specs.Band.{rule_by, SizedRule, band_lines, body_style, SizedBand}
use Rattle.parts.specs.Part.{PartAt}
use Rattle.parts.specs.declared.part.PagePart.TheVariants.{Border, Band}
use Rattle.display_info.specs.declared.RowStyle.{RowStyle}
use Rattle.display_info.specs.declared.DisplayInfo.{DisplayInfo}
use Rattle.parts.specs.declared.cursor.Cursor.{Cursor}
use Rattle.parts.specs.declared.cursor.Stage.{Stage}
use Rattle.parts.specs.declared.cursor.Stage.TheVariants.{Top, Header, Body, Bottom, End}

-- ---- rows

-- without the first, the last of some rows are the last of them still
one-less : (s : List ℕ) (c n : Rows) → RowsNext s c n → (rs : List Row) → rows_in s c ≡ drop (length rs - c.left) rs
    → drop 1 (rows_in s c) ≡ drop (length rs - n.left) rs
one-less s c n N rs e =
    let k = length rs - c.left in
    let z : 1 + k ≡ length rs - n.left = omega (arith, N.left, rows_number s c, ap length e, length-drop k rs) in
    ap (drop 1) e ∙ drop-drop 1 k rs ∙ ap (λ m. drop m rs) (sum_turned k z)
  where
    sum_turned : (k : ℕ) {m : ℕ} → 1 + k ≡ m → k + 1 ≡ m
    sum_turned k e = omega (arith, e)

-- the rows after the first are within the sheet and the limits too
pub rows_next : (s : List ℕ) (c n : Rows) → RowsAt s c → RowsNext s c n → RowsAt s n
rows_next s c n A N = record {
  ends = omega (arith, N.ends, A.ends);
  sound = rw N.rows (all_drop _ 1 (rows_in s c) A.sound);
  among = ∥∥₁_map A.among
      (⊎_elim
      (λ (e : rows_in s c ≡ drop (length (table_of s).header - c.left) (table_of s).header). inl (N.rows ∙ one-less s c n N (table_of s).header e))
      (λ (e : rows_in s c ≡ drop (length (table_of s).rows - c.left) (table_of s).rows). inr (N.rows ∙ one-less s c n N (table_of s).rows e)));
}

-- what holds of all rows of the table holds of the first of these
pub first_has : (P : Row → Type 0) (s : List ℕ) (c : Rows) → RowsAt s c → 0 < c.left → All P (all_rows (table_of s)) → P (first_row s c)
first_has P s c A h a =
    let skipped = (among-skipped s c A).0 in
    let header = all_left P (table_of s).header (table_of s).rows a in
    let rows = all_right P (table_of s).header (table_of s).rows a in
    all_get_d P (rows_in s c) 0 no_row (omega (arith, rows_number s c))
    (⊎_elim
    (λ (e : rows_in s c ≡ drop skipped (table_of s).header). rw e (all_drop P skipped (table_of s).header header))
    (λ (e : rows_in s c ≡ drop skipped (table_of s).rows). rw e (all_drop P skipped (table_of s).rows rows))
    (among-skipped s c A).1)

-- where the table is plain, the first of these rows is
pub first_plain : (s : List ℕ) (c : Rows) → RowsAt s c → 0 < c.left → All PlainRow (all_rows (table_of s)) → PlainRow (first_row s c)
first_plain = first_has PlainRow

-- a first row keeps the limits
pub first_limits : (s : List ℕ) (c : Rows) → RowsAt s c → 0 < c.left → RowLimits (length (table_of s).columns) (first_row s c)
first_limits s c A h = all_get_d _ (rows_in s c) 0 no_row (omega (arith, rows_number s c)) A.sound

-- what is known of texts within the limits, and of cells
texts_known : (plain : Bool) (ls : List (List ℕ)) → All LineLimits ls → (plain ≡ true → All Plain ls) → All (TextIs plain) ls
texts_known plain [] a h = tt
texts_known plain (l ∷ ls) a h = (record { text = a.0.characters; plain = λ e. (h e).0 }, texts_known plain ls a.1 (λ e. (h e).1))

cells_known : (plain : Bool) (xs : List Cell) → All CellLimits xs → (plain ≡ true → All PlainCell xs) → All (CellKnown plain) xs
cells_known plain [] a h = tt
cells_known plain (x ∷ xs) a h = (
  record { delimiter = a.0.delimiter; texts = texts_known plain x.lines a.0.texts (λ e. (h e).0) },
  cells_known plain xs a.1 (λ e. (h e).1),
)

-- the first of some rows can be drawn
-- an accepted sheet isn't too long
pub accepted_short : (s : List ℕ) → IsAccepted s → length s ≤ 32768
accepted_short s h = let r = held s h in (accepted s (table_of s) r.end r.reads).short

pub drawable : (s : List ℕ) (p : DisplayInfo) → Opened s p → (c : Rows) → RowsAt s c → 0 < c.left
    → Drawable s p.columns.items p.plain c
drawable s p O c A h = record {
  some = h;
  ends = A.ends;
  views = O.views;
  rising = O.rising;
  usable = O.usable;
  known = cells_known p.plain (first_row s c).cells (first_limits s c A h).each (λ e. first_plain s c A h (O.plain e));
  short = accepted_short s O.passes;
}

pub row-height_few : (s : List ℕ) (c : Rows) → RowsAt s c → 0 < c.left → row_height s (first_row s c) ≤ 6448
row-height_few s c A h = height_bound (table_of s) (widths_in s) (first_row s c) (first_limits s c A h).each

-- the first row, and those after it
pub first_then : (text : Row → List (List ℕ)) (rule : List (List ℕ)) (rs : List Row) → ruled_rows text rule rs ≡ first_ruled text rule rs ++ ruled_rows
    text rule (drop 1 rs)
unfolding ruled_rows ruled_more first_ruled
first_then text rule [] = refl
first_then text rule (r ∷ []) = refl
first_then text rule (r ∷ q ∷ rs) = sym (append_assoc (text r) rule (text q ++ ruled_more text rule rs))

-- ---- cursors

-- a cursor before a part's first line
pub ahead-start : (s : List ℕ) (p : DisplayInfo) (c : Cursor) → c.line ≡ 0 → ahead s p c ≡ part_lines s p c ++ rest_lines s p c
unfolding ahead
ahead-start s p c e = rw e

at-start : (s : List ℕ) (p : DisplayInfo) (c : Cursor) → RowsAt s c.here → c.line ≡ 0 → At s p c
at-start s p c A e = record { rows = A; within = omega arith }

pub first-at : (s : List ℕ) (p : DisplayInfo) → Opened s p → At s p (first_cursor p.rows)
first-at s p O = at-start s p (first_cursor p.rows) O.rows_at refl

pub first-ahead : (s : List ℕ) (p : DisplayInfo) → Opened s p → ahead s p (first_cursor p.rows) ≡ lines_of s p
unfolding ahead part_lines rest_lines lines_of framed rule_lines header_lines_of row_lines_of
first-ahead s p O = rw O.header

-- the rows from their first part on
body-ahead : (s : List ℕ) (p : DisplayInfo) (here : Rows)
    → ahead s p (record { stage = Body; here = here; line = 0 }) ≡ row_lines_of s (rows_in s here) ++ rule_lines s true bottom_border
unfolding ahead part_lines rest_lines row_lines_of body_lines
body-ahead s p here =
    let text = text_lines s content_lines in
    let rule = rule_lines s false row_rule in
    sym (ap (λ ls. ls ++ rule_lines s true bottom_border) (first_then (text_lines s content_lines) (rule_lines s false row_rule) (rows_in s here))
    ∙ append_assoc (first_ruled (text_lines s content_lines) (rule_lines s false row_rule) (rows_in s here))
    (ruled_rows (text_lines s content_lines) (rule_lines s false row_rule) (drop 1 (rows_in s here))) (rule_lines s true bottom_border))

last-ahead : (s : List ℕ) (p : DisplayInfo) (here : Rows) → ahead s p (record { stage = Bottom; here = here; line = 0 }) ≡ rule_lines s true bottom_border
unfolding ahead part_lines rest_lines
last-ahead s p here = append-nil (rule_lines s true bottom_border)

none_after : (rs : List Row) → length rs ≤ 1 → drop 1 rs ≡ []
none_after [] h = refl
none_after (r ∷ []) h = refl
none_after (r ∷ q ∷ rs) h = absurd (omega arith)

no_rows : (s : List ℕ) → row_lines_of s [] ≡ []
unfolding row_lines_of ruled_rows
no_rows s = refl

pub after_last : (s : List ℕ) (here : Rows) → RowsAt s here → here.left ≤ 1 → AfterRow s here (record { stage = Bottom; here = here; line = 0 })
after_last s here A h = record {
  lines = λ p. last-ahead s p here ∙ sym (rw (none_after (rows_in s here) (omega (arith, rows_number s here)), no_rows s));
  at = A;
  start = refl;
  fewer = omega arith;
}

pub after_more : (s : List ℕ) (here n : Rows) → RowsAt s here → RowsNext s here n → AfterRow s here (record { stage = Body; here = n; line = 0 })
after_more s here n A N = record {
  lines = λ p. body-ahead s p n ∙ rw N.rows;
  at = rows_next s here n A N;
  start = refl;
  fewer = omega (arith, N.left);
}

module _ (s : List ℕ) (c : Cursor) (A : RowsAt s c.here) where
  pub next_top : c.stage ≡ Top → Next s c (record { stage = Header; here = c.here; line = 0 })
  unfolding ahead part_lines rest_lines
  next_top e = record { lines = λ p. rw e; at = λ p. at-start s p _ A refl; start = refl; fewer = λ _. rw e (omega arith) }

  pub next_header : c.stage ≡ Header → Next s c (record { stage = Body; here = c.here; line = 0 })
  unfolding rest_lines
  next_header e = record {
    lines = λ p. body-ahead s p c.here ∙ rw e;
    at = λ p. at-start s p _ A refl;
    start = refl;
    fewer = λ _. rw e (omega arith);
  }

  pub next-body : (r : Cursor) → c.stage ≡ Body → AfterRow s c.here r → Next s c r
  unfolding rest_lines
  next-body r e N = record {
    lines = λ p. N.lines p ∙ rw e;
    at = λ p. at-start s p r N.at N.start;
    start = N.start;
    fewer = λ _. rw e N.fewer;
  }

  pub next_bottom : c.stage ≡ Bottom → Next s c (record { stage = End; here = c.here; line = 0 })
  unfolding ahead part_lines rest_lines
  next_bottom e = record { lines = λ p. rw e; at = λ p. at-start s p _ A refl; start = refl; fewer = λ _. rw e (omega arith) }

  pub next_end : c.stage ≡ End → Next s c (record { stage = End; here = c.here; line = 0 })
  unfolding ahead part_lines rest_lines
  next_end e = record {
    lines = λ p. rw e;
    at = λ p. at-start s p _ A refl;
    start = refl;
    fewer = λ f. let g = sym (ap is_end e) ∙ f in
        let z : ◌≡◌ {A = ℕ} 0 1 = cc in absurd (omega arith);
  }

-- at the end no line is left
pub end-ahead : (s : List ℕ) (p : DisplayInfo) (c : Cursor) → is_end c.stage ≡ true → ahead s p c ≡ []
unfolding ahead part_lines rest_lines
end-ahead s p c e = go c.stage e
  where
    none : (n : ℕ) → drop {A = List ℕ} n [] ≡ []
    none zero = refl
    none (suc n) = refl

    go : (g : Stage) → is_end g ≡ true → drop c.line (part_by s p c.here g) ++ rest_by s p c.here g ≡ []
    go Top f = cc
    go Header f = cc
    go Body f = cc
    go Bottom f = cc
    go End f = rw (none c.line)

-- ---- styles

same_map : {A B : Type 0} (f g : A → B) → ((x : A) → f x ≡ g x) → (xs : List A) → map f xs ≡ map g xs
same_map f g h [] = refl
same_map f g h (x ∷ xs) = let a = h x in let b = same_map f g h xs in cc

text-styled : (s : List ℕ) (k : ℕ) (r : Row) → row_lines s (text_style_of (table_of s).style k) r ≡ text_lines s k r
unfolding row_lines row_text
text-styled s k r = same_map (styled (text_style_of (table_of s).style k)) (text_line (table_of s).style k) (styled_text (table_of s).style k)
    (areas (table_of s) (widths_in s) r)

module _ (s : List ℕ) (p : DisplayInfo) (O : Opened s p) where
  border-styled : (k : ℕ) → rule_by p.columns.items (then_some (is_visible (table_of s).style k) (rule_style_of (table_of s).style true k))
      ≡ rule_lines s true k
  unfolding rule_lines shown
  border-styled k = go (is_visible (table_of s).style k)
    where
      go : (b : Bool) → rule_by p.columns.items (then_some b (rule_style_of (table_of s).style true k))
          ≡ elim b as (λ x. List (List ℕ)) [ true ↦ ruled (table_of s).style true k (visible_widths (table_of s) (widths_in s)) ∷ [] | false ↦ [] ]
      go true = ap (λ l. l ∷ []) (rule-drawn (table_of s) (widths_in s) p.columns.items O.views (table_of s).style true k)
      go false = refl

  rule-styled : (k : ℕ) → rule_by p.columns.items
      (then_some (is_visible (table_of s).style k) (rule_style_of (table_of s).style (any_junction (table_of s).style) k)) ≡ rule_lines s false k
  unfolding rule_lines shown
  rule-styled k = go (is_visible (table_of s).style k)
    where
      go : (b : Bool) → rule_by p.columns.items (then_some b (rule_style_of (table_of s).style (any_junction (table_of s).style) k))
          ≡ elim b as (λ x. List (List ℕ)) [ true ↦ ruled (table_of s).style false k (visible_widths (table_of s) (widths_in s)) ∷ [] | false ↦ [] ]
      go true = ap (λ l. l ∷ []) (rule-drawn (table_of s) (widths_in s) p.columns.items O.views (table_of s).style false k)
      go false = refl

  -- the top border and the bottom border
  pub top-drawn : rule_by p.columns.items p.styles.top ≡ rule_lines s true top_border
  unfolding styles_of
  top-drawn = rw O.styles (border-styled top_border)

  pub bottom-drawn : rule_by p.columns.items p.styles.bottom ≡ rule_lines s true bottom_border
  unfolding styles_of
  bottom-drawn = rw O.styles (border-styled bottom_border)

  -- the header with its rule
  pub header-drawn : band_lines s p.columns.items p.styles.header (rows_in s p.header) ≡ header_lines_of s (rows_in s p.header)
  unfolding styles_of band_lines header_lines_of headed
  header-drawn = rw O.styles (go (rows_in s p.header) (omega (arith, rows_number s p.header, O.header_one)))
    where
      go : (rs : List Row) → length rs ≤ 1 → band_lines s p.columns.items (styles_of (table_of s).style).header rs ≡ header_lines_of s rs
      go [] h = refl
      go (r ∷ []) h = rw (text-styled s header_lines r, rule-styled header_rule, append-nil)
      go (r ∷ q ∷ rs) h = absurd (omega arith)

  -- a row with the rule after it
  pub body-drawn : (here : Rows) (y : RowStyle) → y ≡ body_style p.styles.body here.left → band_lines s p.columns.items y
      (rows_in s here) ≡ body_lines s (rows_in s here)
  unfolding styles_of band_lines body_lines first_ruled
  body-drawn here y e =
      rw (e, O.styles) (ap (λ n. band_lines s p.columns.items (body_style (styles_of (table_of s).style).body n) (rows_in s here))
      (sym (rows_number s here)) ∙ go (rows_in s here))
    where
      out : (o : Option RuleStyle) → rule_by p.columns.items (option_and_then (then_some false) o) ≡ []
      out None = refl
      out (Some x) = refl

      kept : (o : Option RuleStyle) → option_and_then (then_some true) o ≡ o
      kept None = refl
      kept (Some x) = refl

      go : (rs : List Row) → band_lines s p.columns.items (body_style (styles_of (table_of s).style).body (length rs)) rs ≡ body_lines s rs
      go [] = refl
      go (r ∷ []) = rw (text-styled s content_lines r, le-ltb 1 1 (omega arith), out, append-nil)
      go (r ∷ q ∷ rs) = rw (text-styled s content_lines r, lt-ltb 1 (suc (suc (length rs))) (omega arith), kept, rule-styled row_rule)

  -- ---- sizes

  text_at : (k : ℕ) (r : Row) (j : ℕ) → j < row_height s r
      → get_or (row_lines s (text_style_of (table_of s).style k) r) j [] ≡ text_line (table_of s).style k (map (area_at (table_of s) (widths_in s) r j) (visible (table_of s)))
  unfolding row_text
  text_at k r j i =
      ap (λ ls. get_or ls j []) (text-styled s k r)
      ∙ get_d_map (text_line (table_of s).style k) (areas (table_of s) (widths_in s) r) j [] [] (omega (arith, length-areas (table_of s) (widths_in s) r))
      ∙ ap (text_line (table_of s).style k) (line_at (table_of s) (widths_in s) r j i)

  plain-each : (k : ℕ) (here : Rows) → RowsAt s here → 0 < here.left → p.plain ≡ true → (j : ℕ) → j < row_height s (first_row s here)
      → length (get_or (row_lines s (text_style_of (table_of s).style k) (first_row s here)) j []) + 1 ≡ p.lengths.line + 1
  plain-each k here A h e j i =
      let r = first_row s here in
      rw (
        text_at k r j i,
        plain_row (table_of s) (limits_of s O.passes) r (first_limits s here A h).each (first_plain s here A h (O.plain e)) k j,
        O.lengths.line,
      )

  text_sized : (k : ℕ) (here : Rows) → RowsAt s here → 0 < here.left
      → Sized s (text_style_of (table_of s).style k) (first_row s here) p.plain p.columns.items (p.lengths.line + 1)
  text_sized k here A h =
      let T = limits_of s O.passes in
      let r = first_row s here in
      let R = (first_limits s here A h).each in
      record {
        bounded = record {
          short = λ j i. rw (text_at k r j i) (text-line-bound (table_of s) T r R k j);
          few = omega (arith, row-height_few s here A h);
        };
        small = omega (arith, O.lengths.line_small);
        each = plain-each k here A h;
        most = λ j i. most_of p.plain refl j i;
        shown = λ j i.
            omega (
              arith,
              ap length (text_at k r j i),
              line_bytes (table_of s) (widths_in s) r k j,
              line-sum (table_of s) (widths_in s) p.columns.items O.views r j,
              O.lengths.line,
            );
      }
    where
      most_of : (b : Bool) → p.plain ≡ b → (j : ℕ) → j < row_height s (first_row s here)
          → length (get_or (row_lines s (text_style_of (table_of s).style k) (first_row s here)) j []) + 1 ≤ most_bytes b (p.lengths.line + 1) (length p.columns.items)
      most_of true e j i = omega (arith, plain-each k here A h e j i)
      most_of false e j i =
          let r = first_row s here in
          let T = limits_of s O.passes in
          let R = (first_limits s here A h).each in
          let most = text-line-most (table_of s) T r R k j in
          let twice = text-line_twice (table_of s) T r R k j in
          omega (arith, ap length (text_at k r j i), most, twice, O.lengths.line, O.views.count)

  text-pairs : (k : ℕ) (here : Rows) → RowsAt s here → 0 < here.left → (first_row s here).limit ≡ 0
      → length (closed (row_lines s (text_style_of (table_of s).style k) (first_row s here)))
      ≡ row_height s (first_row s here) * (p.lengths.line + 1) + added_up_to pairs_held (first_row s here).cells p.columns.items (length p.columns.items)
  text-pairs k here A h u =
      let t = table_of s in
      let r = first_row s here in
      let e = row_bytes t (limits_of s O.passes) (widths_in s) (visible-some t) r (first_limits s here A h).each u k in
      ap (λ ls. length (closed ls)) (text-styled s k r) ∙ e
      ∙ rw (← held-sum t (widths_in s) p.columns.items O.views r, ← O.lengths.line)

  text-shown : (k : ℕ) (here : Rows) (n : ℕ) → row_height s (first_row s here) ≤ n
      → length (closed (row_lines s (text_style_of (table_of s).style k) (first_row s here)))
      ≡ row_height s (first_row s here) * (p.lengths.line + 1)
      + added_up_to (pairs_shown (table_of s).indicator (first_row s here).limit 0 n) (first_row s here).cells p.columns.items (length p.columns.items)
  text-shown k here n h =
      let t = table_of s in
      let r = first_row s here in
      ap (λ ls. length (closed ls)) (text-styled s k r) ∙ row-shown t (widths_in s) r k
      ∙ rw (← shown-sum t (widths_in s) p.columns.items O.views r n h, ← O.lengths.line)

  rule_length : (k : ℕ) → p.lengths.line + 1 ≡ length (rule_text p.columns.items
      (rule_style_of (table_of s).style (any_junction (table_of s).style) k)) + 1
  rule_length k = rw (
    rule-drawn (table_of s) (widths_in s) p.columns.items O.views (table_of s).style false k,
    rule-length (table_of s)
        (widths_in s) k,
    O.lengths.line,
  )

  -- what holds of a rule holds where it may be left out
  kept_sized : {P : RuleStyle → Type 0} (b : Bool) (o : Option RuleStyle) → ForSome o P → ForSome (option_and_then (then_some b) o) P
  kept_sized true None F x e = cc
  kept_sized false None F x e = cc
  kept_sized true (Some y) F x e = F x e
  kept_sized false (Some y) F x e = cc

  chosen_sized : (b : Bool) (y : RuleStyle) (n : ℕ) → n ≡ length (rule_text p.columns.items y) + 1
      → ForSome (then_some b y) (λ x. n ≡ length (rule_text p.columns.items x) + 1)
  chosen_sized true y n e x f = let g : y ≡ x = cc in rw (← g) e
  chosen_sized false y n e x f = cc

  border_sized : (k : ℕ) → p.lengths.border + 1 ≡ length (rule_text p.columns.items (rule_style_of (table_of s).style true k)) + 1
  border_sized k = rw (
    rule-drawn (table_of s) (widths_in s) p.columns.items O.views (table_of s).style true k,
    border-length (table_of s)
        (widths_in s) k,
    O.lengths.border,
  )

  pub top_sized : SizedRule p.columns.items p.styles.top (p.lengths.border + 1)
  unfolding styles_of
  top_sized = rw O.styles (chosen_sized (is_visible (table_of s).style top_border) _ _ (border_sized top_border))

  pub bottom_sized : SizedRule p.columns.items p.styles.bottom (p.lengths.border + 1)
  unfolding styles_of
  bottom_sized = rw O.styles (chosen_sized (is_visible (table_of s).style bottom_border) _ _ (border_sized bottom_border))

  rule_sized : (k : ℕ) → ForSome (then_some (is_visible (table_of s).style k) (rule_style_of (table_of s).style (any_junction (table_of s).style) k))
      (λ x. p.lengths.line + 1 ≡ length (rule_text p.columns.items x) + 1)
  rule_sized k = chosen_sized (is_visible (table_of s).style k) _ _ (rule_length k)

  pub header_sized : SizedBand s p.columns.items p.styles.header (rows_in s p.header) p.plain (p.lengths.line + 1)
  unfolding styles_of
  header_sized = rw O.styles (record {
    text = λ h. text_sized header_lines p.header O.header_at (omega (arith, rows_number s p.header));
    held = λ h. text-pairs header_lines p.header O.header_at (omega (arith, rows_number s p.header));
    shown = λ h. text-shown header_lines p.header;
    rule = rule_sized header_rule;
    small = omega (arith, O.lengths.line_small);
  })

  pub body_sized : (here : Rows) (y : RowStyle) → RowsAt s here → y ≡ body_style p.styles.body here.left → SizedBand s
      p.columns.items y (rows_in s here) p.plain (p.lengths.line + 1)
  unfolding styles_of
  body_sized here y A e = rw (e, O.styles) (record {
    text = λ h. text_sized content_lines here A (omega (arith, rows_number s here));
    held = λ h. text-pairs content_lines here A (omega (arith, rows_number s here));
    shown = λ h. text-shown content_lines here;
    rule = kept_sized (ltb 1 here.left) _ (rule_sized row_rule);
    small = omega (arith, O.lengths.line_small);
  })

-- ---- the part that a cursor stands before

module _ (s : List ℕ) (p : DisplayInfo) (O : Opened s p) (c : Cursor) where
  pub part_top : c.stage ≡ Top → PartAt s p c (Border p.styles.top)
  unfolding part_lines
  part_top e = record { known = top_sized s p O; lines = top-drawn s p O ∙ rw e }

  pub part_header : c.stage ≡ Header → PartAt s p c (Band p.styles.header p.header)
  unfolding part_lines
  part_header e = record { known = (O.header_at, header_sized s p O); lines = header-drawn s p O ∙ rw e }

  pub part_body : RowsAt s c.here → (y : RowStyle) → c.stage ≡ Body → y ≡ body_style p.styles.body c.here.left → PartAt s p c (Band y c.here)
  unfolding part_lines
  part_body A y e f = record { known = (A, body_sized s p O c.here y A f); lines = body-drawn s p O c.here y f ∙ rw e }

  pub part_bottom : c.stage ≡ Bottom → PartAt s p c (Border p.styles.bottom)
  unfolding part_lines
  part_bottom e = record { known = bottom_sized s p O; lines = bottom-drawn s p O ∙ rw e }

  pub part_end : c.stage ≡ End → PartAt s p c (Border None)
  unfolding part_lines
  part_end e = record { known = λ x f. cc; lines = rw e }
