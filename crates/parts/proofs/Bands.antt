-- A part of a page drawn, band by band: what is written, and how many lines there are. Assumes nothing.
use Prim.Native.Nat.{ℕ, zero, suc, ◌+◌, ◌-◌, ◌*◌, ◌≤◌, ◌<◌, min}
use mathlib.Core.Path.{◌≡◌, refl, sym, ap, ◌∙◌}
use mathlib.Core.List.{List, [], ◌∷◌, ◌++◌}
use mathlib.Core.Bool.{Bool, true, false, cond, not}
use native.Mathlib.Omega.{arith}
use native.Mathlib.Nat.{suc-add, suc-mul}
use lib.ListN.{length, take, drop, get_or, length-append, drop_of_length-le, get_or-append}
use lib.Seq.{take-nil, get_or_at}
use lib.Dec.{ltb}
use mir.Val.{bool_byte}
use borrow.Author.Tests.{not-true, not-false, ltb-true, ltb-false}
use borrow.Rule.Slice.PartMut.{put_mid}
use Rattle.std.specs.Prelude.{Option, Some, None, is_some}
use Rattle.rules.specs.Text.{All}
use Rattle.rules.specs.Sheet.{Row, no_row}
use Rattle.rules.specs.Page.{closed}
use Rattle.rules.specs.Limits.{longest_line, RowLimits, most_lines}
use Rattle.laws.proofs.Counts.{height_bound, framed-count, framed-byte-bound}
use Rattle.laws.proofs.Fitting.{fitting_few}
use Rattle.laws.proofs.Lists.{all_append, all_places}
use Rattle.laws.proofs.Sizes.{closed-one, closed-append, closed_sized, closed-most}
use Rattle.table.specs.Held.{table_of}
use Rattle.table.specs.Walk.{rows_in, cells_in, first_row, RowIs}
use Rattle.table.specs.declared.records.Rows.{Rows}
use Rattle.table.proofs.Walks.{rows_number}
use Rattle.table.specs.declared.records.Row as records
use Rattle.buffer.specs.Put.{over}
use Rattle.row.specs.Height.{height_up_to, added_up_to, pairs_held, limited}
use Rattle.formatting.specs.Shown.{pairs_shown}
use Rattle.row.specs.View.{View}
use Rattle.formatting.specs.Part.{PartIs}
use Rattle.formatting.specs.RowText.{row_lines, row_height, Sized, Drawable}
use Rattle.borders.specs.Rule.{rule_text, rule_bytes}
use Rattle.formatting.specs.declared.content_format.Part.{Part}
use Rattle.borders.specs.declared.RuleStyle.{RuleStyle}
use Rattle.formatting.proofs.Heights.{limited-height}
use Rattle.formatting.proofs.RowText.{lines-count}
use Rattle.formatting.proofs.Parts.{part_none, part-line, part-full, part_join, part_short}
use Rattle.borders.proofs.Rule.{rule_text_lem}
use Rattle.display_info.specs.Opened.{widths_in, RowsAt, Opened}
use Rattle.parts.specs.Ahead.{part_lines, lines_of}
use Rattle.parts.specs.Band.{rule_by, SizedRule, band_lines, body_style, SizedBand}
use Rattle.display_info.specs.declared.DisplayInfo.{DisplayInfo}
use Rattle.display_info.specs.declared.RowStyle.{RowStyle}
use Rattle.parts.specs.declared.cursor.Cursor.{Cursor}
use Rattle.parts.specs.declared.cursor.Stage.{Stage}
use Rattle.parts.specs.declared.cursor.Stage.TheVariants.{Top, Header, Body, Bottom, End}
use Rattle.display_info.proofs.Opening.{limits_of}
use Rattle.parts.proofs.Parts.{part_top, part_header, part_body, part_bottom, part_end}

pub drop-append : {A : Type 0} (n : ℕ) (xs ys : List A) → n ≤ length xs → drop n (xs ++ ys) ≡ drop n xs ++ ys
drop-append zero xs ys h = refl
drop-append (suc n) [] ys h = absurd (omega arith)
drop-append (suc n) (x ∷ xs) ys h = drop-append n xs ys (omega arith)

pub drop_whole : {A : Type 0} (n : ℕ) (xs : List A) → n ≡ length xs → drop n xs ≡ []
drop_whole n xs e = drop_of_length-le xs {i = n} (omega arith)

pub take_more : {A : Type 0} (n m : ℕ) (xs : List A) → take (n + m) xs ≡ take n xs ++ take m (drop n xs)
take_more zero m xs = let z : 0 + m ≡ m = omega arith in rw z
take_more (suc n) m [] = rw (suc-add n m) (sym (take-nil m))
take_more (suc n) m (x ∷ xs) = rw (suc-add n m) (ap (λ ls. x ∷ ls) (take_more n m xs))

-- ---- a row's lines

pub limited-none : (limit n : ℕ) → limit ≡ 0 → n ≡ limited limit n
unfolding limited
limited-none zero n e = refl
limited-none (suc l) n e = absurd (omega arith)

pub limited-some : (limit n : ℕ) → (limit ≡ 0 → ⊥) → min limit n ≡ limited limit n
unfolding limited
limited-some zero n h = absurd (h refl)
limited-some (suc l) n h = refl

pub row-lines_are : (s : List ℕ) (view : View) (here : Rows) (r : records.Row) (n m : ℕ) (plain : Bool) → Drawable s view plain here → RowIs s here r → n ≡ height_up_to
    (cells_in s r.cells) view (length view)
    → m ≡ limited r.limit n → m ≡ row_height s (first_row s here)
row-lines_are s view here r n m plain D R e f = f ∙ rw (e, R.limit, R.cells) (limited-height (table_of s) (widths_in s) (first_row s here) view D.views)

pub band-none : (s : List ℕ) (view : View) (y : RowStyle) (here : Rows) → here.left ≡ 0 → 0 ≡ length (band_lines s view y (rows_in s here))
unfolding band_lines
band-none s view y here e = go (rows_in s here) (rows_number s here)
  where
    go : (rs : List Row) → length rs ≡ here.left → 0 ≡ length (band_lines s view y rs)
    go [] f = refl
    go (r ∷ rs) f = absurd (omega arith)

pub rule_few : (view : View) (o : Option RuleStyle) → length (rule_by view o) ≤ 1
rule_few view None = omega arith
rule_few view (Some x) = omega arith

pub rule_count : (view : View) (o : Option RuleStyle) → length (rule_by view o) ≡ bool_byte (is_some o)
rule_count view None = refl
rule_count view (Some x) = refl

pub band-some : (s : List ℕ) (view : View) (y : RowStyle) (here : Rows) (n m : ℕ) → (here.left ≡ 0 → ⊥) → n ≡ row_height s (first_row s here)
    → m ≡ bool_byte (is_some y.rule) → n + m ≡ length (band_lines s view y (rows_in s here))
unfolding band_lines
band-some s view y here n m h e f = go (rows_in s here) (rows_number s here) e
  where
    go : (rs : List Row) → length rs ≡ here.left → n ≡ row_height s (get_or rs 0 no_row) → n + m ≡ length (band_lines s view y rs)
    go [] g i = absurd (h (omega arith))
    go (r ∷ rs) g i = rw (length-append (row_lines s y.lines r) (rule_by view y.rule), lines-count s y.lines r, rule_count view y.rule, i, f)

-- ---- a border or a rule

module _ (view : View) (o : Option RuleStyle) (b : List ℕ) where
  pub rule-none : o ≡ None → PartIs (rule_by view o) b b (record { lines = 0; bytes = 0; whole = true })
  rule-none e = rw e (part_none b)

  module _ (y : RuleStyle) (e : o ≡ Some y) (size : ℕ) (f : size ≡ length (rule_text view y) + 1) where
    pub rule-full : length b < size → PartIs (rule_by view o) b b (record { lines = 0; bytes = 0; whole = false })
    rule-full h = rw e (part-full (rule_text view y) [] b (omega arith))

    rule_size : length (rule_bytes view y) ≡ length (rule_text view y) + 1
    rule_size = ap length (rule_text_lem view y) ∙ length-append (rule_text view y) (10 ∷ [])

    pub rule-room : size ≤ length b → length (rule_bytes view y) ≤ length b
    rule-room h = omega (arith, rule_size)

    pub rule-one : (n : ℕ) (a : List ℕ) → size ≤ length b → n ≡ length (rule_bytes view y) → a ≡ over (rule_bytes view y) b
        → PartIs (rule_by view o) b a (record { lines = 1; bytes = n; whole = true })
    rule-one n a h i j = rw (e, i, rule_size) (part-line (rule_text view y) b a (omega arith) (j ∙ ap (λ l. over l b) (rule_text_lem view y)))

-- ---- a row with the rule after it

pub band-empty : (s : List ℕ) (view : View) (y : RowStyle) (here : Rows) (first : ℕ) (b : List ℕ) → here.left ≡ 0
    → PartIs (drop first (band_lines s view y (rows_in s here))) b b (record { lines = 0; bytes = 0; whole = true })
unfolding band_lines
band-empty s view y here first b e = go (rows_in s here) (rows_number s here)
  where
    none : (n : ℕ) → drop {A = List ℕ} n [] ≡ []
    none zero = refl
    none (suc n) = refl

    go : (rs : List Row) → length rs ≡ here.left → PartIs (drop first (band_lines s view y rs)) b b (record { lines = 0; bytes = 0; whole = true })
    go [] f = rw (none first) (part_none b)
    go (r ∷ rs) f = absurd (omega arith)

pub band_sized : (s : List ℕ) (view : View) (y : RowStyle) (here : Rows) (plain : Bool) (n : ℕ) → SizedBand s view y (rows_in s here) plain n
    → 0 < here.left → Sized s y.lines (first_row s here) plain view n
band_sized s view y here plain n B h = B.text (omega (arith, rows_number s here))

-- ---- its bytes

no_bytes : length (closed []) ≡ 0
unfolding closed
no_bytes = refl

module _ (s : List ℕ) (view : View) (y : RowStyle) (here : Rows) (plain : Bool) (size : ℕ) (B : SizedBand s view y (rows_in s here) plain size) where
  pub bytes-none : here.left ≡ 0 → 0 ≡ length (closed (band_lines s view y (rows_in s here)))
  unfolding band_lines
  bytes-none e = go (rows_in s here) (rows_number s here)
    where
      go : (rs : List Row) → length rs ≡ here.left → 0 ≡ length (closed (band_lines s view y rs))
      go [] f = sym no_bytes
      go (r ∷ rs) f = absurd (omega arith)

  rule-each : All (λ l. length l + 1 ≡ size) (rule_by view y.rule)
  rule-each = go y.rule B.rule
    where
      go : (o : Option RuleStyle) → SizedRule view o size → All (λ l. length l + 1 ≡ size) (rule_by view o)
      go (Some x) F = (sym (F x refl), tt)
      go None F = tt

  rule_bytes_lem : length (closed (rule_by view y.rule)) ≡ cond (is_some y.rule) size 0
  rule_bytes_lem = go y.rule B.rule
    where
      go : (o : Option RuleStyle) → SizedRule view o size → length (closed (rule_by view o)) ≡ cond (is_some o) size 0
      go (Some x) F = ap length (closed-one (rule_text view x)) ∙ length-append (rule_text view x) (10 ∷ []) ∙ sym (F x refl)
      go None F = no_bytes

  -- on a plain page every line takes as many bytes as the rule
  pub bytes-plain : plain ≡ true → (n : ℕ) → n ≡ length (band_lines s view y (rows_in s here)) → n * size ≡ length (closed (band_lines s view y (rows_in s here)))
  unfolding band_lines
  bytes-plain e n h = rw h (sym (closed_sized size (band_lines s view y (rows_in s here)) (go (rows_in s here) B.text)))
    where
      go : (rs : List Row) → (0 < length rs → Sized s y.lines (get_or rs 0 no_row) plain view size) → All (λ l. length l + 1 ≡ size) (band_lines s view y rs)
      go [] Z = tt
      go (r ∷ rs) Z =
          let z = Z (omega arith) in
          all_append (λ l. length l + 1 ≡ size) (row_lines s y.lines r) (rule_by view y.rule)
          (all_places (λ l. length l + 1 ≡ size) (row_lines s y.lines r) [] (λ i k. z.each e i (omega (arith, lines-count s y.lines r)))) rule-each

  module _ (some : 0 < here.left) where
    rows_band : band_lines s view y (rows_in s here) ≡ row_lines s y.lines (first_row s here) ++ rule_by view y.rule
    unfolding band_lines
    rows_band = go (rows_in s here) (rows_number s here)
      where
        go : (rs : List Row) → length rs ≡ here.left → band_lines s view y rs ≡ row_lines s y.lines (get_or rs 0 no_row) ++ rule_by view y.rule
        go [] e = absurd (omega arith)
        go (r ∷ rs) e = refl

    -- else its text lines' bytes and the rule's
    pub bytes_summed : (a b : ℕ) → a ≡ length (closed (row_lines s y.lines (first_row s here))) → b ≡ cond (is_some y.rule) size 0
        → a + b ≡ length (closed (band_lines s view y (rows_in s here)))
    bytes_summed a b e f =
        let ls = row_lines s y.lines (first_row s here) in
        let r = rule_by view y.rule in
        let c = ap (λ l. length (closed l)) rows_band
        ∙ ap length (closed-append (row_lines s y.lines (first_row s here)) (rule_by view y.rule))
        ∙ length-append (closed (row_lines s y.lines (first_row s here))) (closed (rule_by view y.rule)) in
        omega (arith, c, e, f, rule_bytes_lem)

    -- as many as plain lines would take, and its text lines' pairs
    bytes-and : (n q : ℕ) → n ≡ length (band_lines s view y (rows_in s here))
        → length (closed (row_lines s y.lines (first_row s here))) ≡ row_height s (first_row s here) * size + q
        → n * size + q ≡ length (closed (band_lines s view y (rows_in s here)))
    bytes-and n q f z =
        let d = ap length rows_band ∙ length-append (row_lines s y.lines (first_row s here)) (rule_by view y.rule) in
        omega (
          arith,
          bytes_summed (length (closed (row_lines s y.lines (first_row s here)))) (cond (is_some y.rule) size 0) refl refl,
          z,
          lines_in y.rule (row_height s (first_row s here)) n (omega (arith, f, d, lines-count s y.lines (first_row s here))),
        )
      where
        lines_in : (o : Option RuleStyle) (h n : ℕ) → n ≡ h + length (rule_by view o) → n * size ≡ h * size + cond (is_some o) size 0
        lines_in (Some x) h n e = let k : n ≡ suc h = omega arith in rw k (suc-mul h size ∙ omega arith)
        lines_in None h n e = let k : n ≡ h = omega arith in rw k (omega arith)

    -- without a limit those that its cells hold
    pub bytes-held : (first_row s here).limit ≡ 0 → (n q : ℕ) → n ≡ length (band_lines s view y (rows_in s here))
        → q ≡ added_up_to pairs_held (first_row s here).cells view (length view) → n * size + q ≡ length (closed (band_lines s view y (rows_in s here)))
    bytes-held u n q f g = bytes-and n q f (rw g (B.held (omega (arith, rows_number s here)) u))

    band-height : row_height s (first_row s here) ≤ length (band_lines s view y (rows_in s here))
    band-height =
        let d = ap length rows_band ∙ length-append (row_lines s y.lines (first_row s here)) (rule_by view y.rule) in
        omega (arith, d, lines-count s y.lines (first_row s here))

    -- else those that its lines show
    pub bytes-shown : (n q : ℕ) → n ≡ length (band_lines s view y (rows_in s here))
        → q ≡ added_up_to (pairs_shown (table_of s).indicator (first_row s here).limit 0 n) (first_row s here).cells view (length view)
        → n * size + q ≡ length (closed (band_lines s view y (rows_in s here)))
    bytes-shown n q f g = bytes-and n q f (rw g (B.shown (omega (arith, rows_number s here)) n (omega (arith, f, band-height))))

    pub bytes_few : length (band_lines s view y (rows_in s here)) ≤ most_lines + 1
    bytes_few =
        let d = ap length rows_band ∙ length-append (row_lines s y.lines (first_row s here)) (rule_by view y.rule) in
        omega (arith, d, lines-count s y.lines (first_row s here), (B.text (omega (arith, rows_number s here))).bounded.few, rule_few view y.rule)

    -- they aren't too many
    pub text-most : length (closed (row_lines s y.lines (first_row s here))) ≤ most_lines * (longest_line + 1)
    text-most =
        let D = (B.text (omega (arith, rows_number s here))).bounded in
        let ls = row_lines s y.lines (first_row s here) in
        omega (
          arith,
          closed-most (longest_line + 1) (row_lines s y.lines (first_row s here))
              (all_places (λ l. length l + 1 ≤ longest_line + 1) (row_lines s y.lines (first_row s here)) []
              (λ i k. omega (arith, D.short i (omega (arith, lines-count s y.lines (first_row s here)))))),
          lines-count s y.lines (first_row s here),
          D.few,
        )

    pub band-most : length (closed (band_lines s view y (rows_in s here))) ≤ (most_lines + 1) * (longest_line + 1)
    band-most = omega (arith, bytes_summed _ (cond (is_some y.rule) size 0) refl refl, text-most, rule_small (is_some y.rule))
      where
        rule_small : (b : Bool) → cond b size 0 ≤ longest_line + 1
        rule_small true = B.small
        rule_small false = omega arith

    -- ---- its line n
    pub line_text : (n : ℕ) → n < row_height s (first_row s here)
        → get_or (band_lines s view y (rows_in s here)) n [] ≡ get_or (row_lines s y.lines (first_row s here)) n []
    line_text n h =
        ap (λ l. get_or l n []) rows_band
        ∙ get_or-append (row_lines s y.lines (first_row s here)) (rule_by view y.rule) [] n
        (omega (arith, lines-count s y.lines (first_row s here)))

    pub line-shown : (n q : ℕ) → n < row_height s (first_row s here)
        → q ≡ added_up_to (pairs_shown (table_of s).indicator (first_row s here).limit n 1) (first_row s here).cells view (length view)
        → size + q ≡ length (get_or (band_lines s view y (rows_in s here)) n []) + 1
    line-shown n q h g = omega (arith, g, ap length (line_text n h), (B.text (omega (arith, rows_number s here))).shown n h)

    pub line_rule : (n : ℕ) → row_height s (first_row s here) ≤ n → n < length (band_lines s view y (rows_in s here))
        → size ≡ length (get_or (band_lines s view y (rows_in s here)) n []) + 1
    line_rule n h k =
        let ls = row_lines s y.lines (first_row s here) in
        let c = length-append (row_lines s y.lines (first_row s here)) (rule_by view y.rule) in
        let d = lines-count s y.lines (first_row s here) in
        go y.rule refl (rw rows_band at k)
      where
        go : (o : Option RuleStyle) → y.rule ≡ o → n < length (row_lines s y.lines (first_row s here) ++ rule_by view y.rule)
            → size ≡ length (get_or (band_lines s view y (rows_in s here)) n []) + 1
        go (Some x) e q =
            let ls = row_lines s y.lines (first_row s here) in
            let r : rule_by view y.rule ≡ rule_text view x ∷ [] = ap (rule_by view) e in
            let z : length (row_lines s y.lines (first_row s here)) ≡ n =
            omega (
              arith,
              lines-count s y.lines (first_row s here),
              length-append (row_lines s y.lines (first_row s here)) (rule_by view y.rule),
              ap length r,
            ) in
            B.rule x e ∙ sym (ap (λ l. length (get_or l n []) + 1) (rows_band ∙ ap (λ l. row_lines s y.lines (first_row s here) ++ l) r)
            ∙ ap (λ l. length l + 1) (get_or_at (row_lines s y.lines (first_row s here)) (rule_text view x) [] [] n z))
        go None e q =
            absurd (omega (
              arith,
              lines-count s y.lines (first_row s here),
              length-append (row_lines s y.lines (first_row s here)) (rule_by view y.rule),
              ap (λ o. length (rule_by view o)) e,
            ))

    pub line_plain : plain ≡ true → (n : ℕ) → n < length (band_lines s view y (rows_in s here))
        → size ≡ length (get_or (band_lines s view y (rows_in s here)) n []) + 1
    line_plain e n k = by (ltb n (row_height s (first_row s here))) refl
      where
        by : (b : Bool) → ltb n (row_height s (first_row s here)) ≡ b → size ≡ length (get_or (band_lines s view y (rows_in s here)) n []) + 1
        by true f =
            let h = ltb-true n (row_height s (first_row s here)) f in
            rw (line_text n h) (sym ((B.text (omega (arith, rows_number s here))).each e n h))
        by false f = line_rule n (ltb-false n (row_height s (first_row s here)) f) k

-- a band's bytes aren't too many
pub bytes_most : (s : List ℕ) (view : View) (y : RowStyle) (here : Rows) (plain : Bool) (size : ℕ) → SizedBand s view y (rows_in s here) plain size
    → length (closed (band_lines s view y (rows_in s here))) ≤ (most_lines + 1) * (longest_line + 1)
bytes_most s view y here plain size B = by (ltb 0 here.left) refl
  where
    by : (b : Bool) → ltb 0 here.left ≡ b → length (closed (band_lines s view y (rows_in s here))) ≤ (most_lines + 1) * (longest_line + 1)
    by true e = band-most s view y here plain size B (ltb-true 0 here.left e)
    by false e = omega (arith, bytes-none s view y here plain size B (omega (arith, ltb-false 0 here.left e)))

-- a band that has a line has a row
pub band_there : (s : List ℕ) (view : View) (y : RowStyle) (here : Rows) (n : ℕ) → n < length (band_lines s view y (rows_in s here)) → 0 < here.left
unfolding band_lines
band_there s view y here n h = go (rows_in s here) (rows_number s here) h
  where
    go : (rs : List Row) → length rs ≡ here.left → n < length (band_lines s view y rs) → 0 < here.left
    go [] e k = absurd (omega arith)
    go (r ∷ rs) e k = omega arith

module _ (s : List ℕ) (view : View) (y : RowStyle) (here : Rows) (first : ℕ) (some : 0 < here.left)
    (within : first ≤ length (band_lines s view y (rows_in s here)) - 1) where
  band_is : band_lines s view y (rows_in s here) ≡ row_lines s y.lines (first_row s here) ++ rule_by view y.rule
  unfolding band_lines
  band_is = go (rows_in s here) (rows_number s here)
    where
      go : (rs : List Row) → length rs ≡ here.left → band_lines s view y rs ≡ row_lines s y.lines (get_or rs 0 no_row) ++ rule_by view y.rule
      go [] e = absurd (omega arith)
      go (r ∷ rs) e = refl

  pub band-split : drop first (band_lines s view y (rows_in s here)) ≡ drop first (row_lines s y.lines (first_row s here)) ++ rule_by view y.rule
  band-split =
      let l = row_lines s y.lines (first_row s here) in
      ap (drop first) band_is ∙ drop-append first (row_lines s y.lines (first_row s here)) (rule_by view y.rule)
      (omega (
        arith,
        within,
        ap length band_is,
        length-append (row_lines s y.lines (first_row s here))
            (rule_by view y.rule),
        rule_few view y.rule,
      ))

  pub band-cut : (b a : List ℕ) (r : Part) → PartIs (drop first (row_lines s y.lines (first_row s here))) b a r → not r.whole ≡ true → PartIs
      (drop first (band_lines s view y (rows_in s here))) b a r
  band-cut b a r P e = rw band-split (part_short _ (rule_by view y.rule) b a r P (not-true r.whole e))

  pub band_whole : (b a c ys : List ℕ) (r q : Part) → PartIs (drop first (row_lines s y.lines (first_row s here))) b a r → not r.whole ≡ false
      → PartIs (rule_by view y.rule) (take (length a - r.bytes) (drop r.bytes a)) ys q → c ≡ put_mid r.bytes
      (length a - r.bytes) a ys
      → PartIs (drop first (band_lines s view y (rows_in s here))) b c
      (record { lines = r.lines + q.lines; bytes = r.bytes + q.bytes; whole = q.whole })
  band_whole b a c ys r q P e Q f = rw band-split (part_join _ _ b a c ys r q P (not-false r.whole e) Q f)

-- ---- a border

module _ (view : View) where
  pub border_bytes : (o : Option RuleStyle) (m n : ℕ) → SizedRule view o m → n ≡ length (rule_by view o) → n * m ≡ length (closed (rule_by view o))
  border_bytes None m n S e = rw e (omega (arith, no_bytes))
  border_bytes (Some x) m n S e =
      rw e (omega (arith, S x refl, ap length (closed-one (rule_text view x)), length-append (rule_text view x) (10 ∷ [])))

-- ---- how many lines

pub part_few : (ls : List (List ℕ)) (b a : List ℕ) (r : Part) → PartIs ls b a r → r.lines ≤ length ls
part_few ls b a r P = omega (arith, P.lines, fitting_few (length b) ls)

module _ (s : List ℕ) (p : DisplayInfo) (O : Opened s p) where
  rows_left : length (rows_in s p.rows) ≤ 100
  rows_left = omega (arith, rows_number s p.rows, O.rows_few)

  -- a page has at most a million lines, each within the longest
  pub total-lines : length (lines_of s p) ≤ most_lines
  unfolding lines_of
  total-lines = framed-count (table_of s) (limits_of s O.passes) (widths_in s) (rows_in s p.rows) rows_left O.rows_at.sound

  pub total_bytes : length (closed (lines_of s p)) ≤ most_lines * (longest_line + 1)
  unfolding lines_of
  total_bytes = framed-byte-bound (table_of s) (limits_of s O.passes) (rows_in s p.rows) rows_left O.rows_at.sound

  band_few : (y : RowStyle) (here : Rows) → RowsAt s here → length (band_lines s p.columns.items y (rows_in s here)) ≤ 6449
  unfolding band_lines
  band_few y here A = go (rows_in s here) A.sound
    where
      go : (rs : List Row) → All (RowLimits (length (table_of s).columns)) rs → length (band_lines s p.columns.items y rs) ≤ 6449
      go [] a = omega arith
      go (r ∷ rs) a = omega (
        arith,
        length-append (row_lines s y.lines r) (rule_by p.columns.items y.rule),
        lines-count s y.lines r,
        rule_few p.columns.items y.rule,
        height_bound (table_of s) (widths_in s) r a.0.each,
      )

  -- a part's lines
  pub lines_few : (c : Cursor) → RowsAt s c.here → length (part_lines s p c) ≤ 6449
  lines_few c A = go c.stage refl
    where
      go : (g : Stage) → c.stage ≡ g → length (part_lines s p c) ≤ 6449
      go Top e = omega (arith, ap length (part_top s p O c e).lines, rule_few p.columns.items p.styles.top)
      go Header e = omega (arith, ap length (part_header s p O c e).lines, band_few p.styles.header p.header O.header_at)
      go Body e =
          let y = body_style p.styles.body c.here.left in
          omega (arith, ap length (part_body s p O c A y e refl).lines, band_few y c.here A)
      go Bottom e = omega (arith, ap length (part_bottom s p O c e).lines, rule_few p.columns.items p.styles.bottom)
      go End e = omega (arith, ap length (part_end s p O c e).lines)
