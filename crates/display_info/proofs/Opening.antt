-- What a page is opened with is the sheet's. Assumes nothing.
use Prim.Native.Nat.{ℕ, suc, ◌+◌, ◌-◌, ◌≤◌, ◌<◌}
use mathlib.Core.Path.{◌≡◌, refl, sym, ap, ◌∙◌}
use mathlib.Core.Logic.{inl, inr}
use mathlib.Core.List.{List, [], ◌∷◌, map}
use mathlib.Core.Bool.{Bool, true, false}
use native.Mathlib.Numerals.{add-one}
use native.Mathlib.Omega.{arith}
use lib.ListN.{length, drop, get_or, replicate, length-append, length-map, get_or-append}
use Rattle.rules.specs.declared.Column.{Column}
use Rattle.rules.specs.Text.{or_else}
use Rattle.rules.specs.Sheet.{Row, Table, most_columns, no_column, column_at, is_hidden}
use Rattle.rules.specs.Limits.{Printable, TableLimits, ColumnLimits}
use Rattle.rules.specs.Style.{content_lines}
use Rattle.rules.specs.Calls.{as_array}
use Rattle.rules.specs.Widths.{visible, contents}
use Rattle.laws.proofs.Accepted.{accepted_limits, checked-reading}
use Rattle.laws.proofs.Areas.{content-some}
use Rattle.laws.proofs.Bounds.{Most, contents_801}
use Rattle.laws.proofs.Contents.{length-contents}
use Rattle.laws.proofs.Counts.{visible_to, visible-to-none, visible-to-shown, visible-to_hidden, visible-to-all, visible_rising, visible_number}
use Rattle.laws.proofs.Lists.{all_get_d, get_d_map}
use Rattle.laws.proofs.Texts.{plain-all}
use Rattle.rules.specs.Places.{rows_place}
use Rattle.table.specs.Held.{IsAccepted, table_of, settings_of, columns_of}
use Rattle.table.specs.Walk.{rows_in, rows_end}
use Rattle.table.specs.declared.records.Rows.{Rows}
use Rattle.table.specs.declared.records.Settings.{Settings}
use Rattle.arrayvec.specs.ArrayVec.{ArrayVec}
use Rattle.table.proofs.Held.{room}
use Rattle.table.proofs.Walks.{rows_number}
use Rattle.arrangement.specs.declared.Widths.{Widths}
use Rattle.arrangement.specs.Widths.{arranged_widths}
use Rattle.row.specs.Alignment.{aligned}
use Rattle.row.specs.View.{View, no_column as noVisible, visible_at, shown_of, number_of, Views}
use Rattle.row.specs.Open.{Rising, UsableAll}
use Rattle.formatting.specs.RowText.{Marks}
use Rattle.row.proofs.Alignment.{aligned_left}
use Rattle.row.proofs.Joined.{map_snoc}
use Rattle.row.proofs.Open.{or-printable}
use Rattle.borders.specs.Rule.{NarrowAll}
use Rattle.formatting.specs.Stand.{text_style_of}
use Rattle.row.specs.declared.CellAlignment.{CellAlignment}
use Rattle.row.specs.declared.CellAlignment.TheVariants.{Left}
use Rattle.row.specs.declared.VisibleColumn.{VisibleColumn}
use Rattle.display_info.specs.declared.LineStyles.{LineStyles}
use Rattle.display_info.specs.Opened.{styles_of, RowsAt}
use Rattle.display_info.specs.Opening.{shown_from, behind, showing}

-- the table of a sheet that passes keeps every limit
pub limits_of : (s : List ℕ) → IsAccepted s → TableLimits (table_of s)
unfolding table_of
limits_of s h = let r = checked-reading s h in let e = r.reads in rw e (accepted_limits s r.table r.end e)

-- ---- the look of a style

-- the edges of the body's text lines
pub body_edges : (S : List ℕ) (l : LineStyles) → l ≡ styles_of S → l.body.lines ≡ text_style_of S content_lines
unfolding styles_of
body_edges S l e = ap (λ (x : LineStyles). x.body.lines) e

-- ---- the visible columns

pub show_hidden : (view : View) (j : ℕ) (c : Column) (w d : ℕ) (b : Bool) → b ≡ is_hidden c → b ≡ true → view ≡ showing view j c w d
unfolding showing
show_hidden view j c w d b e f = let h : is_hidden c ≡ true = sym e ∙ f in rw (h, showing)

pub show-visible : (view : View) (j : ℕ) (c : Column) (w d x : ℕ) (a : CellAlignment) (b : Bool) → b ≡ is_hidden c → b ≡ false
    → x ≡ or_else c.delimiter d
    → a ≡ aligned c.alignment Left
    → behind view (record { number = j; width = w; left = c.left; right = c.right; delimiter = x; alignment = a }) ≡ showing view j c w d
unfolding showing
show-visible view j c w d x a b e f g k = let h : is_hidden c ≡ false = sym e ∙ f in rw (h, showing, g, k, aligned_left c.alignment)

-- the first j columns have been looked at
pub record Showing (t : Table) (j : ℕ) (view : View) : Type 0 where
  pub so : view ≡ map (shown_of t (contents t)) (visible_to t j)
  pub few : length view ≤ j

pub showing_begin : (t : Table) (view : View) → view ≡ [] → Showing t 0 view
showing_begin t view e = record { so = rw (e, visible-to-none t); few = omega (arith, ap length e) }

-- a column as it was read and as it is drawn
shown_is : (t : Table) (j : ℕ) → shown_from j (column_at t j) (get_or (contents t) j 0) (or_else t.delimiter 32) ≡ shown_of t (contents t) j
unfolding shown_of
shown_is t j = refl

module _ (t : Table) (j : ℕ) (view : View) (S : Showing t j view) where
  skipped : is_hidden (column_at t j) ≡ true → Showing t (suc j) view
  skipped h = record { so = rw (visible-to_hidden t j h) S.so; few = omega (arith, S.few) }

  added : is_hidden (column_at t j) ≡ false → (v : VisibleColumn) → v ≡ shown_of t (contents t) j → Showing t (suc j) (behind view v)
  added h v e =
      record {
        so = rw (visible-to-shown t j h, map_snoc (shown_of t (contents t)) (visible_to t j) j, e, S.so);
        few = omega (arith, S.few, length-append view (v ∷ []));
      }

  -- column j has been looked at too
  pub showing-on : (c : Column) (w d : ℕ) (u : View) → c ≡ column_at t j → w ≡ get_or (contents t) j 0 → d ≡ or_else t.delimiter 32 →
      u ≡ showing view j c w d → Showing t (j + 1) u
  unfolding showing
  showing-on c w d u e f g h =
      let v : shown_from j c w d ≡ shown_of t (contents t) j = rw (e, f, g) (shown_is t j) in
      let x : is_hidden c ≡ is_hidden (column_at t j) = ap is_hidden e in
      rw (add-one j, h) (go (is_hidden c) (sym x) v)
    where
      go : (b : Bool) → is_hidden (column_at t j) ≡ b → shown_from j c w d ≡ shown_of t (contents t) j
          → Showing t (suc j) (elim b as (λ z. View) [ true ↦ view | false ↦ behind view (shown_from j c w d) ])
      go true p v = skipped p
      go false p v = added p (shown_from j c w d) v

-- what was read: how many columns, column j's content width, the delimiter where a column sets none
pub columns-count : (t : Table) (x : ArrayVec Column) → x ≡ columns_of t → length x.items ≡ length t.columns
unfolding columns_of
columns-count t x e = ap (λ (y : ArrayVec Column). length y.items) e

pub width_is : (t : Table) (x : Widths) (j : ℕ) → x ≡ arranged_widths t → j < length t.columns → get_or x.content j 0 ≡ get_or (contents t) j 0
unfolding arranged_widths as_array
width_is t x j e h = rw e (get_or-append (contents t) (replicate (most_columns - length (contents t)) 0) 0 j (omega (arith, length-contents t)))

pub delimiter_is : (t : Table) (x : Settings) (d : ℕ) → x ≡ settings_of t → d ≡ or_else x.delimiter 32 → d ≡ or_else t.delimiter 32
unfolding settings_of
delimiter_is t x d e f = f ∙ rw e

-- the indicator as it was read
pub marks_of : (s ind : List ℕ) → IsAccepted s → ind ≡ (table_of s).indicator → Marks s ind
marks_of s ind passes e = record { are = e; plain = rw e (plain-all (table_of s).indicator (limits_of s passes).indicator_characters) }

-- all columns have been looked at
pub showing_done : (t : Table) (j : ℕ) (view : View) → TableLimits t → j ≡ length t.columns → Showing t j view → Views t (contents t) view
showing_done t j view T e S =
    let v : view ≡ map (shown_of t (contents t)) (visible t) = S.so ∙ ap (map (shown_of t (contents t))) (rw e (visible-to-all t)) in
    record {
      count = ap length v ∙ length-map (visible t) (shown_of t (contents t));
      most = omega (arith, S.few, T.columns);
      each = λ i h.
          ap (λ l. get_or l i noVisible) v
          ∙ get_d_map (shown_of t (contents t)) (visible t) i 0 noVisible (omega (arith, ap length v, length-map (visible t) (shown_of t (contents t))));
    }

-- what holds of such a view
module _ (t : Table) (view : View) (T : TableLimits t) (W : Views t (contents t) view) where
  number_at : (i : ℕ) → i < length view → (visible_at view i).number ≡ number_of t i
  unfolding shown_of
  number_at i h = ap (λ (v : VisibleColumn). v.number) (W.each i h)

  inside : (i : ℕ) → i < length view → number_of t i < length t.columns
  inside i h = let c = W.count in visible_number t i (omega arith)

  pub view_rising : Rising view
  view_rising = record {
    most = W.most;
    order = λ i k h l. let c = W.count in
        rw (number_at i (omega arith), number_at k l) (visible_rising t i k h (omega arith));
  }

  -- the delimiter of column n, else the table's, else a space
  delimiter_prints : (n : ℕ) → n < length t.columns → Printable (or_else (column_at t n).delimiter (or_else t.delimiter 32))
  delimiter_prints n h =
      let c = all_get_d ColumnLimits t.columns n no_column h T.each_column in
      or-printable (column_at t n).delimiter (or_else t.delimiter 32) c.delimiter
      (or-printable t.delimiter 32 T.delimiter (omega arith, omega arith))

  pub view_usable : UsableAll view
  unfolding shown_of
  view_usable i h =
      rw (W.each i h) (content-some t (number_of t i) (inside i h), delimiter_prints (number_of t i) (inside i h))

  pub view_narrow : NarrowAll view
  unfolding shown_of
  view_narrow = record { most = W.most; each = λ i h. rw (W.each i h) (go (number_of t i) (inside i h)) }
    where
      go : (n : ℕ) → n < length t.columns → (column_at t n).left + (get_or (contents t) n 0 + (column_at t n).right) < 65536
      go n h =
          let c = all_get_d ColumnLimits t.columns n no_column h T.each_column in
          let w = all_get_d (Most 801) (contents t) n 0 (omega (arith, length-contents t)) (contents_801 t T) in
          omega (arith, c.left, c.right, w)

-- ---- header and rows

-- all of some rows are the last of them
all-last : (s : List ℕ) (c : Rows) (rs : List Row) → rows_in s c ≡ rs → rows_in s c ≡ drop (length rs - c.left) rs
all-last s c rs e = let z : length rs - c.left ≡ 0 = omega (arith, ap length e, rows_number s c) in e ∙ ap (λ n. drop n rs) (sym z)

module _ (s : List ℕ) (passes : IsAccepted s) (c : Rows) where
  pub header_at : rows_in s c ≡ (table_of s).header → rows_end s c ≡ rows_place s → RowsAt s c
  header_at e f =
      let m = room s passes in
      record { ends = omega (arith, f); sound = rw e (limits_of s passes).header_row; among = ∣ inl (all-last s c _ e) ∣₁ }

  -- at most one header row
  pub header_one : rows_in s c ≡ (table_of s).header → c.left ≤ 1
  header_one e = omega (arith, (limits_of s passes).header, ap length e, rows_number s c)

  pub rows_few : rows_in s c ≡ (table_of s).rows → c.left ≤ 100
  rows_few e = omega (arith, (limits_of s passes).rows, ap length e, rows_number s c)

  pub rows_at : rows_in s c ≡ (table_of s).rows → rows_end s c ≡ length s → RowsAt s c
  rows_at e f = record { ends = omega (arith, f); sound = rw e (limits_of s passes).each_row; among = ∣ inr (all-last s c _ e) ∣₁ }
