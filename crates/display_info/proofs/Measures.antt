-- How long a page's lines are. Assumes nothing.
use Prim.Native.Nat.{ℕ, zero, suc, ◌+◌, ◌-◌, ◌≤◌, ◌<◌}
use mathlib.Core.Path.{◌≡◌, refl, sym, ap, ◌∙◌}
use mathlib.Core.List.{List, [], ◌∷◌, ◌++◌, map}
use mathlib.Core.Bool.{Bool, true, false, cond}
use native.Mathlib.Omega.{arith}
use native.Mathlib.Numerals.{add-one}
use lib.ListN.{length}
use Rattle.std.specs.Prelude.{is_some}
use Rattle.std.specs.Bool.{then_some}
use Rattle.rules.specs.Text.{sum, up_from, one_if}
use Rattle.rules.specs.Sheet.{Table}
use Rattle.rules.specs.Limits.{TableLimits}
use Rattle.rules.specs.Style.{any_left, any_right, any_junction, borders_of}
use Rattle.rules.specs.Widths.{visible, borders, contents}
use Rattle.rules.specs.Page.{visible_width, visible_widths, line_length, border_length}
use Rattle.laws.proofs.Cases.{one_if-cond}
use Rattle.laws.proofs.Counts.{line-length-bound, border-length-bound}
use Rattle.laws.proofs.Lists.{up_from-last, map-append}
use Rattle.table.specs.Held.{table_of}
use Rattle.buffer.specs.declared.Edges.{Edges}
use Rattle.row.specs.View.{View, visible_at, Views, shown_of, number_of}
use Rattle.row.proofs.Joined.{map_numbered}
use Rattle.formatting.specs.Stand.{text_style_of}
use Rattle.display_info.specs.Lengths.{width_up_to, measured, LengthsAre}

-- ---- visible widths summed

pub width-none : (view : View) → 0 ≡ width_up_to view 0
unfolding width_up_to
width-none view = refl

pub width-on : (view : View) (i n : ℕ) → n ≡ width_up_to view i
    → n + ((visible_at view i).left + ((visible_at view i).width + (visible_at view i).right)) ≡ width_up_to view (i + 1)
unfolding width_up_to
width-on view i n e = rw (add-one i) (omega arith)

pub sum_snoc : (ns : List ℕ) (n : ℕ) → sum (ns ++ (n ∷ [])) ≡ sum ns + n
unfolding sum
sum_snoc [] n = omega arith
sum_snoc (m ∷ ns) n = omega (arith, sum_snoc ns n)

pub no-sum : (f : ℕ → ℕ) → sum (map f (up_from 0 0)) ≡ 0
unfolding sum up_from
no-sum f = refl

module _ (t : Table) (ws : List ℕ) (view : View) (W : Views t ws view) where
  here : ℕ → ℕ
  here i = visible_width t ws (number_of t i)

  shown-here : (i : ℕ) → i < length view → (visible_at view i).left + ((visible_at view i).width + (visible_at view i).right) ≡ here i
  unfolding here shown_of
  shown-here i h = rw (W.each i h) (omega arith)

  up_to : (n : ℕ) → n ≤ length view → width_up_to view n ≡ sum (map here (up_from 0 n))
  unfolding width_up_to
  up_to zero h = none
    where
      none : 0 ≡ sum (map here (up_from 0 0))
      none = sym (no-sum here)
  up_to (suc n) h =
      let z : 0 + n ≡ n = omega arith in
      let e : map here (up_from 0 (suc n)) ≡ map here (up_from 0 n) ++ (here n ∷ []) = ap (map here)
      (up_from-last 0 n ∙ ap (λ m. up_from 0 n ++ (m ∷ [])) z) ∙ map-append here (up_from 0 n) (n ∷ []) in
      omega (arith, up_to n (omega arith), shown-here n (omega arith), ap sum e, sum_snoc (map here (up_from 0 n)) (here n))

  pub width-sum : width_up_to view (length view) ≡ sum (visible_widths t ws)
  unfolding visible_widths here
  width-sum = up_to (length view) (omega arith) ∙ sym (ap sum (map_numbered (visible_width t ws) 0 (visible t) ∙ ap (λ n. map here (up_from 0 n))
      (sym W.count)))

-- a character or a rule is there where it is drawn
pub some-drawn : {A : Type 0} (b : Bool) (c : A) → is_some (then_some b c) ≡ b
some-drawn true c = refl
some-drawn false c = refl

-- the lengths from their parts
pub lengths_are : (s : List ℕ) (view : View) (y : Edges) (k : ℕ) → TableLimits (table_of s) → Views (table_of s) (contents (table_of s)) view
    → y ≡ text_style_of (table_of s).style k → LengthsAre s (measured view y)
unfolding measured line_length border_length borders borders_of text_style_of
lengths_are s view y k L V q =
    let S = (table_of s).style in
    let i = length view - 1 in
    let w : width_up_to view (length view) ≡ sum (visible_widths (table_of s) (contents (table_of s))) = width-sum (table_of s) (contents (table_of s)) view V in
    let x : cond (is_some y.left) 1 0 ≡ one_if (any_left S) =
    ap (λ (e : Edges). cond (is_some e.left) 1 0) q ∙ ap (λ b. cond b 1 0) (some-drawn (any_left S) _) ∙ one_if-cond (any_left S) in
    let z : cond (is_some y.right) 1 0 ≡ one_if (any_right S) =
    ap (λ (e : Edges). cond (is_some e.right) 1 0) q ∙ ap (λ b. cond b 1 0) (some-drawn (any_right S) _) ∙ one_if-cond (any_right S) in
    let v : i ≡ length (visible (table_of s)) - 1 = ap (λ n. n - 1) V.count in
    let u : cond (is_some y.junction) i 0 ≡ cond (any_junction S) (length (visible (table_of s)) - 1) 0 =
    ap (λ (e : Edges). cond (is_some e.junction) i 0) q ∙ ap (λ b. cond b i 0) (some-drawn (any_junction S) _) ∙ ap (λ n. cond (any_junction S) n 0) v in
    let e : (measured view y).line ≡ line_length (table_of s) (contents (table_of s)) = rw (x, z, u, w) in
    let f : (measured view y).border ≡ border_length (table_of s) (contents (table_of s)) = rw (x, z, v, w) in
    record {
      line = e;
      border = f;
      line_small = omega (arith, e, line-length-bound (table_of s) L);
      border_small = omega (arith, f, border-length-bound (table_of s) L);
    }
