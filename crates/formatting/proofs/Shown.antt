-- The pairs that a cell's lines show, line after line. Assumes nothing.
use Prim.Native.Nat.{ℕ, zero, suc, ◌+◌, ◌-◌, ◌*◌, ◌≤◌, ◌<◌}
use mathlib.Core.Path.{◌≡◌, refl, sym, ap, ◌∙◌}
use mathlib.Core.List.{List, [], ◌∷◌, ◌++◌, map}
use mathlib.Core.Bool.{Bool, true, false, ◌&&◌}
use native.Mathlib.Omega.{arith}
use lib.ListN.{length, get_or, get_or-eq_default}
use lib.Seq.{slice, length-slice}
use borrow.Author.Tests.{ltb-false}
use Rattle.rules.specs.Text.{text_width, sum, up_from}
use Rattle.rules.specs.Wrap.{cut}
use Rattle.laws.proofs.Lists.{up_from-last}
use Rattle.laws.proofs.RowBytes.{pairs_of, pairs_at, pairs_once}
use Rattle.laws.proofs.Text.{width-le}
use Rattle.table.specs.Walk.{lines_in, lines_end, first_line}
use Rattle.table.specs.declared.records.Lines.{Lines}
use Rattle.cells.proofs.Counts.{span, span-most}
use Rattle.row.specs.Pending.{Stands}
use Rattle.row.specs.declared.VisibleColumn.{VisibleColumn}
use Rattle.row.specs.declared.Pending.{Pending}
use Rattle.row.proofs.Joined.{map_snoc}
use Rattle.cells.specs.declared.Next.{Next}
use Rattle.formatting.specs.declared.content_format.Shown.{Shown}
use Rattle.formatting.specs.Area.{LineIn, ShownIs, After, shown_text}
use Rattle.formatting.specs.Stand.{in_limit, last_of}
use Rattle.formatting.specs.Shown.{shown_in}
use Rattle.formatting.proofs.RowText.{first-true}
use Rattle.formatting.proofs.Stand.{stands_found, stands_on, cut_has, shown-at}

-- a cell line has no more bytes than the sheet
pub line-most : (s : List ℕ) (c : Lines) → lines_end s c ≤ length s → length (first_line s c) ≤ length s
unfolding span
line-most s c h = omega (arith, go (lines_in s c), span-most s c h)
  where
    go : (ls : List (List ℕ)) → length (get_or ls 0 []) ≤ span ls
    go [] = omega arith
    go (l ∷ ls) = omega arith

-- a line as it is shown has no more columns than bytes
pub shown_less : (t : List ℕ) (l : Next) (w : ℕ) (r : Shown) → LineIn t l → ShownIs t l w r → r.columns ≤ r.end - l.start
shown_less t l w r I S =
    omega (arith, S.columns, width-le (slice l.start r.end t), length-slice l.start r.end t (omega (arith, S.within, I.within)))

-- ---- lines added up

sum_snoc : (xs : List ℕ) (n : ℕ) → sum (xs ++ (n ∷ [])) ≡ sum xs + n
unfolding sum
sum_snoc [] n = omega arith
sum_snoc (x ∷ xs) n = omega (arith, sum_snoc xs n)

shown-none : (ls : List (List ℕ)) (a : ℕ) → 0 ≡ shown_in ls a 0
unfolding shown_in sum up_from
shown-none ls a = refl

-- one more line
pub shown-suc : (ls : List (List ℕ)) (a n : ℕ) → shown_in ls a (suc n) ≡ shown_in ls a n + pairs_at ls (a + n)
unfolding shown_in
shown-suc ls a n =
    ap (λ l. sum (map (pairs_at ls) l)) (up_from-last a n)
    ∙ ap sum (map_snoc (pairs_at ls) (up_from a n) (a + n)) ∙ sum_snoc (map (pairs_at ls) (up_from a n)) (pairs_at ls (a + n))

-- past the last line there is nothing
shown-past : (ls : List (List ℕ)) (a n k : ℕ) → length ls ≤ a + n → shown_in ls a (k + n) ≡ shown_in ls a n
shown-past ls a n zero h = ap (shown_in ls a) (omega arith)
shown-past ls a n (suc k) h =
    let e : suc k + n ≡ suc (k + n) = omega arith in
    let z = ap (λ l. length l - text_width l) (get_or-eq_default ls [] {n = a + (k + n)} (omega arith)) in
    ap (shown_in ls a) e ∙ omega (arith, shown-suc ls a (k + n), shown-past ls a n k h, z)

pub shown-one : (ls : List (List ℕ)) (k : ℕ) → shown_in ls k 1 ≡ pairs_at ls k
shown-one ls k =
    let e : k + 0 ≡ k = omega arith in
    omega (arith, shown-suc ls k 0, shown-none ls k, ap (pairs_at ls) e)

pub shown-all : (ls : List (List ℕ)) (n : ℕ) → length ls ≤ n → shown_in ls 0 n ≡ pairs_of ls
unfolding shown_in
shown-all ls n h = pairs_once ls n h

-- ---- a cell's lines

-- the lines from a up to j show n pairs, and line j is pending
pub record Showing (s : List ℕ) (v : VisibleColumn) (ls : List (List ℕ)) (ind : List ℕ) (h a e : ℕ) (t : Pending) (n j : ℕ) : Type 0 where
  pub onward : a ≤ j
  pub within : j ≤ e
  pub stands : Stands s v ls j t
  pub total : n ≡ shown_in (cut v.width ind h ls) a (j - a)
  pub small : n ≤ 32768 * (j - a)

module _ (s : List ℕ) (v : VisibleColumn) (ls : List (List ℕ)) (ind : List ℕ) (h a e : ℕ) where
  pub showing_begins : a ≤ e → (t : Pending) → Stands s v ls a t → Showing s v ls ind h a e t 0 a
  showing_begins k t S =
      let z : a - a ≡ 0 = omega arith in
      record { onward = omega arith; within = k; stands = S; total = rw z (shown-none (cut v.width ind h ls) a); small = omega arith }

  module _ (t : Pending) (n j : ℕ) (G : Showing s v ls ind h a e t n j) where
    -- the limit leaves no line j, or the cell hasn't it
    pub showing_ends : false ≡ (in_limit h j && t.line.found) → n ≡ shown_in (cut v.width ind h ls) a (e - a)
    showing_ends f =
        let g = cut_has v.width ind h j ls ∙ sym (f ∙ ap (λ b. in_limit h j && b) (stands_found s v ls j t G.stands)) in
        let l = ltb-false j (length (cut v.width ind h ls)) g in
        let w : a + (j - a) ≡ j = omega (arith, G.onward) in
        let q : e - j + (j - a) ≡ e - a = omega (arith, G.onward, G.within) in
        G.total ∙ sym (ap (shown_in (cut v.width ind h ls) a) (sym q) ∙ shown-past (cut v.width ind h ls) a (j - a) (e - j) (omega arith))

    -- line j is shown
    pub showing-on : true ≡ (in_limit h j && t.line.found) → j < e → (r : Pending) → After s v.width t r → (c : Bool) → c ≡ (last_of h j && r.line.found)
        → (m : ℕ) → (m ≡ length (shown_text s v.width ind c t) - text_width (shown_text s v.width ind c t)) × (m ≤ 32768)
        → Showing s v ls ind h a e r (n + m) (j + 1)
    showing-on f l r A c x m o =
        let p = first-true (in_limit h j) t.line.found (sym f) in
        let y = shown-at s v ls j t G.stands ind h p c (x ∙ ap (λ b. last_of h j && b) A.line.found) in
        let k : j + 1 - a ≡ suc (j - a) = omega (arith, G.onward) in
        let w : a + (j - a) ≡ j = omega (arith, G.onward) in
        let u = shown-suc (cut v.width ind h ls) a (j - a) ∙ ap (λ i. shown_in (cut v.width ind h ls) a (j - a) + pairs_at (cut v.width ind h ls) i) w in
        let z = ap (λ t. length t - text_width t) y in
        record {
          onward = omega (arith, G.onward);
          within = omega arith;
          stands = stands_on s v ls j t G.stands r A;
          total = rw k (omega (arith, G.total, o.0, z, u));
          small = omega (arith, G.small, o.1, G.onward);
        }
