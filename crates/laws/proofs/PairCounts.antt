-- A line has a byte more than columns for each of its pairs. Wrapping and cutting make no pair. Assumes nothing.
use Prim.Native.Nat.{ℕ, suc, ◌+◌, ◌-◌, ◌≤◌, ◌<◌}
use mathlib.Core.Path.{◌≡◌, refl, ap, ◌∙◌}
use mathlib.Core.List.{List, [], ◌∷◌, ◌++◌}
use mathlib.Core.Bool.{Bool, true, false, not}
use native.Mathlib.Omega.{arith}
use lib.ListN.{length, get_or, length-append}
use Rattle.rules.specs.Text.{keep, is_second, text_width, first_of, rest_of, flat, All}
use Rattle.rules.specs.Sheet.{Cell, Row, Table, no_cell, column_at, cell_at}
use Rattle.rules.specs.Limits.{Printable, Plain, PlainCell, PlainRow, LineLimits, CellLimits, TableLimits}
use Rattle.rules.specs.Wrap.{delimiter_of, wrap_line, wrap_lines, shown_indicator, cut_line}
use Rattle.rules.specs.Page.{wrapped, cell_lines}
use Rattle.laws.proofs.Lists.{all_imp, all_default, all-flat, keep_append}
use Rattle.laws.proofs.Text.{width-nil, width-second, width-cons, width-append, width-le, first_rest}
use Rattle.laws.proofs.Texts.{printable-first, text-length}
use Rattle.laws.proofs.Keeps.{kept_line}
use Rattle.laws.proofs.Fits.{all-cut, plain_indicator}
use Rattle.laws.proofs.Characters.{printable_delimiter}

-- at most n pairs
abbrev pub PairsUpTo : ℕ → List ℕ → Type 0
PairsUpTo n l = length l ≤ text_width l + n

-- the pairs' second bytes
abbrev pub seconds : List ℕ → List ℕ
seconds l = keep (λ b. not (not (is_second b))) l

-- all bytes but these are columns
pub length-seconds : (l : List ℕ) → length l ≡ text_width l + length (seconds l)
unfolding keep
length-seconds [] = omega (arith, width-nil)
length-seconds (b ∷ l) = go (is_second b) refl (length-seconds l)
  where
    go : (x : Bool) → is_second b ≡ x → length l ≡ text_width l + length (seconds l) → suc (length l) ≡ text_width (b ∷ l) + length (seconds (b ∷ l))
    go true e h = rw (width-second b l e, e, keep) (omega arith)
    go false e h = rw (width-cons b l e, e, keep) (omega arith)

-- those of two texts, one after the other
pub seconds-append : (l m : List ℕ) → length (seconds (l ++ m)) ≡ length (seconds l) + length (seconds m)
seconds-append l m = ap length (keep_append (λ b. not (not (is_second b))) l m) ∙ length-append (seconds l) (seconds m)

-- no line has more of them than all lines together
seconds-part : (ls : List (List ℕ)) → All (λ m. length (seconds m) ≤ length (seconds (flat ls))) ls
unfolding flat
seconds-part [] = tt
seconds-part (l ∷ ls) =
    let e = seconds-append l (flat ls) in (
      omega arith,
      all_imp (λ m. length (seconds m) ≤ length (seconds (flat ls))) (λ m. length (seconds m) ≤ length (seconds (l ++ flat ls)))
          (λ m h. omega arith) ls (seconds-part ls),
    )

-- the lines that a line wraps to
module _ (n w d : ℕ) (some : 0 < w) (delimiter : is_second d ≡ false) where
  pairs-wrap_line : (l : List ℕ) → PairsUpTo n l → All (PairsUpTo n) (wrap_line w d l)
  pairs-wrap_line l h =
      let e : seconds (flat (wrap_line w d l)) ≡ seconds l = kept_line (λ b. not (is_second b)) d (rw delimiter) w some l in
      all_imp (λ m. length (seconds m) ≤ length (seconds (flat (wrap_line w d l)))) (PairsUpTo n)
      (λ m k. omega (arith, ap length e, length-seconds l, length-seconds m)) (wrap_line w d l) (seconds-part (wrap_line w d l))

  pairs-wrap_lines : (ls : List (List ℕ)) → All (PairsUpTo n) ls → All (PairsUpTo n) (wrap_lines w d ls)
  unfolding wrap_lines
  pairs-wrap_lines ls h = all-flat (PairsUpTo n) (PairsUpTo n) (wrap_line w d) pairs-wrap_line ls h

-- a line that is cut
pairs-cut_line : (n w : ℕ) (i l : List ℕ) → All Printable i → PairsUpTo n l → PairsUpTo n (cut_line w i l)
unfolding cut_line
pairs-cut_line n w i l p h =
    let x = shown_indicator w i in
    let a = first_of (w - text_width x) l in
    let b = rest_of (w - text_width x) l in
    let e : a ++ b ≡ l = first_rest (w - text_width x) l in
    omega (
      arith,
      ap length e,
      ap text_width e,
      length-append a b,
      width-append a b,
      width-le b,
      length-append a x,
      width-append a x,
      plain_indicator w i p,
    )

-- a cell's lines, wrapped and cut
module _ (t : Table) (T : TableLimits t) (ws : List ℕ) (r : Row) (R : All CellLimits r.cells) where
  pairs-cell : (n : ℕ) → All (λ x. All (PairsUpTo n) x.lines) r.cells → (j : ℕ) → 1 ≤ get_or ws j 0 → All (PairsUpTo n) (cell_lines t ws r j)
  unfolding cell_lines wrapped
  pairs-cell n h j some =
      let x = cell_at r j in
      let d = delimiter_of t (column_at t j) x in
      let few : All (PairsUpTo n) x.lines = all_default (λ x. All (PairsUpTo n) x.lines) r.cells j no_cell (omega arith, tt) h in
      all-cut (PairsUpTo n) (get_or ws j 0) t.indicator r.limit (wrapped t ws r j) (omega arith)
      (λ l k. pairs-cut_line n (get_or ws j 0) t.indicator l T.indicator_characters k)
      (pairs-wrap_lines n (get_or ws j 0) d some (printable-first d (printable_delimiter t T ws r R j)) x.lines few)

  pairs-shown : (n : ℕ) → All (λ x. All (PairsUpTo n) x.lines) r.cells → (k j : ℕ) → 1 ≤ get_or ws j 0
      → PairsUpTo n (get_or (cell_lines t ws r j) k [])
  pairs-shown n h k j some = all_default (PairsUpTo n) (cell_lines t ws r j) k [] (omega arith) (pairs-cell n h j some)

  -- a cell's line has at most 200 bytes, so that at most 100 are second ones
  line_100 : (l : List ℕ) → LineLimits l → PairsUpTo 100 l
  line_100 l h = omega (arith, h.length, text-length h.characters)

  cell_100 : (x : Cell) → CellLimits x → All (PairsUpTo 100) x.lines
  cell_100 x h = all_imp LineLimits (PairsUpTo 100) line_100 x.lines h.texts

  -- what is shown has as many at most
  pub shown_100 : (k j : ℕ) → 1 ≤ get_or ws j 0 → PairsUpTo 100 (get_or (cell_lines t ws r j) k [])
  shown_100 k j some = pairs-shown 100 (all_imp CellLimits (λ x. All (PairsUpTo 100) x.lines) cell_100 r.cells R) k j some

  plain_cell : (x : Cell) → PlainCell x → All (PairsUpTo 0) x.lines
  plain_cell x h = all_imp Plain (PairsUpTo 0) (λ l e. omega (arith, e)) x.lines h

  -- where a row's cells have no pair, none is shown
  pub plain-shown : PlainRow r → (k j : ℕ) → 1 ≤ get_or ws j 0 → Plain (get_or (cell_lines t ws r j) k [])
  plain-shown h k j some =
      let l = get_or (cell_lines t ws r j) k [] in
      omega (arith, width-le l, pairs-shown 0 (all_imp PlainCell (λ x. All (PairsUpTo 0) x.lines) plain_cell r.cells h) k j some)
