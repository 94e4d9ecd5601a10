-- The areas of a place, one below the other, hold an uncut cell's characters, spaces and its delimiter left out. Assumes nothing.
use Prim.Native.Nat.{ℕ, zero, suc, ◌≤◌, ◌<◌}
use mathlib.Core.Path.{◌≡◌, refl, ap, sym, ◌∙◌}
use mathlib.Core.Logic.{◌⊎◌, inl, inr}
use mathlib.Core.List.{List, [], ◌∷◌, ◌++◌, map, append-nil}
use mathlib.Core.Bool.{Bool, true, false, not}
use native.Mathlib.Nat.{not-suc-le-zero, le_of_suc-le-suc}
use native.Mathlib.Omega.{arith}
use lib.ListN.{length, get_or, get_or-eq_default}
use lib.Dec.{ltb}
use borrow.Author.Tests.{ltb-false, le-ltb}
use Rattle.rules.specs.Text.{is_second, characters_in, blank, up_from, keep, flat}
use Rattle.rules.specs.Sheet.{Row, Table, no_cell, column_at, cell_at}
use Rattle.rules.specs.declared.Column.{Column}
use Rattle.rules.specs.Wrap.{delimiter_of, wrap_lines, exceeds, cut}
use Rattle.rules.specs.Widths.{visible, contents}
use Rattle.rules.specs.Page.{alignment_of, area, wrapped, cell_lines, height, area_at}
use Rattle.rules.specs.Words.{row_at, column_of, lines_of, area_of, Uncut, characters}
use Rattle.laws.proofs.Lists.{keep_append, keep_swap, all_get_d, map_shift, le-greatest}
use Rattle.laws.proofs.Text.{width-nil, characters-append}
use Rattle.laws.proofs.Split.{wrap_short}
use Rattle.laws.proofs.Keeps.{kept-lines}
use Rattle.laws.proofs.Areas.{visible_below, content-some}

-- p: what stays, spaces not among it
module _ (p : ℕ → Bool) (space : p 32 ≡ false) where
  keep-blank : (n : ℕ) → keep p (blank n) ≡ []
  unfolding keep
  keep-blank zero = refl
  keep-blank (suc n) = rw (space, keep) (keep-blank n)

  keep-area : (c : Column) (w a : ℕ) (l : List ℕ) → keep p (area c w a l) ≡ keep p l
  unfolding area
  keep-area c w a l = simp (keep_append, keep-blank, append-nil)

  -- a cell's areas, in a row of n lines; blank ones below
  keep-column : (c : Column) (w a : ℕ) (ls : List (List ℕ)) (n : ℕ) → length ls ≤ n → keep p
      (flat (map (λ k. area c w a (get_or ls k [])) (up_from 0 n))) ≡ keep p (flat ls)
  unfolding flat up_from keep
  keep-column c w a [] zero h = refl
  keep-column c w a [] (suc n) h =
      keep_append p (area c w a []) _ ∙ rw (keep-area c w a [], map_shift (λ k. area c w a (get_or {A = List ℕ} [] k [])) 0 n)
      (keep-column c w a [] n (omega arith))
  keep-column c w a (l ∷ ls) zero h = absurd (not-suc-le-zero h)
  keep-column c w a (l ∷ ls) (suc n) h =
      keep_append p (area c w a l) _ ∙ rw (
        keep-area c w a l,
        map_shift (λ k. area c w a (get_or (l ∷ ls) k [])) 0 n,
        keep-column c w a ls n
            (le_of_suc-le-suc h),
      ) (sym (keep_append p l (flat ls)))

-- no more lines than the limit, 0 being none
within_limit : (h n : ℕ) → (h ≡ 0) ⊎ (n ≤ h) → exceeds h n ≡ false
unfolding exceeds
within_limit zero n o = refl
within_limit (suc h) n (inl e) = absurd (omega arith)
within_limit (suc h) n (inr l) = le-ltb (suc h) n l

-- an uncut cell shows all the lines that it wraps to
pub uncut-lines : (t : Table) (ws : List ℕ) (r : Row) (j : ℕ) → (r.limit ≡ 0) ⊎ (length (wrapped t ws r j) ≤ r.limit) → cell_lines t ws r j ≡ wrapped
    t ws r j
unfolding cell_lines cut
uncut-lines t ws r j o = rw (within_limit r.limit (length (wrapped t ws r j)) o, cut)

-- a missing cell is one blank line, whatever the width
missing-lines : (w d : ℕ) → wrap_lines w d ([] ∷ []) ≡ [] ∷ []
unfolding wrap_lines flat
missing-lines w d = rw (wrap_short w d [] (rw width-nil (omega arith)))

-- q: what is left out, spaces among it, and the cell's delimiter where there is a cell
module _ (q : ℕ → Bool) (t : Table) (ws : List ℕ) (r : Row) (j : ℕ) (some : 1 ≤ get_or ws j 0)
    (delimiter : ltb j (length r.cells) ≡ true → q (delimiter_of t (column_at t j) (cell_at r j)) ≡ true) where
  wrapped_text : keep (λ ch. not (q ch)) (flat (wrapped t ws r j)) ≡ keep (λ ch. not (q ch)) (flat (cell_at r j).lines)
  unfolding wrapped
  wrapped_text = go (ltb j (length r.cells)) refl
    where
      go : (b : Bool) → ltb j (length r.cells) ≡ b
          → keep (λ ch. not (q ch)) (flat (wrap_lines (get_or ws j 0) (delimiter_of t (column_at t j) (cell_at r j)) (cell_at r j).lines)) ≡ keep
          (λ ch. not (q ch)) (flat (cell_at r j).lines)
      go true e = kept-lines q (delimiter_of t (column_at t j) (cell_at r j)) (delimiter e) (get_or ws j 0) some (cell_at r j).lines
      go false e =
          let m : cell_at r j ≡ no_cell = get_or-eq_default r.cells no_cell (ltb-false j (length r.cells) e) in
          rw m (ap (λ l. keep (λ ch. not (q ch)) (flat l)) (missing-lines (get_or ws j 0) (delimiter_of t (column_at t j) no_cell)))

-- the delimiter of the cell at a place is left out, where there is a cell
abbrev pub Without : (ℕ → Bool) → Table → ℕ → ℕ → Type 0
Without q t i c =
    ltb (column_of t c) (length (row_at t i).cells) ≡ true → q (delimiter_of t (column_at t (column_of t c)) (cell_at (row_at t i) (column_of t c))) ≡ true

-- the bytes of a place
place_text : (q : ℕ → Bool) → q 32 ≡ true → (t : Table) (i c : ℕ) → c < length (visible t)
    → Without q t i c → Uncut t i c
    → keep (λ ch. not (q ch)) (flat (map (λ k. area_of t i k c) (up_from 0 (lines_of t i))))
    ≡ keep (λ ch. not (q ch)) (flat (cell_at (row_at t i) (column_of t c)).lines)
unfolding area_at height
place_text q space t i c h d o =
    let ws = contents t in
    let r = row_at t i in
    let j = column_of t c in
    let below = all_get_d (λ j. j < length t.columns) (visible t) c 0 h (visible_below t) in
    keep-column (λ ch. not (q ch)) (rw space) (column_at t j) (get_or ws j 0) (alignment_of (column_at t j) (cell_at r j)) (cell_lines t ws r j)
    (lines_of t i)
    (le-greatest (λ j. length (cell_lines t ws r j)) (visible t) c 0 h)
    ∙ ap (λ l. keep (λ ch. not (q ch)) (flat l)) (uncut-lines t ws r j o)
    ∙ wrapped_text q t ws r j (content-some t j below) d

characters-flat : (g : ℕ → List ℕ) (ks : List ℕ) → characters_in (flat (map g ks)) ≡ flat (map (λ k. characters_in (g k)) ks)
unfolding flat
characters-flat g [] = unfold characters_in keep in refl
characters-flat g (k ∷ ks) = characters-append (g k) (flat (map g ks)) ∙ ap (λ l. characters_in (g k) ++ l) (characters-flat g ks)

-- what is left of a text's characters are the characters of what is left of its bytes
characters-left : (p : ℕ → Bool) (l m : List ℕ) → keep p l ≡ keep p m → keep p (characters_in l) ≡ keep p (characters_in m)
unfolding characters_in
characters-left p l m e =
    let q : ℕ → Bool = λ b. not (is_second b) in
    keep_swap p q l ∙ ap (keep q) e ∙ sym (keep_swap p q m)

-- and its characters
pub place-characters : (q : ℕ → Bool) → q 32 ≡ true → (t : Table) (i c : ℕ) → c < length (visible t)
    → Without q t i c → Uncut t i c
    → keep (λ ch. not (q ch)) (flat (map (λ k. characters_in (area_of t i k c)) (up_from 0 (lines_of t i))))
    ≡ keep (λ ch. not (q ch)) (characters t i c)
place-characters q space t i c h d o =
    let p : ℕ → Bool = λ ch. not (q ch) in
    let ks = up_from 0 (lines_of t i) in
    ap (keep p) (sym (characters-flat (λ k. area_of t i k c) ks))
    ∙ characters-left p (flat (map (λ k. area_of t i k c) ks)) (flat (cell_at (row_at t i) (column_of t c)).lines) (place_text q space t i c h d o)
