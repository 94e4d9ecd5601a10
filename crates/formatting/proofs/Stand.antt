-- What is pending for a row is what the document's rules say: its lines, its cut, its height. Assumes nothing.
use Prim.Native.Nat.{ℕ, zero, suc, ◌+◌, ◌-◌, ◌<◌}
use mathlib.Core.Path.{◌≡◌, refl, sym, ap, ◌∙◌}
use mathlib.Core.List.{List, [], ◌∷◌, ◌++◌}
use mathlib.Core.Bool.{Bool, true, false, ◌&&◌}
use native.Mathlib.Omega.{arith}
use lib.ListN.{length, take, drop, get_or, length-append, length-drop, get_or-append}
use lib.Seq.{drop-drop, get_or-drop, get_or_at, get_or-take, length-take-le}
use lib.Dec.{ltb, eqb}
use borrow.Author.Tests.{ltb-true, ltb-false, lt-ltb, le-ltb, eqb-true, eqb-false}
use Rattle.rules.specs.Sheet.{Row, Table, column_at, cell_at}
use Rattle.rules.specs.Text.{text_width}
use Rattle.rules.specs.Wrap.{exceeds, cut_line, cut}
use Rattle.rules.specs.Page.{area, area_at, alignment_of, wrapped, cell_lines}
use Rattle.row.specs.Alignment.{of_code}
use Rattle.row.specs.Pending.{pending_text, following, remaining, Stands}
use Rattle.row.specs.View.{View, visible_at, shown_of, number_of, Views}
use Rattle.row.specs.declared.VisibleColumn.{VisibleColumn}
use Rattle.row.specs.declared.Pending.{Pending}
use Rattle.row.proofs.Alignment.{before_of}
use Rattle.row.proofs.Stand.{stands_next}
use Rattle.formatting.specs.Area.{area_in, shown_text, After, column_piece}
use Rattle.formatting.specs.Stand.{StandsCell, in_limit, last_of}

-- ---- one cell

module _ (s : List ℕ) (v : VisibleColumn) (ls : List (List ℕ)) (j : ℕ) (t : Pending) (S : Stands s v ls j t) where
  remains_found : t.line.found ≡ true → drop j ls ≡ pending_text s t ∷ following s v.width t
  unfolding remaining
  remains_found e = sym S.lines ∙ rw (e, remaining)

  remains-none : t.line.found ≡ false → drop j ls ≡ []
  unfolding remaining
  remains-none e = sym S.lines ∙ rw (e, remaining)

  first_of : get_or ls j [] ≡ get_or (drop j ls) 0 []
  first_of = sym (get_or-drop j ls 0 [] ∙ ap (λ i. get_or ls i []) (omega arith))

  -- the pending line, blank where there is none
  pub stands-line : get_or ls j [] ≡ pending_text s t
  stands-line = go t.line.found refl
    where
      go : (b : Bool) → t.line.found ≡ b → get_or ls j [] ≡ pending_text s t
      go true e = first_of ∙ rw (remains_found e)
      go false e = first_of ∙ rw (remains-none e) (sym (S.none e).1)

  pub stands_found : t.line.found ≡ ltb j (length ls)
  stands_found = go t.line.found refl
    where
      go : (b : Bool) → t.line.found ≡ b → t.line.found ≡ ltb j (length ls)
      go true e = e ∙ sym (lt-ltb j (length ls) (omega (arith, length-drop j ls, ap length (remains_found e))))
      go false e = e ∙ sym (le-ltb j (length ls) (omega (arith, length-drop j ls, ap length (remains-none e))))

  -- another line follows
  pub stands_follows : ltb 0 (length (following s v.width t)) ≡ ltb (j + 1) (length ls)
  stands_follows = go t.line.found refl
    where
      n : ℕ
      n = length (following s v.width t)

      by : (b : Bool) → ltb 0 n ≡ b → length ls ≡ j + (1 + n) → ltb 0 n ≡ ltb (j + 1) (length ls)
      by true e q = e ∙ sym (lt-ltb (j + 1) (length ls) (omega (arith, ltb-true 0 n e)))
      by false e q = e ∙ sym (le-ltb (j + 1) (length ls) (omega (arith, ltb-false 0 n e)))

      go : (b : Bool) → t.line.found ≡ b → ltb 0 n ≡ ltb (j + 1) (length ls)
      go true e = by (ltb 0 n) refl (omega (arith, length-drop j ls, ap length (remains_found e)))
      go false e = le-ltb 0 n (omega (arith, ap length (S.none e).0)) ∙ sym
          (le-ltb (j + 1) (length ls) (omega (arith, length-drop j ls, ap length (remains-none e))))

  -- the next line
  pub stands_on : (r : Pending) → After s v.width t r → Stands s v ls (j + 1) r
  stands_on r a = stands_next s v ls (j + 1) t.delimiter _ (following s v.width t) r S.ready.wide S.ready.delimiter (by t.line.found refl) a.line
      a.delimiter
    where
      by : (b : Bool) → t.line.found ≡ b → following s v.width t ≡ drop (j + 1) ls
      by true e = sym (rw (← drop-drop 1 j ls, remains_found e))
      by false e = (S.none e).0 ∙ sym (rw (← drop-drop 1 j ls, remains-none e))

-- ---- cutting

-- line j of a cell after cutting, within the limit
pub cut_at : (w : ℕ) (ind : List ℕ) (h j : ℕ) (ls : List (List ℕ)) → in_limit h j ≡ true
    → get_or (cut w ind h ls) j [] ≡ elim (last_of h j && ltb (j + 1) (length ls)) [ true ↦ cut_line w ind (get_or ls j []) | false ↦ get_or ls j [] ]
unfolding cut exceeds
cut_at w ind zero j ls e = refl
cut_at w ind (suc h) j ls e = go (ltb (suc h) (length ls)) refl (eqb (j + 1) (suc h)) refl
  where
    below : j < suc h
    below = ltb-true j (suc h) e

    go : (x : Bool) → ltb (suc h) (length ls) ≡ x → (y : Bool) → eqb (j + 1) (suc h) ≡ y
        → get_or {A = List ℕ} (elim x as (λ z. List (List ℕ)) [
          | true ↦ take (suc h - 1) ls ++ (cut_line w ind (get_or ls (suc h - 1) []) ∷ [])
          | false ↦ ls
        ]) j []
        ≡ elim (y && ltb (j + 1) (length ls)) as (λ z. List ℕ) [ true ↦ cut_line w ind (get_or ls j []) | false ↦ get_or ls j [] ]
    go true f true g =
        let q = eqb-true (j + 1) (suc h) g in
        let l = ltb-true (suc h) (length ls) f in
        let z : suc h - 1 ≡ j = omega arith in
        let k : ltb (j + 1) (length ls) ≡ true = lt-ltb (j + 1) (length ls) (omega arith) in
        get_or_at (take (suc h - 1) ls) (cut_line w ind (get_or ls (suc h - 1) [])) [] [] j (length-take-le (suc h - 1) ls (omega arith) ∙ z) ∙ rw (k, z)
    go true f false g =
        let q = eqb-false (j + 1) (suc h) g in
        let l = ltb-true (suc h) (length ls) f in
        let m : j < suc h - 1 = omega (arith, q, below) in
        get_or-append (take (suc h - 1) ls) (cut_line w ind (get_or ls (suc h - 1) []) ∷ []) [] j
        (omega (arith, length-take-le (suc h - 1) ls (omega arith)))
        ∙ get_or-take (suc h - 1) ls j [] m
    go false f true g =
        let q = eqb-true (j + 1) (suc h) g in
        let l = ltb-false (suc h) (length ls) f in
        let k : ltb (j + 1) (length ls) ≡ false = le-ltb (j + 1) (length ls) (omega arith) in
        rw k
    go false f false g = refl

-- a cell keeps line j if it has it and the limit leaves it
pub cut_has : (w : ℕ) (ind : List ℕ) (h j : ℕ) (ls : List (List ℕ)) → ltb j (length (cut w ind h ls)) ≡ (in_limit h j && ltb j (length ls))
unfolding cut exceeds
cut_has w ind zero j ls = refl
cut_has w ind (suc h) j ls = go (ltb (suc h) (length ls)) refl (ltb j (suc h)) refl
  where
    go : (x : Bool) → ltb (suc h) (length ls) ≡ x → (y : Bool) → ltb j (suc h) ≡ y
        → ltb j (length {A = List ℕ} (elim x as (λ z. List (List ℕ))
        [ true ↦ take (suc h - 1) ls ++ (cut_line w ind (get_or ls (suc h - 1) []) ∷ []) | false ↦ ls ])) ≡ (y && ltb j (length ls))
    go true f y g =
        let l = ltb-true (suc h) (length ls) f in
        let n : length (take (suc h - 1) ls ++ (cut_line w ind (get_or ls (suc h - 1) []) ∷ [])) ≡ suc h =
        length-append (take (suc h - 1) ls) (cut_line w ind (get_or ls (suc h - 1) []) ∷ []) ∙ omega (arith, length-take-le (suc h - 1) ls (omega arith))
        in
        rw n (more y g l)
      where
        more : (y : Bool) → ltb j (suc h) ≡ y → suc h < length ls → ltb j (suc h) ≡ (y && ltb j (length ls))
        more true e l = e ∙ sym (lt-ltb j (length ls) (omega (arith, ltb-true j (suc h) e)))
        more false e l = e
    go false f true g = refl
    go false f false g = let a = ltb-false j (suc h) g in let l = ltb-false (suc h) (length ls) f in le-ltb j (length ls) (omega arith)

-- ---- the limit, exit by exit

-- ---- one column of a row

text-shown : (s : List ℕ) (w : ℕ) (ind : List ℕ) (b : Bool) (t : Pending) (l : List ℕ) → l ≡ pending_text s t
    → shown_text s w ind b t ≡ elim b [ true ↦ cut_line w ind l | false ↦ l ]
unfolding shown_text
text-shown s w ind true t l e = rw e
text-shown s w ind false t l e = sym e

pub shown-wide : (t : Table) (ws : List ℕ) (j : ℕ) → (shown_of t ws j).width ≡ get_or ws j 0
unfolding shown_of
shown-wide t ws j = refl

area_in_lem : (t : Table) (ws : List ℕ) (j a : ℕ) (l : List ℕ) → area_in (shown_of t ws j) (of_code a) l ≡ area (column_at t j) (get_or ws j 0) a l
unfolding area_in area shown_of
area_in_lem t ws j a l = rw (before_of a (get_or ws j 0 - text_width l))

-- a pending line within the limit is shown as the document cuts it
pub shown-at : (s : List ℕ) (v : VisibleColumn) (ls : List (List ℕ)) (j : ℕ) (t : Pending) → Stands s v ls j t → (ind : List ℕ) (h : ℕ) → in_limit h j ≡ true
    → (b : Bool) → b ≡ (last_of h j && ltb 0 (length (following s v.width t))) → shown_text s v.width ind b t ≡ get_or (cut v.width ind h ls) j []
shown-at s v ls j t S ind h e b f =
    ap (λ c. shown_text s v.width ind c t) (f ∙ ap (λ c. last_of h j && c) (stands_follows s v ls j t S))
    ∙ text-shown s v.width ind (last_of h j && ltb (j + 1) (length ls)) t (get_or ls j []) (stands-line s v ls j t S)
    ∙ sym (cut_at v.width ind h j ls e)

module _ (s : List ℕ) (t : Table) (ws : List ℕ) (r : Row) (view : View) (W : Views t ws view) (j : ℕ) where
  -- a column's piece of line j is the document's area
  pub piece-area : (i : ℕ) (st : Pending) → i < length view → StandsCell s t ws r (visible_at view i) i j st → in_limit r.limit j ≡ true
      → column_piece s (visible_at view i) st t.indicator (last_of r.limit j) ≡ area_at t ws r j (number_of t i)
  unfolding column_piece area_at cell_lines
  piece-area i st h C e =
      let v = visible_at view i in
      let ls = wrapped t ws r (number_of t i) in
      let x : v ≡ shown_of t ws (number_of t i) = W.each i h in
      let w : v.width ≡ get_or ws (number_of t i) 0 = ap (λ (u : VisibleColumn). u.width) x ∙ shown-wide t ws (number_of t i) in
      let y = shown-at s v ls j st C.stands t.indicator r.limit e _ refl in
      ap (area_in v st.alignment) y
      ∙ rw (C.alignment, w)
      (ap (λ u. area_in u (of_code (alignment_of (column_at t (number_of t i)) (cell_at r (number_of t i))))
      (get_or (cut (get_or ws (number_of t i) 0) t.indicator r.limit ls) j [])) x
      ∙ area_in_lem t ws (number_of t i) (alignment_of (column_at t (number_of t i)) (cell_at r (number_of t i)))
      (get_or (cut (get_or ws (number_of t i) 0) t.indicator r.limit ls) j []))
