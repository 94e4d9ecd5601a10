-- The list's tables are those of the family, each once. Assumes nothing.
use Prim.Native.Nat.{ℕ, suc, ◌*◌, ◌≤◌}
use mathlib.Core.Path.{◌≡◌, refl, ap, sym, subst, ◌∙◌}
use mathlib.Core.Logic.{◌⊎◌, inl, inr}
use mathlib.Core.List.{List, [], ◌∷◌, map}
use native.Mathlib.Omega.{arith}
use lib.ListN.{length, get_or, replicate, length-replicate, length-map}
use Rattle.rules.specs.Text.{up_from, flat, All}
use Rattle.rules.specs.declared.Width.{Width}
use Rattle.rules.specs.Sheet.{Cell, Row, Table, no_width, no_row, no_column}
use Rattle.rules.specs.declared.Column.{Column}
use Rattle.rules.specs.Limits.{ColumnLimits, TableLimits}
use Rattle.laws.proofs.Lists.{all_get_d, all_imp, all-map_imp}
use Rattle.small.specs.Family.{Letter, SmallText, SmallColumn, SmallCell, SmallRow, Small}
use Rattle.small.specs.Listing.{each, choices, letters, texts, cell_of, table_of, tables_with, tables}
use Rattle.small_sheets.proofs.Choices.{In, Once, in_map, map-made, in-each, each_chosen}
use Rattle.small_sheets.proofs.Choices.{in-up_from, up_from-between, in-choices, choices_chosen}
use Rattle.small_sheets.proofs.Choices.{once-map, once-each, once-up_from, once-choices, length-each, length-choices}

-- ---- texts

in_letters : (b : ℕ) → Letter b → In b letters
in_letters b (inl e) = inl (sym e)
in_letters b (inr e) = inr (inl (sym e))

letters_in : (b : ℕ) → In b letters → Letter b
letters_in b (inl e) = inl (sym e)
letters_in b (inr (inl e)) = inr (sym e)
letters_in b (inr (inr h)) = absurd h

once-letters : Once letters
once-letters = (other, ((λ h. h), tt))
  where
    other : In {A = ℕ} 32 (97 ∷ []) → ⊥
    other (inl e) = absurd (omega (arith, e))
    other (inr h) = h

in-texts : (x : List ℕ) → SmallText x → In x texts
unfolding texts
in-texts x h =
    in-each (λ n. choices letters n) (up_from 0 5) (length x) x (in-up_from 0 5 (length x) (omega arith) (omega (arith, h.length)))
    (in-choices letters x (all_imp Letter (λ b. In b letters) in_letters x h.letters))

texts_small : (x : List ℕ) → In x texts → SmallText x
unfolding texts
texts_small x h =
    let c = each_chosen (λ n. choices letters n) (up_from 0 5) x h in
    let short = up_from-between 0 5 c.of c.there in
    let chosen = choices_chosen letters c.of x c.is in
    record {
      length = omega (arith, short.1, chosen.count);
      letters = all_imp (λ b. In b letters) Letter letters_in x chosen.from;
    }

once-texts : Once texts
unfolding texts
once-texts = once-each (λ n. choices letters n) (once-choices letters once-letters) same (up_from 0 5) (once-up_from 0 5)
  where
    same : (m n : ℕ) (x : List ℕ) → In x (choices letters m) → In x (choices letters n) → m ≡ n
    same m n x h k = sym (choices_chosen letters m x h).count ∙ (choices_chosen letters n x k).count

pub texts-count : length texts ≡ 31
unfolding texts each choices up_from flat
texts-count = refl

-- ---- tables

-- the tables of one arrangement, and those of one target too
abbrev pub of_target : ℕ → ℕ → ℕ → List Table
of_target columns a w = map (λ xs. table_of a w xs) (choices texts columns)

abbrev pub of_arrangement : ℕ → ℕ → List Table
of_arrangement columns a = each (up_from 0 11) (λ w. of_target columns a w)

-- the text of a table's cells
abbrev text_of : Cell → List ℕ
text_of x = get_or x.lines 0 []

abbrev texts_of : Table → List (List ℕ)
texts_of t = map text_of (get_or t.rows 0 no_row).cells

cells-texts : (xs : List (List ℕ)) → map text_of (map cell_of xs) ≡ xs
cells-texts [] = refl
cells-texts (x ∷ xs) = ap (λ l. x ∷ l) (cells-texts xs)

texts-same : (a w : ℕ) (xs ys : List (List ℕ)) → table_of a w xs ≡ table_of a w ys → xs ≡ ys
unfolding table_of
texts-same a w xs ys e = sym (cells-texts xs) ∙ (ap texts_of e ∙ cells-texts ys)

target_of : (columns a w : ℕ) (t : Table) → In t (of_target columns a w) → w ≡ t.target
unfolding table_of
target_of columns a w t h = ap (λ (u : Table). u.target) (map-made (λ xs. table_of a w xs) (choices texts columns) t h).is

arrangement_of : (columns a : ℕ) (t : Table) → In t (of_arrangement columns a) → a ≡ t.arrangement
unfolding table_of
arrangement_of columns a t h =
    let c = each_chosen (λ w. of_target columns a w) (up_from 0 11) t h in
    ap (λ (u : Table). u.arrangement) (map-made (λ xs. table_of a c.of xs) (choices texts columns) t c.is).is

-- what a listed table was made of
pub record MadeWith (columns : ℕ) (t : Table) : Type 0 where
  pub arrangement : ℕ
  pub target : ℕ
  pub texts_held : List (List ℕ)
  pub arrangement_most : arrangement ≤ 2
  pub target_most : target ≤ 10
  pub count : length texts_held ≡ columns
  pub small : All SmallText texts_held
  pub is : table_of arrangement target texts_held ≡ t

pub with-made : (columns : ℕ) (t : Table) → In t (tables_with columns) → MadeWith columns t
unfolding tables_with
with-made columns t h =
    let a = each_chosen (λ a. of_arrangement columns a) (up_from 0 3) t h in
    let w = each_chosen (λ w. of_target columns a.of w) (up_from 0 11) t a.is in
    let x = map-made (λ xs. table_of a.of w.of xs) (choices texts columns) t w.is in
    let chosen = choices_chosen texts columns x.of x.there in
    record {
      arrangement = a.of;
      target = w.of;
      texts_held = x.of;
      arrangement_most = omega (arith, (up_from-between 0 3 a.of a.there).1);
      target_most = omega (arith, (up_from-between 0 11 w.of w.there).1);
      count = chosen.count;
      small = all_imp (λ y. In y texts) SmallText texts_small x.of chosen.from;
      is = x.is;
    }

pub made_with : (columns : ℕ) (t : Table) → MadeWith columns t → In t (tables_with columns)
unfolding tables_with
made_with columns t m =
    let a = m.arrangement in
    let w = m.target in
    let xs = m.texts_held in
    let chosen = in-choices texts xs (all_imp SmallText (λ y. In y texts) in-texts xs m.small) in
    let rows : In xs (choices texts columns) = subst (λ n. In xs (choices texts n)) m.count chosen in
    let there = in_map (λ ys. table_of a w ys) xs (choices texts columns) rows in
    subst (λ u. In u (each (up_from 0 3) (λ b. of_arrangement columns b))) m.is
    (in-each (λ b. of_arrangement columns b) (up_from 0 3) a (table_of a w xs) (in-up_from 0 3 a (omega arith) (omega (arith, m.arrangement_most)))
    (in-each (λ v. of_target columns a v) (up_from 0 11) w (table_of a w xs) (in-up_from 0 11 w (omega arith) (omega (arith, m.target_most))) there))

pub columns_of : (columns : ℕ) (t : Table) → In t (tables_with columns) → columns ≡ length t.columns
unfolding table_of
columns_of columns t h =
    let m = with-made columns t h in
    sym m.count ∙ (sym (length-replicate (length m.texts_held) no_column) ∙ ap (λ (u : Table). length u.columns) m.is)

once_with : (columns : ℕ) → Once (tables_with columns)
unfolding tables_with
once_with columns =
    once-each (λ a. of_arrangement columns a) arrangement (λ a b t h k. arrangement_of columns a t h ∙ sym (arrangement_of columns b t k))
    (up_from 0 3) (once-up_from 0 3)
  where
    target : (a w : ℕ) → Once (of_target columns a w)
    target a w = once-map (λ xs. table_of a w xs) (texts-same a w) (choices texts columns) (once-choices texts once-texts columns)

    arrangement : (a : ℕ) → Once (of_arrangement columns a)
    arrangement a =
        once-each (λ w. of_target columns a w) (target a) (λ v w t h k. target_of columns a v t h ∙ sym (target_of columns a w t k))
        (up_from 0 11) (once-up_from 0 11)

pub once-tables : Once tables
unfolding tables
once-tables =
    once-each tables_with once_with (λ m n t h k. columns_of m t h ∙ sym (columns_of n t k)) (1 ∷ 2 ∷ []) (other, ((λ h. h), tt))
  where
    other : In {A = ℕ} 1 (2 ∷ []) → ⊥
    other (inl e) = absurd (omega (arith, e))
    other (inr h) = h

-- what a table in the list was made of, with one column or two
pub tables-made : (t : Table) → In t tables → MadeWith 1 t ⊎ MadeWith 2 t
unfolding tables
tables-made t h = let c = each_chosen tables_with (1 ∷ 2 ∷ []) t h in go c.of c.there (with-made c.of t c.is)
  where
    go : (n : ℕ) → In n (1 ∷ 2 ∷ []) → MadeWith n t → MadeWith 1 t ⊎ MadeWith 2 t
    go n (inl e) m = inl (subst (λ k. MadeWith k t) (sym e) m)
    go n (inr (inl e)) m = inr (subst (λ k. MadeWith k t) (sym e) m)
    go n (inr (inr i)) m = absurd i

pub made-tables : (t : Table) → MadeWith 1 t ⊎ MadeWith 2 t → In t tables
unfolding tables
made-tables t (inl m) = in-each tables_with (1 ∷ 2 ∷ []) 1 t (inl refl) (made_with 1 t m)
made-tables t (inr m) = in-each tables_with (1 ∷ 2 ∷ []) 2 t (inr (inl refl)) (made_with 2 t m)

-- ---- how many

rows-count : (n : ℕ) → length (choices texts (suc n)) ≡ 31 * length (choices texts n)
rows-count n = length-choices texts n ∙ rw texts-count

pub target-count : (columns a w : ℕ) → length (of_target columns a w) ≡ length (choices texts columns)
target-count columns a w = length-map (choices texts columns) (λ xs. table_of a w xs)

pub arrangement-count : (columns a : ℕ) → length (of_arrangement columns a) ≡ 11 * length (choices texts columns)
unfolding up_from
arrangement-count columns a = length-each (λ w. of_target columns a w) (length (choices texts columns)) (target-count columns a) (up_from 0 11)

pub with-count : (columns : ℕ) → length (tables_with columns) ≡ 3 * (11 * length (choices texts columns))
unfolding tables_with up_from
with-count columns = length-each (λ a. of_arrangement columns a) (11 * length (choices texts columns)) (arrangement-count columns) (up_from 0 3)

pub one-row-count : length (choices texts 1) ≡ 31
unfolding choices
one-row-count = rows-count 0

pub two_rows-count : length (choices texts 2) ≡ 961
two_rows-count = rows-count 1 ∙ rw one-row-count

-- ---- a table of the family is one of these

one_entry : {A : Type 0} (d : A) (l : List A) → length l ≡ 1 → l ≡ get_or l 0 d ∷ []
one_entry d [] e = absurd (omega (arith, e))
one_entry d (x ∷ []) e = refl
one_entry d (x ∷ y ∷ l) e = absurd (omega (arith, e))

all-zero : (l : List ℕ) → All (λ b. b ≡ 0) l → replicate (length l) 0 ≡ l
all-zero [] h = refl
all-zero (b ∷ l) h = let e = h.0 in let r = all-zero l h.1 in cc

-- equal fields, equal records
width_same : {u v x y : ℕ} → u ≡ x → v ≡ y → ◌≡◌ {A = Width} (record { unit = u; value = v }) (record { unit = x; value = y })
width_same e f = cc

column-same : {l r d a k l' r' d' a' k' : ℕ} {v w v' w' : Width}
    → l ≡ l' → r ≡ r' → d ≡ d' → a ≡ a' → k ≡ k' → v ≡ v' → w ≡ w'
    → ◌≡◌ {A = Column} (record { left = l; right = r; delimiter = d; alignment = a; constraint = k; first = v; second = w })
    (record { left = l'; right = r'; delimiter = d'; alignment = a'; constraint = k'; first = v'; second = w' })
column-same e f g h i j k = cc

cell_same : {d a c b : ℕ} {l m : List (List ℕ)} → d ≡ c → a ≡ b → l ≡ m
    → ◌≡◌ {A = Cell} (record { delimiter = d; alignment = a; lines = l }) (record { delimiter = c; alignment = b; lines = m })
cell_same e f g = cc

row_same : {h k : ℕ} {l m : List Cell} → h ≡ k → l ≡ m → ◌≡◌ {A = Row} (record { limit = h; cells = l }) (record { limit = k; cells = m })
row_same e f = cc

table_same : {e a w d e' a' w' d' : ℕ} {i s i' s' : List ℕ} {c c' : List Column} {h r h' r' : List Row}
    → e ≡ e' → a ≡ a' → w ≡ w' → d ≡ d' → i ≡ i' → s ≡ s' → c ≡ c' → h ≡ h' → r ≡ r'
    → ◌≡◌ {A = Table}
    (record { edition = e; arrangement = a; target = w; delimiter = d; indicator = i; style = s; columns = c; header = h; rows = r })
    (record { edition = e'; arrangement = a'; target = w'; delimiter = d'; indicator = i'; style = s'; columns = c'; header = h'; rows = r' })
table_same e f g h i j k l m = cc

no-width : (w : Width) → w.unit ≡ 0 → w.value ≡ 0 → no_width ≡ w
no-width w u v = width_same (sym u) (sym v)

column_is : (c : Column) → SmallColumn c → ColumnLimits c → no_column ≡ c
column_is c h k =
    let constraint = h.constraint in
    let first = k.first.unused (rw constraint refl) in
    let second = k.second.unused (rw constraint refl) in
    let v = no-width c.first first.0 first.1 in
    let w = no-width c.second second.0 second.1 in
    column-same (sym h.left) (sym h.right) (sym h.delimiter) (sym h.alignment) (sym constraint) v w

columns_are : (cs : List Column) → All SmallColumn cs → All ColumnLimits cs → replicate (length cs) no_column ≡ cs
columns_are [] h k = refl
columns_are (c ∷ cs) h k = let e = column_is c h.0 k.0 in let r = columns_are cs h.1 k.1 in cc

cell_is : (x : Cell) → SmallCell x → cell_of (text_of x) ≡ x
cell_is x h =
    cell_same (sym h.delimiter) (sym h.alignment) (sym (one_entry [] x.lines h.one_line))

cells_are : (xs : List Cell) → All SmallCell xs → map cell_of (map text_of xs) ≡ xs
cells_are [] h = refl
cells_are (x ∷ xs) h = let e = cell_is x h.0 in let r = cells_are xs h.1 in cc

cell_small : (x : Cell) → SmallCell x → SmallText (text_of x)
cell_small x h = all_get_d SmallText x.lines 0 [] (omega (arith, h.one_line)) h.texts

texts_small_of : (xs : List Cell) → All SmallCell xs → All SmallText (map text_of xs)
texts_small_of xs h = all-map_imp SmallCell SmallText text_of cell_small xs h

-- the row of a small table
row_is : (n : ℕ) (r : Row) → SmallRow n r → record { limit = 0; cells = map cell_of (map text_of r.cells) } ≡ r
row_is n r h = row_same (sym h.limit) (cells_are r.cells h.each)

pub small-made : (t : Table) → Small t → TableLimits t → MadeWith (length t.columns) t
unfolding table_of
small-made t h limits =
    let r = get_or t.rows 0 no_row in
    let row = all_get_d (SmallRow (length t.columns)) t.rows 0 no_row (omega (arith, h.one_row)) h.rows in
    let n : length (texts_of t) ≡ length t.columns = length-map r.cells text_of ∙ row.cells in
    record {
      arrangement = t.arrangement;
      target = t.target;
      texts_held = texts_of t;
      arrangement_most = h.arrangement;
      target_most = h.target;
      count = n;
      small = texts_small_of r.cells row.each;
      is = same n row;
    }
  where
    same : length (texts_of t) ≡ length t.columns → SmallRow (length t.columns) (get_or t.rows 0 no_row)
        → table_of t.arrangement t.target (texts_of t) ≡ t
    same n row =
        let style : replicate 22 0 ≡ t.style = subst (λ k. replicate k 0 ≡ t.style) limits.style (all-zero t.style h.style) in
        let columns : replicate (length (texts_of t)) no_column ≡ t.columns =
        rw n (columns_are t.columns h.each_column limits.each_column) in
        let r = row_is (length t.columns) (get_or t.rows 0 no_row) row in
        table_same (sym h.edition) refl refl (sym h.delimiter) (sym h.indicator) style columns (sym h.header)
        (ap (λ x. x ∷ []) r ∙ sym (one_entry no_row t.rows h.one_row))
