-- The bytes of a small sheet, and that it is accepted. Assumes nothing.
use Prim.Native.Nat.{ℕ, zero, suc, ◌+◌, ◌*◌, ◌/◌, ◌%◌, ◌≤◌, ◌<◌}
use mathlib.Core.Path.{◌≡◌, refl, ap, sym, subst, ◌∙◌}
use mathlib.Core.Logic.{◌⊎◌, inl, inr}
use mathlib.Core.List.{List, [], ◌∷◌, ◌++◌, map, append_assoc, append-nil}
use mathlib.Core.Bool.{true}
use native.Mathlib.Omega.{arith}
use lib.ListN.{length, replicate, length-append, length-replicate, length-map, replicate-append-replicate}
use Rattle.rules.specs.Text.{flat, All}
use Rattle.rules.specs.Sheet.{Row, Table, most_columns, no_column}
use Rattle.rules.specs.Field.{got, printable_or_zero}
use Rattle.rules.specs.Description.{writes}
use Rattle.rules.specs.Format.{width, column, line, cell_by, cell, row_by, row, table_by, table, sheet, written}
use Rattle.rules.specs.Limits.{IsByte, Printable, IsText}
use Rattle.laws.proofs.Lists.{all_append, all_replicate, all_imp, all-map_imp, all-flat}
use Rattle.laws.proofs.Texts.{text-all}
use Rattle.laws.proofs.Reading.{between-true, KeepsValue}
use Rattle.laws.proofs.Writing.{written_accepted}
use Rattle.small.specs.Family.{Letter, SmallText, SmallColumn, SmallCell, Small, InFamily}
use Rattle.small.specs.Listing.{cell_of, table_of}
use Rattle.small.proofs.Members.{one-or_two, small-column, small-cell}
use Rattle.small_sheets.specs.Parts.{cell_bytes, head_bytes, columns_bytes}
use Rattle.small_sheets.proofs.Tables.{MadeWith}

-- ---- byte for byte

cell_bytes_lem : (x : List ℕ) → writes cell (cell_of x) ≡ cell_bytes x
unfolding writes cell_by line flat
cell_bytes_lem x = rw (append-nil (x ++ []), append-nil x)

cells_bytes : (xs : List (List ℕ)) → map (λ y. writes cell y) (map cell_of xs) ≡ map cell_bytes xs
cells_bytes [] = refl
cells_bytes (x ∷ xs) = let e = cell_bytes_lem x in let r = cells_bytes xs in cc

columns_bytes_lem : (n : ℕ) → flat (map (λ c. writes column c) (replicate n no_column)) ≡ replicate (n * 11) 0
unfolding writes column width flat
columns_bytes_lem zero = refl
columns_bytes_lem (suc n) =
    let z : 11 + n * 11 ≡ suc n * 11 = omega arith in
    rw (columns_bytes_lem n) (replicate-append-replicate 11 (n * 11) 0 ∙ ap (λ k. replicate k 0) z)

pub columns-length : (n : ℕ) → length (columns_bytes n) ≡ 5 + 11 * n
columns-length n =
    let zeros : List ℕ = replicate (n * 11) 0 in
    length-append (n ∷ zeros) (0 ∷ 1 ∷ 0 ∷ n ∷ []) ∙ rw (length-replicate {A = ℕ} (n * 11) 0) (omega arith)

row_bytes : (n : ℕ) (r : Row) → writes (row n) r ≡ r.limit ∷ length r.cells ∷ flat (map (λ x. writes cell x) r.cells)
unfolding writes row_by
row_bytes n r = ap (λ l. r.limit ∷ length r.cells ∷ l) (append-nil (flat (map (λ x. writes cell x) r.cells)))

module _ (a w : ℕ) (xs : List (List ℕ)) where
  abbrev column_count : ℕ
  column_count = length (replicate (length xs) no_column)

  abbrev row_of : Row
  row_of = record { limit = 0; cells = map cell_of xs }

  -- the fields of the table, left to right
  table_bytes : written (table_of a w xs)
      ≡ (1 ∷ a ∷ w % 256 ∷ w / 256 ∷ 0 ∷ 0 ∷ 22 ∷ replicate 22 0)
      ++ (column_count ∷ flat (map (λ c. writes column c) (replicate (length xs) no_column)) ++ (0 ∷ 1 ∷ (writes (row column_count) row_of ++ []) ++ []))
  unfolding written table_of writes table_by flat
  table_bytes = refl

  pub sheet_bytes : w < 256 → written (table_of a w xs) ≡ head_bytes a w ++ (columns_bytes (length xs) ++ flat (map cell_bytes xs))
  sheet_bytes h =
      let low : w % 256 ≡ w = omega arith in
      let high : w / 256 ≡ 0 = omega arith in
      let n = length xs in
      let zeros : List ℕ = replicate (n * 11) 0 in
      table_bytes
      ∙ rw (
        low,
        high,
        length-replicate n no_column,
        columns_bytes_lem n,
        row_bytes n row_of,
        length-map xs cell_of,
        cells_bytes xs,
        append-nil (flat (map cell_bytes xs)),
        append-nil (flat (map cell_bytes xs)),
        append_assoc zeros (0 ∷ 1 ∷ 0 ∷ n ∷ []) (flat (map cell_bytes xs)),
      )

  pub sheet-length : w < 256 → length (written (table_of a w xs)) ≡ 34 + 11 * length xs + length (flat (map cell_bytes xs))
  sheet-length h =
      let cells = flat (map cell_bytes xs) in
      rw (sheet_bytes h, length-append (columns_bytes (length xs)) cells) (omega (arith, columns-length (length xs)))

cells-length : (xs : List (List ℕ)) → All SmallText xs → length (flat (map cell_bytes xs)) ≤ 8 * length xs
unfolding flat
cells-length [] h = omega arith
cells-length (x ∷ xs) h =
    let r = cells-length xs h.1 in
    let k = h.0.length in
    rw (length-append (cell_bytes x) (flat (map cell_bytes xs))) (omega arith)

-- ---- accepted

letter-printable : (b : ℕ) → Letter b → Printable b
letter-printable b (inl e) = (omega (arith, e), omega (arith, e))
letter-printable b (inr e) = (omega (arith, e), omega (arith, e))

letters_text : (x : List ℕ) → All Letter x → IsText x
letters_text x h = text-all x (all_imp Letter Printable letter-printable x h)

cell-keeps : (x : List ℕ) → SmallText x → KeepsValue cell (cell_of x)
unfolding KeepsValue cell_by line
cell-keeps x h =
    let short = between-true 0 200 (length x) (omega arith) (omega (arith, h.length)) in
    ((refl, tt), ((refl, tt), (((refl, tt), ((short, letters_text x h.letters), tt)), tt)))

column-keeps : KeepsValue column no_column
unfolding KeepsValue column width
column-keeps =
    ((refl, tt), ((refl, tt), ((refl, tt), ((refl, tt), ((refl, tt), (((refl, tt), (refl, tt)), (((refl, tt), (refl, tt)), tt)))))))

letter-byte : (b : ℕ) → Letter b → IsByte b
letter-byte b h = omega (arith, (letter-printable b h).1)

cell_is_bytes : (x : List ℕ) → SmallText x → All IsByte (cell_bytes x)
cell_is_bytes x h =
    (omega arith, (omega arith, (omega arith, (omega (arith, h.length), all_imp Letter IsByte letter-byte x h.letters))))

module _ (a w : ℕ) (xs : List (List ℕ)) (arranged : a ≤ 2) (targeted : w ≤ 10) (few : length xs ≤ 2) (small : All SmallText xs) where
  abbrev n : ℕ
  n = length (replicate (length xs) no_column)

  counted : n ≡ length xs
  counted = length-replicate (length xs) no_column

  cells-counted : length (map cell_of xs) ≡ length xs
  cells-counted = length-map xs cell_of

  row_keeps : KeepsValue (row n) (record { limit = 0; cells = map cell_of xs })
  unfolding KeepsValue row_by
  row_keeps =
      let k = length (map cell_of xs) in
      let each = all-map_imp SmallText (KeepsValue cell) cell_of cell-keeps xs small in
      let fits = between-true 0 n k (omega arith) (omega (arith, counted, cells-counted)) in
      let most = between-true 0 most_columns k (omega arith) (omega (arith, cells-counted, few)) in
      ((refl, tt), (((fits, (most, tt)), each), tt))

  table-keeps : KeepsValue table (table_of a w xs)
  unfolding KeepsValue table_by table_of
  table-keeps =
      let arrangement = between-true 0 2 a (omega arith) arranged in
      let target = between-true 0 400 w (omega arith) (omega (arith, targeted)) in
      let style = all_replicate (λ c. printable_or_zero c ≡ true) 0 22 refl in
      let most = between-true 0 most_columns n (omega arith) (omega (arith, counted, few)) in
      let columns = all_replicate (KeepsValue column) no_column (length xs) column-keeps in (
        (refl, tt),
        (
          (arrangement, tt),
          (
            (target, tt),
            (
              (refl, tt),
              (
                (refl, tt),
                (
                  (refl, style),
                  (
                    ((most, tt), columns),
                    (((refl, tt), tt), (((refl, tt), (row_keeps, tt)), tt)),
                  ),
                ),
              ),
            ),
          ),
        ),
      )

  head_bytes_lem : All IsByte (head_bytes a w)
  head_bytes_lem =
      (omega arith, (omega arith, (omega arith, (omega arith, (omega arith, (omega arith, (omega arith, all_replicate IsByte 0 22 (omega arith))))))))

  columns_bytes_are : All IsByte (columns_bytes (length xs))
  columns_bytes_are =
      all_append IsByte (length xs ∷ replicate (length xs * 11) 0) (0 ∷ 1 ∷ 0 ∷ length xs ∷ [])
      (omega arith, all_replicate IsByte 0 (length xs * 11) (omega arith)) (omega arith, (omega arith, (omega arith, (omega arith, tt))))

  sheet_is_bytes : All IsByte (written (table_of a w xs))
  sheet_is_bytes =
      let columns = columns_bytes (length xs) in
      let cells = flat (map cell_bytes xs) in
      let cells_are = all-flat SmallText IsByte cell_bytes cell_is_bytes xs small in
      rw (sheet_bytes a w xs (omega arith)) (all_append IsByte (head_bytes a w) (columns ++ cells) head_bytes_lem
      (all_append IsByte columns cells columns_bytes_are cells_are))

  sheet_short : length (written (table_of a w xs)) ≤ 72
  sheet_short = omega (arith, sheet-length a w xs (omega arith), cells-length xs small)

  table_accepted : sheet (written (table_of a w xs)) ≡ got (table_of a w xs) (length (written (table_of a w xs)))
  table_accepted = written_accepted (table_of a w xs) table-keeps (omega (arith, sheet_short))

  table_small : (length xs ≡ 1) ⊎ (length xs ≡ 2) → Small (table_of a w xs)
  unfolding table_of
  table_small columns = record {
    edition = refl;
    columns = rw counted columns;
    each_column = all_replicate SmallColumn no_column (length xs) small-column;
    style = all_replicate (λ b. b ≡ 0) 0 22 refl;
    delimiter = refl;
    indicator = refl;
    header = refl;
    one_row = refl;
    rows = (record { limit = refl; cells = cells-counted ∙ sym counted; each = all-map_imp SmallText SmallCell cell_of small-cell xs small }, tt);
    arrangement = arranged;
    target = targeted;
  }

  table_family : (length xs ≡ 1) ⊎ (length xs ≡ 2) → InFamily (written (table_of a w xs))
  table_family columns = record {
    table = table_of a w xs;
    bytes = sheet_is_bytes;
    accepted = record { end = length (written (table_of a w xs)); reads = table_accepted };
    small = table_small columns;
  }

-- a table in the list has a sheet of at most 72 bytes, which is accepted, and of the family
pub record Good (t : Table) : Type 0 where
  pub short : length (written t) ≤ 72
  pub accepted : sheet (written t) ≡ got t (length (written t))
  pub family : InFamily (written t)

pub made_good : (columns : ℕ) (t : Table) → (columns ≡ 1) ⊎ (columns ≡ 2) → MadeWith columns t → Good t
made_good columns t c m = subst Good m.is (go (subst (λ n. (n ≡ 1) ⊎ (n ≡ 2)) (sym m.count) c))
  where
    go : (length m.texts_held ≡ 1) ⊎ (length m.texts_held ≡ 2) → Good (table_of m.arrangement m.target m.texts_held)
    go k =
        let few = (one-or_two (length m.texts_held) k).1 in
        record {
          short = sheet_short m.arrangement m.target m.texts_held m.arrangement_most m.target_most few m.small;
          accepted = table_accepted m.arrangement m.target m.texts_held m.arrangement_most m.target_most few m.small;
          family = table_family m.arrangement m.target m.texts_held m.arrangement_most m.target_most few m.small k;
        }
