-- Demand 3's premises can be met, and those named below are needed: pairs of sheets, as bytes, all computed. Assumes nothing.
use Prim.Native.Nat.{ℕ, zero, suc, ◌+◌, ◌<◌}
use mathlib.Core.Path.{◌≡◌, refl}
use mathlib.Core.Logic.{◌≢◌}
use mathlib.Core.List.{List, [], ◌∷◌, ◌++◌, map}
use mathlib.Core.Bool.{Bool, true, false, not}
use native.Mathlib.Omega.{arith}
use lib.ListN.{length, replicate}
use lib.Dec.{eqb}
use Rattle.rules.specs.Opened.{rules}
use Rattle.rules.specs.Quote.{ascii}
use Rattle.rules.specs.Sheet.{Row, Table, no_width, all_rows}
use Rattle.rules.specs.Field.{got}
use Rattle.rules.specs.Format.{sheet, written}
use Rattle.rules.specs.Style.{top_border, header_lines, header_rule, content_lines, row_rule, glyph_at, glyph, is_visible}
use Rattle.rules.specs.Widths.{visible, contents}
use Rattle.rules.specs.Page.{height, page}
use Rattle.rules.specs.Words.{lines_of, characters, letters}
use Rattle.rules.specs.Demand3.{Comparable, Agree}
use Rattle.rules.specs.Examples.{grid}
use Rattle.laws.proofs.Wrote.{grid_readable}

-- columns of absolute widths without padding; rows of one cell: its limit, delimiter (0 is none) and lines
abbrev made : List ℕ → List ℕ → List Row → List Row → Table
made S ws hs rs = record {
  edition = 1;
  arrangement = 0;
  target = 0;
  delimiter = 0;
  indicator = [];
  style = S;
  columns = map (λ w. record {
    left = 0;
    right = 0;
    delimiter = 0;
    alignment = 0;
    constraint = 3;
    first = record { unit = 0; value = w };
    second =
        no_width;
  }) ws;
  header = hs;
  rows = rs;
}

abbrev one : ℕ → ℕ → List (List ℕ) → Row
one limit d ls = record { limit = limit; cells = record { delimiter = d; alignment = 0; lines = ls } ∷ [] }

-- a readable style's conditions, in the order of `Readable`
abbrev pub conditions : List ℕ → List Bool
conditions S =
    not (eqb (glyph_at S top_border) 0)
    ∷ not (eqb (glyph_at S (top_border + 1)) 0)
    ∷ not (eqb (glyph_at S (top_border + 2)) 0)
    ∷ not (eqb (glyph_at S (top_border + 3)) 0)
    ∷ not (eqb (glyph (glyph_at S (top_border + 2))) (glyph (glyph_at S (top_border + 1))))
    ∷ is_visible S header_rule
    ∷ is_visible S row_rule
    ∷ not (eqb (glyph (glyph_at S (header_rule + 1))) (glyph (glyph_at S (row_rule + 1))))
    ∷ not (eqb (glyph (glyph_at S header_lines)) (glyph (glyph_at S header_rule)))
    ∷ not (eqb (glyph (glyph_at S header_lines)) (glyph (glyph_at S row_rule)))
    ∷ not (eqb (glyph (glyph_at S content_lines)) (glyph (glyph_at S header_rule)))
    ∷ not (eqb (glyph (glyph_at S content_lines)) (glyph (glyph_at S row_rule)))
    ∷ []

-- two accepted sheets with one style that meets the conditions cs, a visible column each, rows of hs and ks lines, and one page
pub record Pair (t u : Table) (cs : List Bool) (hs ks : List ℕ) : Type 0 where
  pub first_read : sheet (written t) ≡ got t (length (written t))
  pub second_read : sheet (written u) ≡ got u (length (written u))
  pub one_style : t.style ≡ u.style
  pub style : conditions t.style ≡ cs
  pub first_column : 0 < length (visible t)
  pub second_column : 0 < length (visible u)
  pub first_lines : map (height t (contents t)) (all_rows t) ≡ hs
  pub second_lines : map (height u (contents u)) (all_rows u) ≡ ks
  pub one_page : page t ≡ page u

-- one cell at a width of 2, in the house grid: with two spaces; with a delimiter of its own; with another letter
abbrev pub spaced : Table
spaced = made grid (2 ∷ []) [] (one 0 0 (ascii "ab  cd" ∷ []) ∷ [])

abbrev pub dashed : Table
dashed = made grid (2 ∷ []) [] (one 0 45 (ascii "ab-cd" ∷ []) ∷ [])

abbrev pub other : Table
other = made grid (2 ∷ []) [] (one 0 0 (ascii "ab ce" ∷ []) ∷ [])

-- the premises can be met, by sheets whose pages are equal although their cells differ in spaces and delimiters, and by sheets whose pages differ
pub record Met : Type 0 where
  pub equal : Comparable (written spaced) (written dashed) spaced dashed
  pub spaced_page : page spaced ≡ ascii "+--+\n|ab|\n|cd|\n+--+\n"
  pub dashed_page : page dashed ≡ ascii "+--+\n|ab|\n|cd|\n+--+\n"
  pub spaced_text : characters spaced 0 0 ≡ ascii "ab  cd"
  pub dashed_text : characters dashed 0 0 ≡ ascii "ab-cd"
  pub same_letters : letters spaced dashed 0 0 (ascii "ab  cd") ≡ ascii "abcd"
  pub unequal : Comparable (written spaced) (written other) spaced other
  pub other_page : page other ≡ ascii "+--+\n|ab|\n|ce|\n+--+\n"

one_row : (t : Table) (n : ℕ) → length (all_rows t) ≡ 1 → lines_of t 0 ≡ suc n → (i : ℕ) → i < length (all_rows t) → 0 < lines_of t i
one_row t n e h zero l = omega arith
one_row t n e h (suc i) l = absurd (omega arith)

pub met : Met
unfolding rules
met = record {
  equal = record {
    first_accepted = record { end = length (written spaced); reads = refl };
    second_accepted = record { end = length (written dashed); reads = refl };
    one_style = refl;
    readable = grid_readable;
    first_column = omega arith;
    second_column = omega arith;
    first_lines = one_row spaced 1 refl refl;
    second_lines = one_row dashed 1 refl refl;
  };
  spaced_page = refl;
  dashed_page = refl;
  spaced_text = refl;
  dashed_text = refl;
  same_letters = refl;
  unequal = record {
    first_accepted = record { end = length (written spaced); reads = refl };
    second_accepted = record { end = length (written other); reads = refl };
    one_style = refl;
    readable = grid_readable;
    first_column = omega arith;
    second_column = omega arith;
    first_lines = one_row spaced 1 refl refl;
    second_lines = one_row other 1 refl refl;
  };
  other_page = refl;
}

-- a top border whose junction is its fill doesn't tell widths 3 and 5 from 5 and 3
abbrev top_alike : List ℕ → Table
top_alike ws = made (ascii "+--+|||+=++|||+-++" ++ replicate 4 0) ws [] []

-- two rules with one fill don't tell a header and a row from two rows
abbrev rules_alike : List Row → List Row → Table
rules_alike hs rs = made (ascii "+-++|||+-++|||+-+++-++") (1 ∷ []) hs rs

-- content lines that begin like the row rule can look like one: two rows, or one of three lines
abbrev content_alike : List Row → Table
content_alike rs = made (ascii "+-++|||====++++-+++-++") (3 ∷ []) [] rs

-- so can header and content lines that begin like the header rule: a header of three lines, or one of one line and a row
abbrev header_alike : List Row → List Row → Table
header_alike hs rs = made (ascii "+-++==========+-+++-++") (3 ∷ []) hs rs

-- a row without a line, here of spaces that are wrapped, can't be told from no row
abbrev without_line : List Row → Table
without_line rs = made grid (3 ∷ []) [] rs

-- cut cells can hold different text on one page
abbrev cut_to : ℕ → List ℕ → Table
cut_to limit l = made grid (2 ∷ []) [] (one limit 0 (l ∷ []) ∷ [])

abbrev a : Row
a = one 0 0 (ascii "a" ∷ [])

abbrev b : Row
b = one 0 0 (ascii "b" ∷ [])

-- in each pair the premise named fails and the others hold; the pages are equal, and the conclusion fails
pub record Needed : Type 0 where
  pub top_junction : Pair (top_alike (3 ∷ 5 ∷ [])) (top_alike (5 ∷ 3 ∷ [])) (replicate 4 true ++ (false ∷ replicate 7 true)) [] []
  pub top_junction_breaks : ¬ Agree (top_alike (3 ∷ 5 ∷ [])) (top_alike (5 ∷ 3 ∷ []))
  pub rule_fills : Pair (rules_alike (a ∷ []) (b ∷ [])) (rules_alike [] (a ∷ b ∷ [])) (replicate 7 true ++ (false ∷ replicate 4 true)) (1 ∷ 1 ∷ [])
      (1 ∷ 1 ∷ [])
  pub rule_fills_break : ¬ Agree (rules_alike (a ∷ []) (b ∷ [])) (rules_alike [] (a ∷ b ∷ []))
  pub content_left : Pair (content_alike (a ∷ b ∷ [])) (content_alike (one 0 0 (ascii "a" ∷ ascii "---" ∷ ascii "b" ∷ []) ∷ []))
      (replicate 11 true ++ (false ∷ [])) (1 ∷ 1 ∷ []) (3 ∷ [])
  pub content_left_breaks : ¬ Agree (content_alike (a ∷ b ∷ [])) (content_alike (one 0 0 (ascii "a" ∷ ascii "---" ∷ ascii "b" ∷ []) ∷ []))
  pub header_left : Pair (header_alike (one 0 0 (ascii "a" ∷ ascii "===" ∷ ascii "b" ∷ []) ∷ []) []) (header_alike (a ∷ []) (one 0 0 (ascii "b" ∷ ascii "===" ∷ []) ∷ []))
      (replicate 8 true ++ (false ∷ true ∷ false ∷ true ∷ [])) (3 ∷ []) (1 ∷ 2 ∷ [])
  pub header_left_breaks : ¬ Agree (header_alike (one 0 0 (ascii "a" ∷ ascii "===" ∷ ascii "b" ∷ []) ∷ []) []) (header_alike (a ∷ []) (one 0 0 (ascii "b" ∷ ascii "===" ∷ []) ∷ []))
  pub no_line : Pair (without_line []) (without_line (one 0 0 (ascii "     " ∷ []) ∷ [])) (replicate 12 true) [] (0 ∷ [])
  pub no_line_breaks : ¬ Agree (without_line []) (without_line (one 0 0 (ascii "     " ∷ []) ∷ []))
  pub cut_cells : Pair (cut_to 1 (ascii "ab cd")) (cut_to 1 (ascii "ab ce")) (replicate 12 true) (1 ∷ []) (1 ∷ [])
  pub cut_cells_break : letters (cut_to 1 (ascii "ab cd")) (cut_to 1 (ascii "ab ce")) 0 0 (ascii "ab cd")
      ≢ letters (cut_to 1 (ascii "ab cd")) (cut_to 1 (ascii "ab ce")) 0 0 (ascii "ab ce")

pub needed : Needed
unfolding rules
needed = record {
  top_junction = record {
    first_read = refl;
    second_read = refl;
    one_style = refl;
    style = refl;
    first_column = omega arith;
    second_column = omega
        arith;
    first_lines = refl;
    second_lines = refl;
    one_page = refl;
  };
  top_junction_breaks = λ x. let e : ◌≡◌ {A = List ℕ} (3 ∷ 5 ∷ []) (5 ∷ 3 ∷ []) = x.widths in let z : ◌≡◌ {A = ℕ} 3 5 = cc in omega arith;
  rule_fills = record {
    first_read = refl;
    second_read = refl;
    one_style = refl;
    style = refl;
    first_column = omega arith;
    second_column = omega
        arith;
    first_lines = refl;
    second_lines = refl;
    one_page = refl;
  };
  rule_fills_break = λ x. let e : ◌≡◌ {A = ℕ} 1 0 = x.header in omega arith;
  content_left = record {
    first_read = refl;
    second_read = refl;
    one_style = refl;
    style = refl;
    first_column = omega arith;
    second_column = omega
        arith;
    first_lines = refl;
    second_lines = refl;
    one_page = refl;
  };
  content_left_breaks = λ x. let e : ◌≡◌ {A = ℕ} 2 1 = x.rows in omega arith;
  header_left = record {
    first_read = refl;
    second_read = refl;
    one_style = refl;
    style = refl;
    first_column = omega arith;
    second_column = omega
        arith;
    first_lines = refl;
    second_lines = refl;
    one_page = refl;
  };
  header_left_breaks = λ x. let e : ◌≡◌ {A = ℕ} 1 2 = x.rows in omega arith;
  no_line = record {
    first_read = refl;
    second_read = refl;
    one_style = refl;
    style = refl;
    first_column = omega arith;
    second_column = omega arith;
    first_lines = refl;
    second_lines = refl;
    one_page = refl;
  };
  no_line_breaks = λ x. let e : ◌≡◌ {A = ℕ} 0 1 = x.rows in omega arith;
  cut_cells = record {
    first_read = refl;
    second_read = refl;
    one_style = refl;
    style = refl;
    first_column = omega arith;
    second_column = omega arith;
    first_lines = refl;
    second_lines = refl;
    one_page = refl;
  };
  cut_cells_break = λ e. let z : ◌≡◌ {A = List ℕ} (ascii "abcd") (ascii "abce") = e in let y : ◌≡◌ {A = ℕ} 100 101 = cc in omega arith;
}
