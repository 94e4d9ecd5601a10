-- Wrapping, cutting: a cell's lines. Assumes nothing.
use Rattle.std.specs.Prelude.{ℕ, zero, suc, ◌+◌, ◌-◌, List, [], ◌∷◌, ◌++◌, map, Bool, true, false, length, take, get_or, ltb, leb, eqb}
use Rattle.rules.specs.Text.{text_width, first_of, rest_of, flat, or_else}
use Rattle.rules.specs.Sheet.{Column, Cell, Table}

-- delimiter: the cell's, else column's, table's, a space
abbrev pub delimiter_of : Table → Column → Cell → ℕ
delimiter_of t c x = or_else x.delimiter (or_else c.delimiter (or_else t.delimiter 32))

-- b at the front of the first piece
unfoldable pub onto : ℕ → List (List ℕ) → List (List ℕ)
onto b [] = (b ∷ []) ∷ []
onto b (p ∷ ps) = (b ∷ p) ∷ ps

-- the pieces between delimiters, empty ones kept
unfoldable pub pieces : ℕ → List ℕ → List (List ℕ)
pieces d [] = [] ∷ []
pieces d (b ∷ bs) = elim (eqb b d) [ true ↦ [] ∷ pieces d bs | false ↦ onto b (pieces d bs) ]

-- a piece joined to the line, after a delimiter if the line isn't empty
unfoldable pub glue : ℕ → List ℕ → List ℕ → List ℕ
glue d [] p = p
glue d (x ∷ xs) p = (x ∷ xs) ++ (d ∷ p)

-- the columns free on a line, after a delimiter if the line isn't empty
unfoldable pub room : ℕ → ℕ → List ℕ → ℕ
room w d l = w - text_width (glue d l [])

-- a nonempty line with at most 2 columns free after a delimiter
unfoldable pub tight : ℕ → ℕ → List ℕ → Bool
tight w d [] = false
tight w d (x ∷ xs) = leb (room w d (x ∷ xs)) 2

-- a line longer than width less 2 (not below 0)
unfoldable pub full : ℕ → List ℕ → Bool
full w l = ltb (w - 2) (text_width l)

-- what becomes of the next piece: it joins; the line is flushed and the piece tried again; it fills the line; it begins another
pub data Act : Type 0 where
  join retry fill begin : Act

unfoldable pub act : ℕ → ℕ → List ℕ → List ℕ → Act
act w d l p =
    elim (leb (text_width (glue d l p)) w) [
      | true ↦ join
      | false ↦ elim (tight w d l) [
        | true ↦ retry
        | false ↦ elim (ltb w (text_width p)) [ true ↦ fill | false ↦ begin ]
      ]
    ]

-- a nonempty last line is kept
unfoldable pub last : List ℕ → List (List ℕ)
last [] = []
last (x ∷ xs) = (x ∷ xs) ∷ []

-- the pieces placed one by one, from the line l on; the first number bounds the steps
unfoldable pub place : ℕ → ℕ → ℕ → List ℕ → List (List ℕ) → List (List ℕ)
place zero w d l ps = []
place (suc n) w d l [] = last l
place (suc n) w d l (p ∷ ps) =
    elim (act w d l p) [
      | join ↦ elim (full w (glue d l p)) [ true ↦ glue d l p ∷ place n w d [] ps | false ↦ place n w d (glue d l p) ps ]
      | retry ↦ l ∷ place n w d [] (p ∷ ps)
      | fill ↦ glue d l (first_of (room w d l) p) ∷ place n w d [] (rest_of (room w d l) p ∷ ps)
      | begin ↦ l ∷ elim (full w p) [ true ↦ p ∷ place n w d [] ps | false ↦ place n w d p ps ]
    ]

-- steps that suffice from an empty line: one for each byte, two for each piece, and one to end
unfoldable pub weight : List (List ℕ) → ℕ
weight [] = 1
weight (p ∷ ps) = length p + 2 + weight ps

-- the lines that a line is split into, as `split_line` does, at a width of at least 1
unfoldable pub split : ℕ → ℕ → List ℕ → List (List ℕ)
split w d l = place (weight (pieces d l)) w d [] (pieces d l)

-- only lines longer than the content width are split
unfoldable pub wrap_line : ℕ → ℕ → List ℕ → List (List ℕ)
wrap_line w d l = elim (ltb w (text_width l)) [ true ↦ split w d l | false ↦ l ∷ [] ]

unfoldable pub wrap_lines : ℕ → ℕ → List (List ℕ) → List (List ℕ)
wrap_lines w d ls = flat (map (wrap_line w d) ls)

-- more lines than the height limit, 0 being none
unfoldable pub exceeds : ℕ → ℕ → Bool
exceeds zero n = false
exceeds (suc h) n = ltb (suc h) n

-- an indicator wider than the content is dropped
unfoldable pub shown_indicator : ℕ → List ℕ → List ℕ
shown_indicator w i = elim (leb (text_width i) w) [ true ↦ i | false ↦ [] ]

-- the last line is shortened until it and the indicator fit
unfoldable pub cut_line : ℕ → List ℕ → List ℕ → List ℕ
cut_line w i l = first_of (w - text_width (shown_indicator w i)) l ++ shown_indicator w i

-- a cell with more lines than the height limit keeps that many
unfoldable pub cut : ℕ → List ℕ → ℕ → List (List ℕ) → List (List ℕ)
cut w i h ls = elim (exceeds h (length ls)) [ true ↦ take (h - 1) ls ++ (cut_line w i (get_or ls (h - 1) []) ∷ []) | false ↦ ls ]
