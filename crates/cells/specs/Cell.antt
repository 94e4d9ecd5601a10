-- The wrapped lines of a cell, by a cursor over its cell lines. Assumes nothing.
use Rattle.std.specs.Prelude.{ℕ, ◌≤◌, ◌≡◌, List, [], ◌∷◌, ◌++◌, Bool, true, false, length, drop, get_or, ltb, Option, Some, None}
use Rattle.std.proofs.Math.Seq.{slice}
use Rattle.rules.specs.Text.{All, is_second, text_width}
use Rattle.rules.specs.Limits.{IsText, Plain}
use Rattle.rules.specs.Wrap.{split, wrap_lines}
use Rattle.table.specs.Walk.{lines_in, lines_end, first_line}
use Rattle.table.specs.declared.records.Lines.{Lines}
use Rattle.content_split.specs.declared.Part.{Part}
use Rattle.cells.specs.declared.CellCursor.{CellCursor}
use Rattle.cells.specs.declared.Next.{Next}

-- what a cursor has before it: the lines that the rest of its cell line is split into, and those that the cell lines after it wrap into
unfoldable pub rest : List ℕ → ℕ → ℕ → CellCursor → List (List ℕ)
rest s w d c = split w d (drop c.from (first_line s c.lines)) ++ wrap_lines w d (drop 1 (lines_in s c.lines))

-- what is known of a cell line before it is wrapped: it is a text, without a pair where it is said to be plain
pub record TextIs (b : Bool) (t : List ℕ) : Type 0 where
  pub text : IsText t
  pub plain : b ≡ true → Plain t

-- a cursor whose cell lines lie in the sheet; a character begins where it stands
pub record Inside (s : List ℕ) (c : CellCursor) : Type 0 where
  pub ends : lines_end s c.lines ≤ length s
  pub from : c.from ≤ length (first_line s c.lines)
  pub begins : is_second (get_or (first_line s c.lines) c.from 0) ≡ false
  pub texts : All (TextIs c.plain) (lines_in s c.lines)

-- a wrapped line's text: bytes a to e of the cell line that the cursor stands in
abbrev pub text_of : List ℕ → CellCursor → ℕ → ℕ → List ℕ
text_of s c a e = slice a e (first_line s c.lines)

-- the text t comes to the lines ls: the first of them is its bytes a to e, and the others are those that it is split into from n on
pub record Head (w d : ℕ) (t : List ℕ) (ls : List (List ℕ)) (a e n : ℕ) : Type 0 where
  pub order : a ≤ e
  pub onward : e ≤ n
  pub within : n ≤ length t
  pub begins : is_second (get_or t n 0) ≡ false
  pub fits : text_width (slice a e t) ≤ w
  pub wraps : ls ≡ slice a e t ∷ split w d (drop n t)

abbrev pub HeadIs : ℕ → ℕ → List ℕ → List (List ℕ) → Option Part → Type 0
HeadIs w d t ls (Some p) = Head w d t ls p.start p.end p.next
HeadIs w d t ls None = ls ≡ []

-- a part that lies in the text t
abbrev pub PartIn : List ℕ → Option Part → Type 0
PartIn t (Some p) = (p.start ≤ p.end) × (p.end ≤ length t)
PartIn t None = Unit {0}

-- no line
abbrev pub no_line : Lines → Bool → Next
no_line c plain = record { found = false; start = 0; end = 0; columns = 0; cursor = record { lines = c; from = 0; plain = plain } }

-- what was found in the first of some cell lines, the text t
abbrev pub taken : List ℕ → Lines → Bool → Option Part → Next
taken t c plain (Some p) =
    record {
      found = true;
      start = p.start;
      end = p.end;
      columns = text_width (slice p.start p.end t);
      cursor = record { lines = c; from = p.next; plain = plain };
    }
taken t c plain None = no_line c plain

-- r is the first of the lines ls, a blank one where there is none, and the cursor has the others before it, plain as is said
pub record FirstOf (s : List ℕ) (w d : ℕ) (plain : Bool) (ls : List (List ℕ)) (r : Next) : Type 0 where
  pub first : get_or ls 0 [] ≡ text_of s r.cursor r.start r.end
  pub others : drop 1 ls ≡ rest s w d r.cursor
  pub found : r.found ≡ ltb 0 (length ls)
  pub inside : Inside s r.cursor
  pub same : r.cursor.plain ≡ plain
  pub order : r.start ≤ r.end
  pub within : r.end ≤ length (first_line s r.cursor.lines)
  pub columns : r.columns ≡ text_width (text_of s r.cursor r.start r.end)
  pub fits : text_width (text_of s r.cursor r.start r.end) ≤ w

-- wherever t is the first of some lines, r is the first of those n lines further on
abbrev pub Further : List ℕ → ℕ → ℕ → ℕ → Next → Next → Type 0
Further s w d n t r = (plain : Bool) (ls : List (List ℕ)) → FirstOf s w d plain ls t → FirstOf s w d plain (drop n ls) r
