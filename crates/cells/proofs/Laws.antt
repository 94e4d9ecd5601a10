-- A cell's first line, case by case. Assumes nothing.
use Prim.Native.Nat.{ℕ, suc, ◌+◌, ◌-◌, ◌≤◌, ◌<◌}
use mathlib.Core.Path.{◌≡◌, refl, sym, ap, subst, ◌∙◌}
use mathlib.Core.List.{List, [], ◌∷◌, ◌++◌}
use mathlib.Core.Bool.{Bool, true, false, false≢true}
use native.Mathlib.Omega.{arith}
use lib.ListN.{length, drop, get_or, get_or-eq_default}
use lib.Seq.{slice, take_all, drop-nil, drop-drop}
use lib.Dec.{ltb, leb}
use borrow.Author.Tests.{lt-ltb, le-leb, leb-true, leb-false}
use Rattle.rules.specs.Text.{All, is_second, text_width, flat}
use Rattle.rules.specs.Wrap.{split, wrap_line, wrap_lines}
use Rattle.laws.proofs.Lists.{all_drop}
use Rattle.laws.proofs.Text.{width-nil, width-le}
use Rattle.laws.proofs.Split.{wrap_short, wrap_long}
use Rattle.rules.specs.Places.{parts}
use Rattle.table.specs.Walk.{lines_in, lines_end, first_line, LinesNext}
use Rattle.table.specs.declared.records.Lines.{Lines}
use Rattle.table.proofs.Walks.{lines_number}
use Rattle.content_split.specs.Parts.{PartIs}
use Rattle.content_split.specs.declared.Part.{Part}
use Rattle.std.specs.Prelude.{Option, Some, None}
use Rattle.content_split.proofs.Steps.{none-at_end}
use Rattle.cells.specs.Cell.{rest, TextIs, Inside, Head, HeadIs, no_line, taken, FirstOf, Further}
use Rattle.cells.specs.declared.CellCursor.{CellCursor}
use Rattle.cells.specs.declared.Next.{Next}

-- ---- whether a text fits

pub fits_short : (w : ℕ) (t : List ℕ) → length t ≤ w → true ≡ leb (text_width t) w
fits_short w t h = sym (le-leb (text_width t) w (omega (arith, width-le t)))

-- ---- the first line of a text

module _ (w d : ℕ) (pos : 0 < w) (t : List ℕ) where
  -- what `split_line` found
  pub split-head : (a : ℕ) (p : Option Part) → PartIs w d t a p → HeadIs w d t (split w d (drop a t)) p
  split-head a (Some p) l =
      let o = l.onward in
      let i = l.within in
      let m = l.some in
      record {
        order = omega arith;
        onward = o;
        within = i;
        begins = l.whole;
        fits = l.fits;
        wraps = l.wraps;
      }
  split-head a None e = e

  -- a text no wider than the content is one line
  pub whole-head : leb (text_width t) w ≡ true → HeadIs w d t (wrap_line w d t) (Some (record { start = 0; end = length t; next = length t }))
  whole-head f =
      let k = leb-true (text_width t) w f in
      let whole : slice 0 (length t) t ≡ t = take_all (length t) t (omega arith) in
      record {
        order = omega arith;
        onward = omega arith;
        within = omega arith;
        begins = ap is_second (get_or-eq_default t 0 (omega arith));
        fits = rw whole k;
        wraps = wrap_short w d t k ∙ rw (whole, none-at_end w d pos t (length t) (omega arith));
      }

  -- a wider one is split
  pub long-head : leb (text_width t) w ≡ false → (p : Option Part) → PartIs w d t 0 p → HeadIs w d t (wrap_line w d t) p
  long-head f p q = rw (wrap_long w d t (leb-false (text_width t) w f)) (split-head 0 p q)

-- ---- some cell lines

pub wrap_more : (w d : ℕ) (t : List ℕ) (ts : List (List ℕ)) → wrap_lines w d (t ∷ ts) ≡ wrap_line w d t ++ wrap_lines w d ts
unfolding wrap_lines flat
wrap_more w d t ts = refl

pub wrap-none : (w d : ℕ) → wrap_lines w d [] ≡ []
unfolding wrap_lines flat
wrap-none w d = refl

-- a list that has something has a first, and others
pub first_others : {A : Type 0} (d : A) (l : List A) → 0 < length l → l ≡ get_or l 0 d ∷ drop 1 l
first_others d [] h = absurd (omega arith)
first_others d (x ∷ l) h = refl

pub lines_none : (s : List ℕ) (c : Lines) → c.left ≤ 0 → lines_in s c ≡ []
unfolding lines_in parts
lines_none s c h = let e : c.left ≡ 0 = omega arith in rw e

pub lines-some : (s : List ℕ) (c : Lines) → 0 < c.left → lines_in s c ≡ first_line s c ∷ drop 1 (lines_in s c)
lines-some s c h = first_others [] (lines_in s c) (omega (arith, lines_number s c))

-- the first of them, and those after it
pub lines_on : (s : List ℕ) (c : Lines) → 0 < c.left → (t : List ℕ) → t ≡ first_line s c → (k : Lines) → LinesNext s c k → lines_in s c ≡ t ∷ lines_in s k
lines_on s c h t e k n = lines-some s c h ∙ rw (e, n.lines)

-- the first of them is known as they all are
pub first_known : (plain : Bool) (s : List ℕ) (c : Lines) → 0 < c.left → All (TextIs plain) (lines_in s c) → TextIs plain (first_line s c)
first_known plain s c h a = (subst (All (TextIs plain)) (lines-some s c h) a).0

-- and so are those after it
pub texts_next : (plain : Bool) (s : List ℕ) (c k : Lines) → LinesNext s c k → All (TextIs plain) (lines_in s c) → All (TextIs plain) (lines_in s k)
texts_next plain s c k n a = rw n.lines (all_drop (TextIs plain) 1 (lines_in s c) a)

some_line : (n : ℕ) → ltb 0 (suc n) ≡ true
some_line n = lt-ltb 0 (suc n) (omega arith)

module _ (s : List ℕ) (w d : ℕ) where
  -- no cell line is left
  pub rest-none : (c : CellCursor) → 0 < w → c.lines.left ≤ 0 → rest s w d c ≡ []
  unfolding rest
  rest-none c pos h = rw (lines_none s c.lines h, wrap-none w d, drop-nil, none-at_end w d pos [] 0 (omega arith))

module _ (s : List ℕ) (w d : ℕ) (plain : Bool) where
  -- the cell lines' first line is found in the first of them, where that comes to the lines ls
  found_first : (c : Lines) → lines_end s c ≤ length s → All (TextIs plain) (lines_in s c) → (ls : List (List ℕ)) (a e n : ℕ)
      → Head w d (first_line s c) ls a e n → FirstOf s w d plain (ls ++ wrap_lines w d (drop 1 (lines_in s c))) (taken (first_line s c) c plain (Some (record { start = a; end = e; next = n })))
  unfolding rest
  found_first c h k ls a e n l =
      let o = l.onward in
      let i = l.within in
      record {
        first = rw l.wraps;
        others = rw l.wraps;
        found = rw l.wraps (sym (some_line (length (split w d (drop n (first_line s c)) ++ wrap_lines w d (drop 1 (lines_in s c))))));
        inside = record { ends = h; from = i; begins = l.begins; texts = k };
        same = refl;
        order = l.order;
        within = omega arith;
        columns = refl;
        fits = l.fits;
      }

  pub blank-first : (c : Lines) → 0 < w → lines_end s c ≤ length s → c.left ≤ 0 → FirstOf s w d plain [] (no_line c plain)
  blank-first c pos h z =
      let none = lines_none s c z in
      record {
        first = refl;
        others = sym (rest-none s w d (record { lines = c; from = 0; plain = plain }) pos z);
        found = refl;
        inside = record { ends = h; from = omega arith; begins = rw none refl; texts = rw none tt };
        same = refl;
        order = omega arith;
        within = omega arith;
        columns = sym width-nil;
        fits = omega (arith, width-nil);
      }

  pub taken_found : (c : Lines) → lines_end s c ≤ length s → All (TextIs plain) (lines_in s c) → (ls : List (List ℕ)) (p : Option Part) (r : Next)
      → HeadIs w d (first_line s c) ls p → r ≡ taken (first_line s c) c plain p → r.found ≡ true
      → FirstOf s w d plain (ls ++ wrap_lines w d (drop 1 (lines_in s c))) r
  taken_found c h k ls (Some p) r l q f = rw q (found_first c h k ls p.start p.end p.next l)
  taken_found c h k ls None r l q f = absurd (false≢true (sym (ap (λ (x : Next). x.found) q) ∙ f))

  pub taken_none : (c : Lines) (t : List ℕ) (ls : List (List ℕ)) (p : Option Part) (r : Next) → HeadIs w d t ls p → r ≡ taken t c plain p → r.found ≡ false
      → ls ≡ []
  taken_none c t ls (Some p) r l q f = absurd (false≢true (sym f ∙ ap (λ (x : Next). x.found) q))
  taken_none c t ls None r l q f = l

-- ---- the first line of some cell lines

-- those before c wrap into no line
pub record Seeking (s : List ℕ) (w d : ℕ) (plain : Bool) (all c : Lines) : Type 0 where
  pub same : wrap_lines w d (lines_in s all) ≡ wrap_lines w d (lines_in s c)
  pub ends : lines_end s c ≤ length s
  pub texts : All (TextIs plain) (lines_in s c)

module _ (s : List ℕ) (w d : ℕ) (plain : Bool) (pos : 0 < w) (all : Lines) where
  module _ (c : Lines) (S : Seeking s w d plain all c) where
    pub seeking-here : 0 < c.left → wrap_lines w d (lines_in s all) ≡ wrap_line w d (first_line s c) ++ wrap_lines w d (drop 1 (lines_in s c))
    seeking-here h = S.same ∙ ap (wrap_lines w d) (lines-some s c h) ∙ wrap_more w d (first_line s c) (drop 1 (lines_in s c))

    module _ (some : 0 < c.left) (t : List ℕ) (e : t ≡ first_line s c) (p : Option Part) (l : HeadIs w d t (wrap_line w d t) p) (r : Next)
        (q : r ≡ taken t c plain p) where
      head-here : HeadIs w d (first_line s c) (wrap_line w d (first_line s c)) p
      head-here = subst (λ (x : List ℕ). HeadIs w d x (wrap_line w d x) p) e l

      taken_here : r ≡ taken (first_line s c) c plain p
      taken_here = subst (λ (x : List ℕ). r ≡ taken x c plain p) e q

      pub seeking_found : r.found ≡ true → FirstOf s w d plain (wrap_lines w d (lines_in s all)) r
      seeking_found f =
          rw (seeking-here some)
          (taken_found s w d plain c S.ends S.texts (wrap_line w d (first_line s c)) p r head-here taken_here f)

      pub seeking-on : r.found ≡ false → (k : Lines) → LinesNext s c k → Seeking s w d plain all k
      seeking-on f k n = record {
        same =
            seeking-here some
            ∙ rw (taken_none s w d plain c (first_line s c) (wrap_line w d (first_line s c)) p r head-here taken_here f, ← n.lines);
        ends = omega (arith, S.ends, n.ends);
        texts = texts_next plain s c k n S.texts;
      }

    pub seeking_done : c.left ≤ 0 → (r : Next) → r ≡ no_line c plain → FirstOf s w d plain (wrap_lines w d (lines_in s all)) r
    seeking_done h r q = rw (S.same, lines_none s c h, wrap-none w d, q) (blank-first s w d plain c pos S.ends h)

-- ---- the next line of a cell

module _ (s : List ℕ) (w d : ℕ) (pos : 0 < w) (c : CellCursor) (I : Inside s c) where
  pub next-ended : c.lines.left ≡ 0 → (r : Next) → r ≡ no_line c.lines c.plain → FirstOf s w d c.plain (rest s w d c) r
  next-ended h r q =
      rw (rest-none s w d c pos (omega arith), q) (blank-first s w d c.plain c.lines pos I.ends (omega arith))

  rest_is : rest s w d c ≡ split w d (drop c.from (first_line s c.lines)) ++ wrap_lines w d (drop 1 (lines_in s c.lines))
  unfolding rest
  rest_is = refl

  module _ (t : List ℕ) (e : t ≡ first_line s c.lines) (p : Option Part) (l : PartIs w d t c.from p) (r : Next)
      (q : r ≡ taken t c.lines c.plain p) where
    head_at : HeadIs w d (first_line s c.lines) (split w d (drop c.from (first_line s c.lines))) p
    head_at = subst (λ (x : List ℕ). HeadIs w d x (split w d (drop c.from x)) p) e (split-head w d pos t c.from p l)

    taken_at : r ≡ taken (first_line s c.lines) c.lines c.plain p
    taken_at = subst (λ (x : List ℕ). r ≡ taken x c.lines c.plain p) e q

    pub next_found : r.found ≡ true → FirstOf s w d c.plain (rest s w d c) r
    next_found f = rw rest_is (taken_found s w d c.plain c.lines I.ends I.texts _ p r head_at taken_at f)

    pub next_further : r.found ≡ false → (k : Lines) → LinesNext s c.lines k → rest s w d c ≡ wrap_lines w d (lines_in s k)
    next_further f k n =
        rest_is ∙ rw (taken_none s w d c.plain c.lines (first_line s c.lines) _ p r head_at taken_at f, ← n.lines)

-- ---- lines further on

none_found : (ls : List (List ℕ)) → ltb 0 (length ls) ≡ false → ls ≡ []
none_found [] e = refl
none_found (l ∷ ls) e = absurd (false≢true (sym e ∙ some_line (length ls)))

split-drop : (j n : ℕ) → j ≤ n → (ls : List (List ℕ)) → drop n ls ≡ drop (n - j) (drop j ls)
split-drop j n h ls = let e : j + (n - j) ≡ n = omega arith in sym (drop-drop (n - j) j ls ∙ ap (λ k. drop k ls) e)

-- j of n lines after t are passed over, and r comes next
pub record Moving (s : List ℕ) (w d n : ℕ) (t : Next) (j : ℕ) (r : Next) : Type 0 where
  pub within : j ≤ n
  pub inside : Inside s r.cursor
  pub lines : Further s w d j t r

module _ (s : List ℕ) (w d n : ℕ) (t : Next) where
  module _ (j : ℕ) (r : Next) (M : Moving s w d n t j r) where
    pub moving-on : j < n → (q : Next) → FirstOf s w d r.cursor.plain (rest s w d r.cursor) q → Moving s w d n t (j + 1) q
    moving-on h q N = record {
      within = omega arith;
      inside = N.inside;
      lines = λ plain ls F.
          let G = M.lines plain ls F in
          subst (λ (xs : List (List ℕ)). FirstOf s w d plain xs q) (sym G.others ∙ drop-drop 1 j ls)
          (subst (λ (b : Bool). FirstOf s w d b (rest s w d r.cursor) q) G.same N);
    }

    -- past a cell's last line nothing comes, however many lines further on
    pub moving-ended : r.found ≡ false → Further s w d n t r
    moving-ended e plain ls F =
        let G = M.lines plain ls F in
        let k = M.within in
        let z : drop j ls ≡ [] = none_found (drop j ls) (sym G.found ∙ e) in
        let y : drop n ls ≡ drop j ls = split-drop j n k ls ∙ ap (drop (n - j)) z ∙ drop-nil (n - j) ∙ sym z in
        rw y G

    pub moving_done : n ≤ j → Further s w d n t r
    moving_done h = let k = M.within in let e : n ≡ j = omega arith in rw e M.lines
