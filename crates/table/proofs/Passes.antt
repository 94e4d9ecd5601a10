-- The pass: steps one after another take the cell lines in order, each once, and find each column's longest line. Assumes nothing.
use Prim.Native.Nat.{ℕ, ◌+◌, ◌-◌, ◌≤◌, ◌<◌, max}
use mathlib.Core.Path.{◌≡◌, refl, ap, sym, ◌∙◌}
use mathlib.Core.List.{List, [], ◌∷◌, ◌++◌, map, append_assoc, append-nil, cons≢nil}
use mathlib.Core.Bool.{Bool, true, false}
use native.Mathlib.Omega.{arith}
use lib.ListN.{length, get_or, take, drop, set, replicate, get_or-replicate, length-map, length-set, length-drop}
use lib.Seq.{take_all, get_or-set_same, get_or-set_other, ext_get_or}
use lib.Dec.{eqb}
use borrow.Author.Tests.{eqb-true, eqb-false}
use Rattle.rules.specs.Text.{All, keep, characters_in, text_width, greatest, flat, up_from}
use Rattle.rules.specs.Sheet.{Row, most_columns, all_rows}
use Rattle.rules.specs.Widths as widths
use Rattle.rules.specs.Widths.{lifted}
use Rattle.rules.specs.Limits.{TableLimits}
use Rattle.rules.specs.CellLines.{InColumn, in_column, on_line, lines_of_cells, lines_of_rows, row_lines, cell_lines, longest_of}
use Rattle.rules.specs.Places.{byte_at, text_at, line_stop, header_place}
use Rattle.laws.proofs.Accepted.{accepted_limits}
use Rattle.laws.proofs.Lists.{all_unmap, all_right, map-append, get_d_map, length-up_from, get_d-up_from}
use Rattle.laws.proofs.CellLines.{longest-append, longest-here, longest-other, longest-lines, lines_narrow}
use Rattle.table.specs.Held.{IsAccepted, table_of}
use Rattle.table.specs.Step.{ahead, ahead_end, Counted, Ready, Takes, AllNarrow}
use Rattle.table.specs.Pass.{State, start, after, Steps, none, then, Rising, Passed, Edges}
use Rattle.table.specs.declared.step.Taken.{Taken}
use Rattle.table.proofs.Held.{held}
use Rattle.table.proofs.Heads.{ahead_end_lem}
use Rattle.table.proofs.Rest.{text-rest, line-rest, ahead-rest, end_rest, all_read, all_inside}

-- the rest of the sheet from where the pass stands: what is ahead in it is ahead in the sheet
module _ (s : List ℕ) (a : State) where
  nothing_more : a.at + 0 ≡ a.at
  nothing_more = omega arith

  ahead-here : map (on_line (λ p. a.at + p)) (ahead (drop a.at s) 0 a.left) ≡ ahead s a.at a.left
  ahead-here = ahead-rest s a.at 0 a.left ∙ ap (λ p. ahead s p a.left) nothing_more

  end-here : a.at + ahead_end (drop a.at s) 0 a.left ≡ ahead_end s a.at a.left
  end-here = end_rest s a.at 0 a.left ∙ ap (λ p. ahead_end s p a.left) nothing_more

-- ---- one step: what it takes of the rest, it takes of the sheet

module _ (s : List ℕ) (a : State) (t : Taken) (takes : Takes (drop a.at s) a.longest 0 a.left t) where
  -- the line taken is the first ahead, and the others are ahead of its end
  taken-first : ahead s a.at a.left ≡ in_column t.column (a.at + t.at) ∷ ahead s (a.at + t.end) t.left
  taken-first =
      sym (ahead-here s a)
      ∙ (ap (map (on_line (λ p. a.at + p))) takes.first
      ∙ ap (◌∷◌ (in_column t.column (a.at + t.at))) (ahead-rest s a.at t.end t.left))

  taken_inside : ahead_end s (a.at + t.end) t.left ≡ ahead_end s a.at a.left
  taken_inside = sym (end_rest s a.at t.end t.left) ∙ (ap (λ n. a.at + n) takes.inside ∙ end-here s a)

  taken_ends : a.at + t.end ≡ line_stop s (a.at + t.at)
  taken_ends = ap (λ n. a.at + n) takes.ends ∙ line-rest s a.at t.at

  taken-characters : t.longest ≡ max (get_or a.longest t.column 0) (lifted (text_width (text_at s (a.at + t.at))))
  taken-characters = takes.characters ∙ ap (λ l. max (get_or a.longest t.column 0) (lifted (text_width l))) (text-rest s a.at t.at)

-- ---- steps one after another

module _ (s : List ℕ) where
  -- what was taken and what is ahead make the whole
  steps-lines : {ls : List (InColumn ℕ)} {a : State} → Steps s ls a → ls ++ ahead s a.at a.left ≡ ahead s (start s).at (start s).left
  steps-lines none = refl
  steps-lines (then ls a t steps takes) =
      append_assoc ls (in_column t.column (a.at + t.at) ∷ []) (ahead s (a.at + t.end) t.left)
      ∙ (ap (λ l. ls ++ l) (sym (taken-first s a t takes)) ∙ steps-lines steps)

  steps_end : {ls : List (InColumn ℕ)} {a : State} → Steps s ls a → ahead_end s a.at a.left ≡ ahead_end s (start s).at (start s).left
  steps_end none = refl
  steps_end (then ls a t steps takes) = taken_inside s a t takes ∙ steps_end steps

  steps-counted : {ls : List (InColumn ℕ)} {a : State} → Steps s ls a → Counted a.left
  steps-counted none = record { few = omega arith; started = λ h. absurd (omega arith) }
  steps-counted (then ls a t steps takes) = takes.counted

  steps_long : {ls : List (InColumn ℕ)} {a : State} → Steps s ls a → length a.longest ≡ most_columns
  steps_long none = refl
  steps_long (then ls a t steps takes) = length-set a.longest t.column t.longest ∙ steps_long steps

  -- positions rise
  rising-on : (p : ℕ) (ls : List (InColumn ℕ)) (q r : ℕ) (l : InColumn ℕ) → Rising s p ls q → q ≤ l.line → r ≡ line_stop s l.line
      → Rising s p (ls ++ (l ∷ [])) r
  rising-on p [] q r l h k e = (omega arith, omega arith)
  rising-on p (m ∷ ls) q r l h k e = (h.0, rising-on (line_stop s m.line) ls q r l h.1 k e)

  steps_rise : {ls : List (InColumn ℕ)} {a : State} → Steps s ls a → Rising s (start s).at ls a.at
  steps_rise none = omega arith
  steps_rise (then ls a t steps takes) =
      rising-on (start s).at ls a.at (a.at + t.end) (in_column t.column (a.at + t.at)) (steps_rise steps) (omega arith)
      (taken_ends s a t takes)

  -- each column's longest over the lines taken
  steps_found : {ls : List (InColumn ℕ)} {a : State} → Steps s ls a → (j : ℕ) → j < most_columns
      → get_or a.longest j 0 ≡ longest_of j (map (on_line (text_at s)) ls)
  unfolding longest_of greatest keep
  steps_found none j h = get_or-replicate most_columns j 0 0 h
  steps_found (then ls a t steps takes) j h =
      found (steps_found steps j h) (steps_long steps) (eqb t.column j) refl
      ∙ sym (ap (longest_of j) (map-append (on_line (text_at s)) ls (in_column t.column (a.at + t.at) ∷ []))
      ∙ longest-append j (map (on_line (text_at s)) ls) (in_column t.column (text_at s (a.at + t.at)) ∷ []))
    where
      found : get_or a.longest j 0 ≡ longest_of j (map (on_line (text_at s)) ls) → length a.longest ≡ most_columns → (b : Bool) → eqb t.column j ≡ b
          → get_or (set a.longest t.column t.longest) j 0
          ≡ max (longest_of j (map (on_line (text_at s)) ls)) (longest_of j (in_column t.column (text_at s (a.at + t.at)) ∷ []))
      found before long true e =
          let i = eqb-true t.column j e in
          let c = rw i at (taken-characters s a t takes) in
          let k = get_or-set_same a.longest j t.longest 0 (omega arith) in
          rw i (k ∙ omega (arith, c, longest-here j (text_at s (a.at + t.at))))
      found before long false e =
          let i = eqb-false t.column j e in
          let k = get_or-set_other a.longest t.column j t.longest 0 (λ m. i (sym m)) in
          k ∙ omega (arith, longest-other t.column j (text_at s (a.at + t.at)) i)

-- ---- the pass over an accepted sheet

-- the rest of the sheet, as it is lent
abbrev lent : List ℕ → ℕ → List ℕ
lent s p = take (length s - p) (drop p s)

rest-lent : (s : List ℕ) (p : ℕ) → lent s p ≡ drop p s
rest-lent s p = take_all (length s - p) (drop p s) (omega (arith, length-drop p s))

-- after some steps
pub record Passing (s : List ℕ) (a : State) : Type 0 where
  pub accepted : IsAccepted s
  pub lines : List (InColumn ℕ)
  pub steps : Steps s lines a

pub pass_begins : (s : List ℕ) (p n : ℕ) → IsAccepted s → p ≡ header_place s → n ≡ byte_at s p → Passing s (record {
  at = p + 1;
  left = record { sections = 1; rows = n; cells = 0; begun = 0; lines = 0 };
  longest = replicate most_columns 0;
})
pass_begins s p n h e i = record { accepted = h; lines = []; steps = rw (i, e) none }

limits : (s : List ℕ) → IsAccepted s → TableLimits (table_of s)
limits s h = let r = held s h in accepted_limits s (table_of s) r.end r.reads

module _ (s : List ℕ) (a : State) (so : Passing s a) where
  pass_end : ahead_end s a.at a.left ≡ length s
  pass_end = steps_end s so.steps ∙ all_inside s so.accepted

  -- the rest of the sheet is there
  pub pass_inside : a.at ≤ length s
  pass_inside = omega (arith, ahead_end_lem s a.at a.left, pass_end)

  pass_ready : Ready (drop a.at s) 0 a.left
  pass_ready =
      record { inside = omega (arith, length-drop a.at s, pass_inside, end-here s a, pass_end); counted = steps-counted s so.steps }

  narrow : AllNarrow (ahead s a.at a.left)
  narrow =
      let whole = ahead s (start s).at (start s).left in
      let each : AllNarrow whole =
      all_unmap (λ (l : InColumn (List ℕ)). l.column < most_columns) (on_line (text_at s)) whole
      (rw (all_read s so.accepted) (lines_narrow (table_of s) (limits s so.accepted))) in
      all_right (λ (l : InColumn ℕ). l.column < most_columns) so.lines (ahead s a.at a.left) (rw (steps-lines s so.steps) each)

  pass_narrow : AllNarrow (ahead (drop a.at s) 0 a.left)
  pass_narrow =
      all_unmap (λ (l : InColumn ℕ). l.column < most_columns) (on_line (λ p. a.at + p)) (ahead (drop a.at s) 0 a.left) (rw (ahead-here s a) narrow)

  -- a step may be made
  pub pass_asks : Ready (lent s a.at) 0 a.left × AllNarrow (ahead (lent s a.at) 0 a.left)
  pass_asks = rw (rest-lent s a.at) (pass_ready, pass_narrow)

  -- what is ensured of it, of the sheet from there on
  pub is-taken : (t : Taken) → Takes (lent s a.at) a.longest 0 a.left t → Takes (drop a.at s) a.longest 0 a.left t
  is-taken t h = rw (rest-lent s a.at) at h

  pub is-ended : ahead (lent s a.at) 0 a.left ≡ [] → ahead (drop a.at s) 0 a.left ≡ []
  is-ended h = rw (rest-lent s a.at) at h

  -- the line taken is of a column that there can be, and ends farther on, inside the sheet
  module _ (t : Taken) (takes : Takes (drop a.at s) a.longest 0 a.left t) where
    pub pass-column : t.column < most_columns
    pass-column = (rw (taken-first s a t takes) at narrow).0

    pub pass-onward : (0 < t.end) × (a.at + t.end ≤ length s)
    unfolding line_stop
    pass-onward = (
      omega (arith, takes.ends),
      omega (arith, ahead_end_lem s (a.at + t.end) t.left, taken_inside s a t takes, pass_end),
    )

    pub pass-again : Passing s (after a t)
    pass-again = record {
      accepted = so.accepted;
      lines = so.lines ++ (in_column t.column (a.at + t.at) ∷ []);
      steps = then so.lines a t so.steps takes;
    }

  -- no step takes another line
  module _ (ended : ahead (drop a.at s) 0 a.left ≡ []) where
    pass-lines : map (on_line (text_at s)) so.lines ≡ cell_lines (table_of s)
    pass-lines =
        let no_more : ahead s a.at a.left ≡ [] = sym (ahead-here s a) ∙ ap (map (on_line (λ p. a.at + p))) ended in
        ap (map (on_line (text_at s))) (sym (append-nil so.lines) ∙ (ap (λ l. so.lines ++ l) (sym no_more) ∙ steps-lines s so.steps))
        ∙ all_read s so.accepted

    pass-longest : a.longest ≡ map (widths.longest (table_of s)) (up_from 0 most_columns)
    pass-longest =
        let t = table_of s in
        let n : length (map (widths.longest t) (up_from 0 most_columns)) ≡ most_columns =
        length-map (up_from 0 most_columns) (widths.longest t) ∙ length-up_from 0 most_columns in
        let l = steps_long s so.steps in
        ext_get_or 0 a.longest (map (widths.longest t) (up_from 0 most_columns)) (l ∙ sym n) (λ j h. one j (omega arith))
      where
        one : (j : ℕ) → j < most_columns → get_or a.longest j 0 ≡ get_or (map (widths.longest (table_of s)) (up_from 0 most_columns)) j 0
        one j h =
            let t = table_of s in
            let z : 0 + j ≡ j = omega arith in
            steps_found s so.steps j h
            ∙ (ap (longest_of j) pass-lines
            ∙ (longest-lines t j (limits s so.accepted)
            ∙ sym (get_d_map (widths.longest t) (up_from 0 most_columns) j 0 0 (omega (arith, length-up_from 0 most_columns))
            ∙ ap (widths.longest t) (get_d-up_from 0 most_columns j 0 h ∙ z))))

    pub pass_done : Passed s a.longest
    pass_done = record {
      lines = so.lines;
      last = a;
      steps = so.steps;
      ended = ended;
      all_lines = pass-lines;
      rising = steps_rise s so.steps;
      found = refl;
      longest = pass-longest;
    }

-- ---- at the edges

-- a row without cells has no line, and rows without cells have none
row-passed : (rs us : List Row) (limit : ℕ)
    → lines_of_rows (map row_lines (rs ++ (record { limit = limit; cells = [] } ∷ us))) ≡ lines_of_rows (map row_lines (rs ++ us))
unfolding flat lines_of_cells
row-passed [] us limit = refl
row-passed (r ∷ rs) us limit = ap (λ l. lines_of_cells 0 (row_lines r) ++ l) (row-passed rs us limit)

rows-passed : (rs : List Row) → All (λ r. r.cells ≡ []) rs → lines_of_rows (map row_lines rs) ≡ []
unfolding flat lines_of_cells
rows-passed [] a = refl
rows-passed (r ∷ rs) a = rw a.0 (rows-passed rs a.1)

-- without a line nothing was taken, and no column has been lifted
none_of : {A B : Type 0} (f : A → B) (l : List A) → map f l ≡ [] → l ≡ []
none_of f [] e = refl
none_of f (x ∷ l) e = absurd (cons≢nil e)

no_last : {A : Type 0} (l : List A) (x : A) → l ++ (x ∷ []) ≡ [] → ⊥
no_last [] x e = cons≢nil e
no_last (y ∷ l) x e = cons≢nil e

steps-none : (s : List ℕ) {ls : List (InColumn ℕ)} {a : State} → Steps s ls a → ls ≡ [] → a.longest ≡ replicate most_columns 0
steps-none s none e = refl
steps-none s (then ls a t steps takes) e = absurd (no_last ls (in_column t.column (a.at + t.at)) e)

no-cell-passed : (s r : List ℕ) (passed : Passed s r) → All (λ x. x.cells ≡ []) (all_rows (table_of s))
    → (passed.lines ≡ []) × (r ≡ replicate most_columns 0)
unfolding cell_lines
no-cell-passed s r passed empty =
    let e = none_of (on_line (text_at s)) passed.lines (passed.all_lines ∙ rows-passed (all_rows (table_of s)) empty) in
    (e, passed.found ∙ steps-none s passed.steps e)

pub edges : Edges
unfolding cell_lines text_width characters_in keep
edges = record {
  empty_line = λ s before p c t takes e. takes.characters ∙ ap (λ l. max (get_or before t.column 0) (lifted (text_width l))) e;
  any_columns = λ t cs. refl;
  no_cells = row-passed;
  no_cell_at_all = no-cell-passed;
}
