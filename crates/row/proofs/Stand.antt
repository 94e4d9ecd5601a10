-- What is pending for a cell, and for the first columns of a row. Assumes nothing.
use Prim.Native.Nat.{ℕ, zero, suc, ◌≤◌, ◌<◌}
use mathlib.Core.Path.{◌≡◌, refl, sym, ◌∙◌}
use mathlib.Core.List.{List, [], ◌∷◌}
use mathlib.Core.Bool.{Bool, true, false}
use native.Mathlib.Omega.{arith}
use lib.ListN.{length, set, drop}
use lib.Seq.{get_or-set_other}
use borrow.Author.Tests.{lt-ltb}
use Rattle.rules.specs.Limits.{Printable}
use Rattle.cells.specs.Cell.{FirstOf}
use Rattle.row.specs.Pending.{pending_text, following, no_pending, Ready, any_found, remaining, Stands}
use Rattle.row.specs.declared.VisibleColumn.{VisibleColumn}
use Rattle.row.specs.declared.Pending.{Pending}

-- the first of some lines is pending, those being a cell's from j on
pub stands_next : (s : List ℕ) (v : VisibleColumn) (ls : List (List ℕ)) (j d : ℕ) (plain : Bool) (next : List (List ℕ)) (r : Pending)
    → 0 < v.width → Printable d → next ≡ drop j ls → FirstOf s v.width d plain next r.line → r.delimiter ≡ d → Stands s v ls j r
unfolding remaining
stands_next s v ls j d plain next r wide prints e a f = go next refl
  where
    ready : Ready s v r
    ready = record {
      wide = wide;
      delimiter = rw f prints;
      line = record { ends = a.inside.ends; order = a.order; within = a.within; columns = a.columns; fits = a.fits };
      inside = a.inside;
    }

    others : following s v.width r ≡ drop 1 next
    others = rw f (sym a.others)

    go : (l : List (List ℕ)) → next ≡ l → Stands s v ls j r
    go [] q =
        let n : r.line.found ≡ false = a.found ∙ rw q in
        let p : pending_text s r ≡ [] = sym a.first ∙ rw q in
        let o : following s v.width r ≡ [] = others ∙ rw q in
        record { lines = rw (n, remaining) (sym (sym e ∙ q)); none = λ x. (o, p); ready = ready }
    go (x ∷ l) q =
        let n : r.line.found ≡ true = a.found ∙ rw (q, lt-ltb 0 (suc (length l)) (omega arith)) in
        let p : x ≡ pending_text s r = sym (rw q) ∙ a.first in
        let o : following s v.width r ≡ l = others ∙ rw q in
        record {
          lines = rw (n, remaining) (sym (sym e ∙ q ∙ rw (p, o)));
          none = λ y. let z : ◌≡◌ {A = ℕ} 0 1 = cc in absurd (omega arith);
          ready = ready;
        }

-- a change behind the first n columns
pub same_below : (ts : List Pending) (i n : ℕ) (u : Pending) → n ≤ i → any_found (set ts i u) n ≡ any_found ts n
unfolding any_found
same_below ts i zero u h = refl
same_below ts i (suc n) u h = rw (same_below ts i n u (omega arith), get_or-set_other ts i n u no_pending (λ e. omega arith))
