-- What the call for reasons answers. Assumes nothing.
use Prim.Native.Nat.{ℕ}
use mathlib.Core.Path.{◌≡◌, sym, ap, ◌∙◌}
use mathlib.Core.List.{List}
use mathlib.Core.Bool.{Bool, not}
use lib.IntN.{ℤ, pos, ◌-ℤ◌}
use lib.Dec.{eqb}
use borrow.Author.Tests.{eq-eqb, ne_eqb}
use Rattle.rules.specs.declared.Reasoned.{Reasoned}
use Rattle.rules.specs.Sheet.{Table}
use Rattle.rules.specs.Page.{page_lines}
use Rattle.rules.specs.Reasons.{longest_printed, difference, reasons_of, reasons}
use Rattle.table.specs.Held.{IsAccepted, table_of}
use Rattle.table.specs.Walk.{rows_in}
use Rattle.table.proofs.Held.{held}
use Rattle.arrangement.specs.Widths.{arranged_widths}
use Rattle.width_steps.specs.declared.Report.{Report}
use Rattle.width_steps.specs.Steps.{report_of}
use Rattle.display_info.specs.declared.DisplayInfo.{DisplayInfo}
use Rattle.parts.specs.Ahead.{lines_of}
use Rattle.lines.specs.Walk.{LongestIs}

-- without a target there is no difference
pub no_difference : (t : Table) (w : ℕ) → w ≡ t.target → w ≡ 0 → pos 0 ≡ difference t
unfolding difference
no_difference t w e z = rw (eq-eqb t.target 0 (sym e ∙ z), difference)

-- the longest line of the whole page
longest_of : (s : List ℕ) (p : DisplayInfo) (r : ℕ) → LongestIs s p r → rows_in s p.rows ≡ (table_of s).rows → r ≡ longest_printed (table_of s)
unfolding longest_printed page_lines lines_of
longest_of s p r L e = L.longest ∙ rw e

pub some-difference : (s : List ℕ) (p : DisplayInfo) (w r : ℕ) (z : ℤ) → w ≡ (table_of s).target → (w ≡ 0 → ⊥) → LongestIs s p r → rows_in s p.rows ≡ (table_of s).rows
    → z ≡ pos w -ℤ pos r → z ≡ difference (table_of s)
unfolding difference
some-difference s p w r z e n L f q =
    let t = table_of s in
    let k = longest_of s p r L f in
    q ∙ rw (e, k) (sym (rw (ne_eqb t.target 0 (λ h. n (e ∙ h)), difference)))

-- an accepted one: its report and the difference
pub reasons_accepted : (s : List ℕ) (r : Report) (z : ℤ) (b : Bool) → IsAccepted s → r ≡ report_of (table_of s) → z ≡ difference (table_of s)
    → b ≡ not (eqb r.target 0)
    → ◌≡◌ {A = Reasoned} (record {
      number = 0;
      place = 0;
      columns = r.widths.count;
      step = r.step;
      widened = r.widened;
      has_difference = b;
      difference = z;
    }) (reasons s)
unfolding reasons reasons_of report_of arranged_widths
reasons_accepted s r z b h e f g = let k = (held s h).reads in rw (g, f, e, k)

-- what the report hands on
pub report_widths : (t : Table) (r : Report) → r ≡ report_of t → r.widths ≡ arranged_widths t
unfolding report_of
report_widths t r e = ap (λ (x : Report). x.widths) e

pub report-target : (t : Table) (r : Report) → r ≡ report_of t → r.target ≡ t.target
unfolding report_of
report-target t r e = ap (λ (x : Report). x.target) e
