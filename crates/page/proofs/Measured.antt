-- What the call for widths answers. Assumes nothing.
use Prim.Native.Nat.{ℕ}
use mathlib.Core.Path.{◌≡◌}
use mathlib.Core.List.{List}
use Rattle.rules.specs.declared.Measured.{Measured}
use Rattle.rules.specs.Calls.{measure, measure_of}
use Rattle.table.specs.Held.{IsAccepted, table_of}
use Rattle.table.proofs.Held.{held}
use Rattle.arrangement.specs.declared.Widths.{Widths}
use Rattle.arrangement.specs.Widths.{arranged_widths}

-- an accepted one: its widths
pub measure_accepted : (s : List ℕ) (w : Widths) → IsAccepted s → w ≡ arranged_widths (table_of s)
    → ◌≡◌ {A = Measured} (record { number = 0; place = 0; columns = w.count; content = w.content; hidden = w.hidden }) (measure s)
unfolding measure measure_of arranged_widths
measure_accepted s w h e = let r = (held s h).reads in rw (e, r)
