use native.Mathlib.Omega.{arith}
use mathlib.Core.Path.{ap}
use lib.ListN.{length}
use Rattle.arrayvec.specs.ArrayVec.{ArrayVec}
use Rattle.row.specs.declared.VisibleColumn.{VisibleColumn}
use Rattle.style.specs.Front.{front_len}
use Rattle.style.proofs.Front.{front_more}
use Rattle.display_info.proofs.visible_columns.VisibleColumns.push.Goals as goal

pub invariant_of-self : goal.invariant_of-self
invariant_of-self c =
    let taken = front_len _ _ _ c.self.invariant in
    front_more _ _ _ _ (omega (arith, taken, ap (λ (v : ArrayVec VisibleColumn). length v.items) c.self.view_is)) c.self.invariant
