use native.Mathlib.Omega.{arith}
use mathlib.Core.Path.{ap}
use Rattle.small_sheets.proofs.Numbers.{text_0, text_1, text_2, text_3, text_4}
use Rattle.small_sheets.proofs.family.text_at.Goals as goal
use Rattle.small_sheets.proofs.family.text_at.Goals.{in-0, in-1-to-2, in-3-to-6, in-7-to-14, in_default}

pub returns : goal.returns
returns c =
    elim c.match-k.branch [
      | in-0 w ↦ text_0 _ _ (ap (λ r. r.0) w.result-is) (ap (λ r. r.1.0) w.result-is) (omega (arith, w.in-0.is))
      | in-1-to-2 w ↦ text_1 _ _ (ap (λ r. r.0) w.result-is) (ap (λ r. r.1.0) w.result-is) (omega (arith, w.in-1-to-2)) (omega (arith, w.in-1-to-2))
      | in-3-to-6 w ↦ text_2 _ _ (ap (λ r. r.0) w.result-is) (ap (λ r. r.1.0) w.result-is) (omega (arith, w.in-3-to-6)) (omega (arith, w.in-3-to-6))
      | in-7-to-14 w ↦ text_3 _ _ (ap (λ r. r.0) w.result-is) (ap (λ r. r.1.0) w.result-is) (omega (arith, w.in-7-to-14)) (omega (arith, w.in-7-to-14))
      | in_default w ↦ text_4 _ _ (ap (λ r. r.0) w.result-is) (ap (λ r. r.1.0) w.result-is) (omega (arith, w.in_default)) c.requires
    ]
