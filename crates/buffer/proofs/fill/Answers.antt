use Rattle.std.proofs.Common.{arith, ◌≡◌, ◌+◌, ◌-◌, ◌++◌, ℕ, List, [], length, replicate, drop}
use Rattle.std.proofs.lemmas.List.Edits.{fill_more}
use lib.ListN.{take, set, length-replicate, length-drop, drop_of_length-le}
use lib.Seq.{length-take-le}
use mathlib.Core.List.{append-nil}
use mathlib.Core.Path.{sym, ap, ◌∙◌}
use Rattle.buffer.specs.Put.{put_at}
use Rattle.buffer.proofs.Laws.{part_back, put_one}
use Rattle.buffer.proofs.fill.Goals as goal

pub returns-then-n-eq1-clause-dst_after : goal.returns-then-n-eq1-clause-dst_after
returns-then-n-eq1-clause-dst_after c =
    put_one c.args.dst.now c.args.at c.args.b (omega arith) ∙ ap (λ (k : ℕ). put_at c.args.dst.now c.args.at (replicate k c.args.b)) (sym c.if-n-eq1.true)

pub loop-place-preserved : goal.loop-place-preserved
loop-place-preserved c =
    let i = c.loop-place.place-index in
    let h = c.loop-place-test.true in
    ap (λ (l : List ℕ). set l i c.args.b) c.loop-place.invariant ∙ fill_more i c.args.b _ (omega (arith, h, c.loop-place.auto.place-items))

pub returns-after-loop-place-clause-dst_after : goal.returns-after-loop-place-clause-dst_after
returns-after-loop-place-clause-dst_after c =
    let d = c.args.dst.now in
    let at = c.args.at in
    let n = c.args.n in
    let b = c.args.b in
    let i = c.loop-place.place-index in
    let part : List ℕ = take (at + n - at) (drop at d) in
    let lent : length part ≡ n = length-take-le (at + n - at) (drop at d) (omega (arith, length-drop at d)) ∙ omega arith in
    let none : drop i part ≡ [] = drop_of_length-le part {i = i} (omega (arith, lent, c.loop-place-test.false)) in
    let all : i ≡ n = omega (arith, c.loop-place.auto.place-index-end, lent, c.loop-place-test.false) in
    part_back _ _ _ (replicate n b) _
    (c.loop-place.invariant ∙ ap (λ (l : List ℕ). replicate i b ++ l) none ∙ append-nil (replicate i b) ∙ ap (λ (k : ℕ). replicate k b) all)
    (omega (arith, length-replicate n b))
