use mathlib.Core.Path.{refl, sym, ap, ◌∙◌}
use mathlib.Core.List.{List}
use Prim.Native.Nat.{ℕ, ◌+◌, ◌<◌}
use native.Mathlib.Omega.{arith}
use native.Mathlib.Numerals.{add-one}
use lib.ListN.{length, set, take, get_or}
use lib.Seq.{take-suc, take_all, length-take-le}
use Rattle.buffer.specs.Put.{put_at}
use Rattle.buffer.proofs.Laws.{put_store, put-nil}
use Rattle.buffer.proofs.copy.Goals as goal

pub loop-i-init : goal.loop-i-init
loop-i-init c = sym (put-nil _ _)

pub loop-i-preserved : goal.loop-i-preserved
loop-i-preserved c =
    let i = c.loop-i.i in
    let d = c.args.dst.now in
    let src = c.args.src.now in
    let m : i < length src = omega arith in
    ap (λ (t : List ℕ). set t (c.args.at + i) (get_or src i 0)) c.loop-i.invariant
    ∙ put_store d c.args.at (take i src) (get_or src i 0) (c.args.at + i) (ap (λ (k : ℕ). c.args.at + k) (length-take-le i src (omega arith))) (omega arith)
    ∙ ap (λ (t : List ℕ). put_at d c.args.at t) (sym (take-suc src i 0 m) ∙ ap (λ (k : ℕ). take k src) (sym (add-one i)))

pub returns : goal.returns
returns c =
    let src = c.args.src.now in
    record { value = refl; dst_after = c.loop-i.invariant ∙ ap (λ (l : List ℕ). put_at c.args.dst.now c.args.at l) (take_all c.loop-i.i src c.loop-i-test.false) }
