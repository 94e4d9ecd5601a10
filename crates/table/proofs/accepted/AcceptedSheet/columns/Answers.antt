use native.Mathlib.Omega.{arith}
use Prim.Native.Nat.{ℕ}
use mathlib.Core.Path.{◌≡◌}
use mathlib.Core.List.{List}
use Rattle.rules.specs.Sheet.{no_column}
use Rattle.table.proofs.Held.{room, columns_inside, columns_whole, column_copied}
use Rattle.table.proofs.Copies.{copied-again}
use Rattle.rules.specs.Places.{byte_at}
use Rattle.table.proofs.accepted.AcceptedSheet.columns.Goals as goal

count-read : (s : List ℕ) (p q n : ℕ) → p ≡ q → n ≡ byte_at s p → n ≡ byte_at s q
count-read s p q n e f = rw e at f

pub bounds-self-place : goal.bounds-self-place
bounds-self-place c = let r = room _ c.args.self.now.accepted in omega (arith, c.columns_place-place.ensures)

pub column_at-requires : goal.column_at-requires
column_at-requires c = let r = room _ c.args.self.now.accepted in omega (arith, c.columns_place-place.ensures, count-read c.args.self.now.bytes.now _ _ _ c.columns_place-place.ensures c.from-count.ensures)

pub push-requires : goal.push-requires
push-requires c = let r = room _ c.args.self.now.accepted in omega (arith, c.loop-i.invariant.few, c.columns_place-place.ensures, count-read c.args.self.now.bytes.now _ _ _ c.columns_place-place.ensures c.from-count.ensures)

pub loop-i-preserved : goal.loop-i-preserved
loop-i-preserved c =
    let r = room _ c.args.self.now.accepted in
    let n = columns_inside _ c.args.self.now.accepted in
    let count = count-read c.args.self.now.bytes.now _ _ _ c.columns_place-place.ensures c.from-count.ensures in
    copied-again no_column _ _ _ _ _ (omega (arith, c.columns_place-place.ensures, count))
    (column_copied _ _ _ _ c.args.self.now.accepted (omega (arith, c.columns_place-place.ensures, count)) (omega (arith, c.columns_place-place.ensures))
    c.column_at.ensures)
    c.push.ensures.items
    c.loop-i.invariant

pub returns : goal.returns
returns c =
    columns_whole _ _ _ _ c.args.self.now.accepted (count-read c.args.self.now.bytes.now _ _ _ c.columns_place-place.ensures c.from-count.ensures)
    c.loop-i-test.false c.loop-i.invariant
