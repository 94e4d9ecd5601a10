-- `editor::text::judge` meets its contract. Assumes nothing.
use Prim.Native.Nat.{ℕ, ◌≤◌}
use mathlib.Core.Path.{◌≡◌, ◌∙◌}
use native.Mathlib.Omega.{arith}
use Rattle.editor.specs.Walk.{walk_of}
use Rattle.editor.proofs.Texts.{short_noted, long_noted, fine_noted, bad_noted}
use Rattle.editor.proofs.text.judge.Goals as goal
use Rattle.editor.proofs.text.judge.Goals.{then-n-least-via-then-n-least, then-n-least-via-else-n-least+then-most-n}

at_least : (least n given : ℕ) → given ≡ least → given ≤ n → least ≤ n
at_least least n given e h = omega arith

at_most : (most n given : ℕ) → given ≡ most → n ≤ given → n ≤ most
at_most most n given e h = omega arith

pub returns-then-n-least : goal.returns-then-n-least
returns-then-n-least c =
    elim c.then-n-least.branch [
      | then-n-least-via-then-n-least w ↦
          c.note.ensures ∙ short_noted c.args.kind c.args.part.now (walk_of c.args.from) (omega (arith, c.least.ensures, w.if-n-least.true))
      | then-n-least-via-else-n-least+then-most-n w ↦
          c.note.ensures
          ∙ long_noted c.args.kind c.args.part.now (walk_of c.args.from) (omega (arith, c.least.ensures, w.if-n-least.false))
          (omega (arith, w.most.ensures, w.if-most-n.true))
    ]

pub returns-in_default : goal.returns-in_default
returns-in_default c =
    fine_noted c.args.kind c.args.part.now (walk_of c.args.from) (at_least _ _ _ c.least.ensures c.if-n-least.false)
    (at_most _ _ _ c.most.ensures c.if-most-n.false) _ c.in_default.ensures

pub returns : goal.returns
returns c =
    c.note-2.ensures
    ∙ bad_noted c.args.kind c.args.part.now (walk_of c.args.from) (at_least _ _ _ c.least.ensures c.if-n-least.false)
    (at_most _ _ _ c.most.ensures c.if-most-n.false) _ _ _ _ c.in-Err.ensures c.further.ensures c.further-place.ensures
