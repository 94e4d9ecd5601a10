-- `editor::walk::Slices::text` meets its contract. Assumes nothing.
use mathlib.Core.Path.{refl}
use Rattle.std.proofs.lemmas.Result.{err_from_is_err_and}
use Rattle.editor.specs.Walk.{walk_of}
use Rattle.editor.proofs.Texts.{text_lacking, text_missing, text_there, taken_order, taken_inside, taken_part}
use Rattle.editor.proofs.walk.Slices.text.Goals as goal

pub returns-in_err-length : goal.returns-in_err-length
returns-in_err-length c =
    let p = err_from_is_err_and c.from_residual.result c.from_residual.ensures.1 in
    rw (p.1, p.2)
    (text_lacking c.args.kind _ c.args.self.now.text.now (walk_of c.args.from) _ _ c.in_err-length.ensures.next refl)

pub returns-in_err-taken : goal.returns-in_err-taken
returns-in_err-taken c =
    let p = err_from_is_err_and c.from_residual-in_err-taken.result c.from_residual-in_err-taken.ensures.1 in
    rw (p.1, p.2)
    (text_missing c.args.kind _ c.args.self.now.text.now (walk_of c.args.from) _ _ _ c.in_ok-length.ensures.value c.in_ok-length.ensures.next
    c.in_err-taken.ensures _ refl)

pub slice_bounds-enter-count : goal.slice_bounds-enter-count
slice_bounds-enter-count c =
    taken_order c.args.kind c.args.self.now.numbers.now c.args.self.now.text.now (walk_of c.args.from) _ _ _ c.in_ok-length.ensures.value c.in_ok-length.ensures.next
    c.in_ok-taken.ensures refl

pub slice_bounds-enter-start : goal.slice_bounds-enter-start
slice_bounds-enter-start c =
    taken_order c.args.kind c.args.self.now.numbers.now c.args.self.now.text.now (walk_of c.args.from) _ _ _ c.in_ok-length.ensures.value c.in_ok-length.ensures.next
    c.in_ok-taken.ensures refl

pub slice_bounds-enter-end : goal.slice_bounds-enter-end
slice_bounds-enter-end c =
    taken_inside c.args.kind c.args.self.now.numbers.now c.args.self.now.text.now (walk_of c.args.from) _ _ _ c.in_ok-length.ensures.value c.in_ok-length.ensures.next
    c.in_ok-taken.ensures refl

pub returns : goal.returns
returns c =
    text_there c.args.kind c.args.self.now.numbers.now c.args.self.now.text.now (walk_of c.args.from) _ _ _ c.in_ok-length.ensures.value c.in_ok-length.ensures.next
    c.in_ok-taken.ensures _ _ _ _
    (taken_part c.args.kind c.args.self.now.numbers.now c.args.self.now.text.now (walk_of c.args.from) _ _ _ c.in_ok-length.ensures.value c.in_ok-length.ensures.next
    c.in_ok-taken.ensures refl) c.enter.ensures
