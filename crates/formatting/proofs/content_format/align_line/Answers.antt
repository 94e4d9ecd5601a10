use native.Mathlib.Omega.{arith}
use Prim.Native.Nat.{ℕ, ◌+◌, ◌-◌}
use mathlib.Core.Path.{sym, ap, ◌∙◌}
use lib.ListN.{replicate, length-replicate}
use Rattle.buffer.specs.Put.{put_at}
use Rattle.formatting.proofs.Area.{four, area_is, area_total}
use Rattle.formatting.proofs.content_format.align_line.Goals as goal

pub overflow_add-v : goal.overflow_add-v
overflow_add-v c =
    let z = area_total c.args.v c.args.alignment c.args.text.now c.args.marks.now c.args.spare c.spaces_before-b.result c.requires.spare c.spaces_before-b.ensures.0 in
    omega (arith, z, c.requires.marks_in_bounds, c.well_formed)

pub fill-p-requires : goal.fill-p-requires
fill-p-requires c =
    let z = area_total c.args.v c.args.alignment c.args.text.now c.args.marks.now c.args.spare c.spaces_before-b.result c.requires.spare c.spaces_before-b.ensures.0 in
    omega (arith, z, c.requires.marks_in_bounds)

pub copy-q-requires : goal.copy-q-requires
copy-q-requires c =
    let z = area_total c.args.v c.args.alignment c.args.text.now c.args.marks.now c.args.spare c.spaces_before-b.result c.requires.spare c.spaces_before-b.ensures.0 in
    omega (arith, z, c.requires.marks_in_bounds, c.fill-p.ensures.value, c.fill-p.auto.dst)

pub copy-m-requires : goal.copy-m-requires
copy-m-requires c =
    let z = area_total c.args.v c.args.alignment c.args.text.now c.args.marks.now c.args.spare c.spaces_before-b.result c.requires.spare c.spaces_before-b.ensures.0 in
    omega (arith, z, c.requires.marks_in_bounds, c.fill-p.ensures.value, c.fill-p.auto.dst, c.copy-q.ensures.value, c.copy-q.auto.dst)

pub overflow_add-spare : goal.overflow_add-spare
overflow_add-spare c =
    let z = area_total c.args.v c.args.alignment c.args.text.now c.args.marks.now c.args.spare c.spaces_before-b.result c.requires.spare c.spaces_before-b.ensures.0 in
    omega (arith, z, c.requires.marks_in_bounds, c.well_formed)

pub fill-requires : goal.fill-requires
fill-requires c =
    let z = area_total c.args.v c.args.alignment c.args.text.now c.args.marks.now c.args.spare c.spaces_before-b.result c.requires.spare c.spaces_before-b.ensures.0 in
    omega (arith, z, c.requires.marks_in_bounds, c.fill-p.ensures.value, c.fill-p.auto.dst, c.copy-q.ensures.value, c.copy-q.auto.dst, c.copy-m.ensures.value, c.copy-m.auto.dst)

pub returns : goal.returns
returns c =
    let z = area_total c.args.v c.args.alignment c.args.text.now c.args.marks.now c.args.spare c.spaces_before-b.result c.requires.spare c.spaces_before-b.ensures.0 in
    let t = c.args.text.now in
    let m = c.args.marks.now in
    record {
      value = omega (arith, z, c.fill.ensures.value, c.copy-m.ensures.value, c.copy-q.ensures.value, c.fill-p.ensures.value);
      page_after = four c.args.page.now c.args.at (replicate (c.args.v.left + c.spaces_before-b.result) 32) t m (replicate (c.args.spare - c.spaces_before-b.result + c.args.v.right) 32)
          c.fill-p.new.dst c.copy-q.new.dst c.copy-m.new.dst c.fill.new.dst c.fill-p.result c.copy-q.result c.copy-m.result
          c.fill-p.ensures.dst_after c.copy-q.ensures.dst_after c.copy-m.ensures.dst_after c.fill.ensures.dst_after
          (omega (arith, c.fill-p.ensures.value, length-replicate {A = ℕ} (c.args.v.left + c.spaces_before-b.result) 32)) (sym c.copy-q.ensures.value) (sym c.copy-m.ensures.value)
          (omega (arith, c.requires.marks_in_bounds))
          ∙ ap (put_at c.args.page.now c.args.at) (area_is c.args.v c.args.alignment t m c.args.spare c.spaces_before-b.result c.requires.spare c.spaces_before-b.ensures.0);
    }
