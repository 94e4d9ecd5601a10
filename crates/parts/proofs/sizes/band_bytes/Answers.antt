use native.Mathlib.Omega.{arith}
use Prim.Native.Nat.{◌-◌, ◌<◌}
use mathlib.Core.Path.{◌≡◌, refl, sym, ◌∙◌}
use Rattle.table.proofs.Walks.{cells_inside}
use Rattle.parts.proofs.Parts.{accepted_short}
use Rattle.parts.proofs.Bands.{bytes-none, bytes-plain, bytes-held, bytes-shown, bytes_few, bytes_most}
use Rattle.parts.proofs.sizes.band_bytes.Goals as goal

pub overflow_mul-result : goal.overflow_mul-result
overflow_mul-result c =
    omega (
      arith,
      bytes-plain c.args.p.now.sheet.now c.args.p.now.info.columns.items c.args.style c.args.here c.args.p.now.info.plain c.args.size c.requires.known.1
          c.if-p.true c.args.n c.requires.counted,
      bytes_most c.args.p.now.sheet.now c.args.p.now.info.columns.items c.args.style c.args.here c.args.p.now.info.plain c.args.size c.requires.known.1,
    )

pub returns-then-p : goal.returns-then-p
returns-then-p c = bytes-plain c.args.p.now.sheet.now c.args.p.now.info.columns.items c.args.style c.args.here c.args.p.now.info.plain c.args.size c.requires.known.1 c.if-p.true c.args.n c.requires.counted

pub returns-then-here-eq0 : goal.returns-then-here-eq0
returns-then-here-eq0 c = bytes-none c.args.p.now.sheet.now c.args.p.now.info.columns.items c.args.style c.args.here c.args.p.now.info.plain c.args.size c.requires.known.1 c.if-here-eq0.true

pub overflow_mul-result-then-r-eq0 : goal.overflow_mul-result-then-r-eq0
overflow_mul-result-then-r-eq0 c =
    let some : 0 < c.args.here.left = omega (arith, c.if-here-eq0.false) in
    let r = rw c.row_of-row.ensures.sheet at c.row-r.ensures in
    omega (
      arith,
      bytes-held c.args.p.now.sheet.now c.args.p.now.info.columns.items c.args.style c.args.here c.args.p.now.info.plain c.args.size c.requires.known.1 some
          (sym r.limit ∙ c.if-r-eq0.true) c.args.n _ c.requires.counted refl,
      bytes_most c.args.p.now.sheet.now c.args.p.now.info.columns.items c.args.style c.args.here c.args.p.now.info.plain c.args.size c.requires.known.1,
    )

pub row_pairs-requires : goal.row_pairs-requires
row_pairs-requires c =
    let some : 0 < c.args.here.left = omega (arith, c.if-here-eq0.false) in rw (c.row_of-row.ensures.sheet, c.row_of-row.ensures.columns) (
      c.args.p.now.opened.rising,
      (
        cells_inside c.args.p.now.sheet.now c.args.here c.row-r.result some c.requires.known.0.ends (rw c.row_of-row.ensures.sheet at c.row-r.ensures),
        accepted_short c.args.p.now.sheet.now c.args.p.now.opened.passes,
      ),
    )

pub overflow_add-result : goal.overflow_add-result
overflow_add-result c =
    let some : 0 < c.args.here.left = omega (arith, c.if-here-eq0.false) in
    let r = rw c.row_of-row.ensures.sheet at c.row-r.ensures in
    omega (
      arith,
      bytes-held c.args.p.now.sheet.now c.args.p.now.info.columns.items c.args.style c.args.here c.args.p.now.info.plain c.args.size c.requires.known.1 some
          (sym r.limit ∙ c.if-r-eq0.true) c.args.n _ c.requires.counted (rw (c.row_of-row.ensures.sheet, r.cells, c.row_of-row.ensures.columns) at c.row_pairs.ensures.0),
      bytes_most c.args.p.now.sheet.now c.args.p.now.info.columns.items c.args.style c.args.here c.args.p.now.info.plain c.args.size c.requires.known.1,
    )

pub returns-then-r-eq0 : goal.returns-then-r-eq0
returns-then-r-eq0 c =
    let some : 0 < c.args.here.left = omega (arith, c.if-here-eq0.false) in
    let r = rw c.row_of-row.ensures.sheet at c.row-r.ensures in
    bytes-held c.args.p.now.sheet.now c.args.p.now.info.columns.items c.args.style c.args.here c.args.p.now.info.plain c.args.size c.requires.known.1 some
    (sym r.limit ∙ c.if-r-eq0.true) c.args.n _ c.requires.counted (rw (c.row_of-row.ensures.sheet, r.cells, c.row_of-row.ensures.columns) at c.row_pairs.ensures.0)

pub overflow_mul-result-2 : goal.overflow_mul-result-2
overflow_mul-result-2 c =
    let some : 0 < c.args.here.left = omega (arith, c.if-here-eq0.false) in
    omega (
      arith,
      bytes-shown c.args.p.now.sheet.now c.args.p.now.info.columns.items c.args.style c.args.here c.args.p.now.info.plain c.args.size c.requires.known.1 some c.args.n _ c.requires.counted refl,
      bytes_most c.args.p.now.sheet.now c.args.p.now.info.columns.items c.args.style c.args.here c.args.p.now.info.plain c.args.size c.requires.known.1,
    )

pub shown-requires : goal.shown-requires
shown-requires c =
    let some : 0 < c.args.here.left = omega (arith, c.if-here-eq0.false) in (
      c.indicator.ensures.plain,
      (
        omega arith,
        omega (
          arith,
          c.requires.counted,
          bytes_few c.args.p.now.sheet.now c.args.p.now.info.columns.items c.args.style c.args.here c.args.p.now.info.plain
              c.args.size c.requires.known.1 some,
        ),
      ),
    )

pub overflow_add-result-2 : goal.overflow_add-result-2
overflow_add-result-2 c =
    let some : 0 < c.args.here.left = omega (arith, c.if-here-eq0.false) in
    let z : c.args.n - 0 ≡ c.args.n = omega arith in
    omega (
      arith,
      bytes-shown c.args.p.now.sheet.now c.args.p.now.info.columns.items c.args.style c.args.here c.args.p.now.info.plain c.args.size c.requires.known.1 some
          c.args.n _ c.requires.counted (rw (c.indicator.ensures.are, z, c.row_of-row.ensures.sheet, c.row_of-row.ensures.columns, c.row_of-row.ensures.rows) at c.shown.ensures.0),
      bytes_most c.args.p.now.sheet.now c.args.p.now.info.columns.items c.args.style c.args.here c.args.p.now.info.plain c.args.size c.requires.known.1,
    )

pub returns : goal.returns
returns c =
    let some : 0 < c.args.here.left = omega (arith, c.if-here-eq0.false) in
    let z : c.args.n - 0 ≡ c.args.n = omega arith in
    bytes-shown c.args.p.now.sheet.now c.args.p.now.info.columns.items c.args.style c.args.here c.args.p.now.info.plain c.args.size c.requires.known.1 some c.args.n
    _ c.requires.counted (rw (c.indicator.ensures.are, z, c.row_of-row.ensures.sheet, c.row_of-row.ensures.columns, c.row_of-row.ensures.rows) at c.shown.ensures.0)
