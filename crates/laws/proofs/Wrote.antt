-- A printed page is the page that the rules draw; the house grid is readable. Assumes nothing.
use Prim.Native.Nat.{ℕ}
use mathlib.Core.Path.{◌≡◌, refl}
use mathlib.Core.List.{List}
use mathlib.Core.Bool.{Bool, true, false}
use native.Mathlib.Omega.{arith}
use lib.ListN.{length, take, drop}
use lib.Seq.{take-append_seam}
use lib.Dec.{leb}
use Rattle.rules.specs.Sheet.{Table}
use Rattle.rules.specs.Page.{page}
use Rattle.rules.specs.Calls.{put_or, put, print_of, print_page, over, not_printed, Written}
use Rattle.rules.specs.Words.{Accepted, wrote, Answered, Readable}
use Rattle.rules.specs.Examples.{grid}

put-wrote : (l b : List ℕ) → (put l b).answer.number ≡ 0 → take (put l b).answer.written (put l b).buffer ≡ l
unfolding put_or
put-wrote l b = go (leb (length l) (length b))
  where
    done : Bool → Written
    done x = elim x [
      | true ↦ record { answer = record { number = 0; place = 0; written = length l }; buffer = over l b }
      | false ↦ not_printed 20
          (length l) b
    ]

    go : (x : Bool) → (done x).answer.number ≡ 0 → take (done x).answer.written (done x).buffer ≡ l
    go true e = take-append_seam l (drop (length l) b)
    go false e = absurd (omega arith)

pub wrote-page : (s b : List ℕ) (t : Table) → Accepted s t → Answered s b → wrote s b ≡ page t
unfolding print_page print_of
wrote-page s b t a n =
    let e = a.reads in
    let m : (put (page t) b).answer.number ≡ 0 = rw e at n in
    rw e (put-wrote (page t) b m)

pub grid_readable : Readable grid
grid_readable = record {
  top_left = omega arith;
  top_fill = omega arith;
  top_junction = omega arith;
  top_right = omega arith;
  top = omega arith;
  header_rule_shown = refl;
  row_rule_shown = refl;
  fills = omega arith;
  header_header = omega arith;
  header_row = omega arith;
  content_header = omega arith;
  content_row = omega arith;
}
