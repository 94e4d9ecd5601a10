-- A line that was printed is one of few. Assumes nothing.
use Prim.Native.Nat.{ℕ, ◌<◌}
use mathlib.Core.Path.{◌≡◌, refl}
use mathlib.Core.List.{List}
use mathlib.Core.Bool.{Bool, true, false}
use native.Mathlib.Omega.{arith}
use lib.Dec.{ltb}
use borrow.Author.Tests.{ltb-true}
use Rattle.rules.specs.Sheet.{Table}
use Rattle.rules.specs.Field.{Read, got, refused}
use Rattle.rules.specs.Format.{sheet}
use Rattle.rules.specs.Limits.{most_lines}
use Rattle.rules.specs.Page.{line_at, line_count}
use Rattle.rules.specs.Calls.{Written, put, not_printed, print_line, print_line_of}
use Rattle.laws.proofs.Accepted.{refused_number, accepted_limits}
use Rattle.laws.proofs.Counts.{line-count-bound}

-- a printed line is one of the page's, which are few
pub printed_few : (s : List ℕ) (k : ℕ) (b : List ℕ) → (print_line s k b).answer.number ≡ 0 → k < most_lines
unfolding print_line print_line_of
printed_few s k b e = go (sheet s) refl e
  where
    go : (y : Read Table) → sheet s ≡ y → (print_line_of y k b).answer.number ≡ 0 → k < most_lines
    go (got t p) i j = within (ltb k (line_count t)) refl j
      where
        within : (x : Bool) → ltb k (line_count t) ≡ x
            → (elim x as (λ y. Written) [ true ↦ put (line_at t k) b | false ↦ not_printed 21 (line_count t) b ]).answer.number ≡ 0 → k < most_lines
        within true h l = omega (arith, ltb-true k (line_count t) h, line-count-bound t (accepted_limits s t p i))
        within false h l = absurd (omega (arith, l))
    go (refused n p) i j = let h = refused_number s n p i in absurd (omega arith)
