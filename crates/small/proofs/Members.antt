-- Tables that are not of the family, and tables that are. Assumes nothing.
use Prim.Native.Nat.{ℕ, ◌≤◌}
use mathlib.Core.Path.{◌≡◌, refl}
use mathlib.Core.Logic.{◌⊎◌, inl, inr}
use mathlib.Core.List.{List, []}
use native.Mathlib.Omega.{arith}
use Rattle.rules.specs.Quote.{ascii}
use Rattle.rules.specs.Sheet.{no_column}
use Rattle.laws.proofs.Lists.{all_replicate}
use Rattle.small.specs.Family.{Letter, SmallText, SmallColumn, SmallCell}
use Rattle.small.specs.Listing.{cell_of, table_of}
use Rattle.small.specs.Examples.{Outsiders, Members}

pub one-or_two : (n : ℕ) → (n ≡ 1) ⊎ (n ≡ 2) → (1 ≤ n) × (n ≤ 2)
one-or_two n (inl e) = (omega (arith, e), omega (arith, e))
one-or_two n (inr e) = (omega (arith, e), omega (arith, e))

letter-b : Letter 98 → ⊥
letter-b (inl e) = omega (arith, e)
letter-b (inr e) = omega (arith, e)

pub outsiders : Outsiders
unfolding table_of
outsiders = record {
  none = λ h. let n = one-or_two 0 h.columns in omega (arith, n.0);
  three = λ h. let n = one-or_two 3 h.columns in omega (arith, n.1);
  five = λ h. let l = h.rows.0.each.0.texts.0.length in omega (arith, l);
  letter = λ h. letter-b h.rows.0.each.0.texts.0.letters.1.0;
  target = λ h. let w = h.target in omega (arith, w);
  style = λ h. let b = h.style.0 in omega (arith, b);
  cell = λ h. let n = h.rows.0.cells in omega (arith, n);
}

pub small-cell : (x : List ℕ) → SmallText x → SmallCell (cell_of x)
small-cell x h = record { delimiter = refl; alignment = refl; one_line = refl; texts = (h, tt) }

pub small-column : SmallColumn no_column
small-column = record { left = refl; right = refl; delimiter = refl; alignment = refl; constraint = refl }

no_text : SmallText []
no_text = record { length = omega arith; letters = tt }

aaaa : SmallText (ascii "aaaa")
aaaa = record { length = omega arith; letters = (inr refl, (inr refl, (inr refl, (inr refl, tt)))) }

space-a : SmallText (ascii " a")
space-a = record { length = omega arith; letters = (inl refl, (inr refl, tt)) }

pub members : Members
unfolding table_of
members = record {
  one = record {
    edition = refl;
    columns = inl refl;
    each_column = (small-column, tt);
    style = all_replicate (λ b. b ≡ 0) 0 22 refl;
    delimiter = refl;
    indicator = refl;
    header = refl;
    one_row = refl;
    rows = (record { limit = refl; cells = refl; each = (small-cell [] no_text, tt) }, tt);
    arrangement = omega arith;
    target = omega arith;
  };
  two = record {
    edition = refl;
    columns = inr refl;
    each_column = (small-column, (small-column, tt));
    style = all_replicate (λ b. b ≡ 0) 0 22 refl;
    delimiter = refl;
    indicator = refl;
    header = refl;
    one_row = refl;
    rows = (
      record {
        limit = refl;
        cells = refl;
        each = (small-cell (ascii "aaaa") aaaa, (small-cell (ascii " a") space-a, tt));
      },
      tt,
    );
    arrangement = omega arith;
    target = omega arith;
  };
}
