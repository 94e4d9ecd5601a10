-- One more place of an array is taken. Assumes nothing.
use Prim.Native.Nat.{ℕ, suc, ◌+◌, ◌-◌, ◌<◌}
use mathlib.Core.Path.{◌≡◌, sym, ap, ◌∙◌}
use mathlib.Core.List.{List, [], ◌∷◌, ◌++◌, append_assoc}
use native.Mathlib.Omega.{arith}
use lib.ListN.{length, set, take, replicate, length-append, length-set}
use lib.Seq.{set_at}
use Rattle.std.proofs.lemmas.List.{take_more_set}
use Rattle.rules.specs.Sheet.{most_columns}
use Rattle.rules.specs.Calls.{as_array}
use Rattle.style.specs.Front.{Front, front_len}

-- entries set one after another
pub set_padded : {A : Type 0} (a : A) (n : ℕ) (xs : List A) (v : A) → length xs ≡ n → n < most_columns → set (as_array a xs) n v ≡ as_array a (xs ++ (v ∷ []))
unfolding as_array
set_padded a n xs v k h =
    let m = length-append xs (v ∷ []) in
    let q : most_columns - length xs ≡ suc (most_columns - length (xs ++ (v ∷ []))) = omega arith in
    rw q (set_at xs a (replicate (most_columns - length (xs ++ (v ∷ []))) a) v n k)
    ∙ sym (append_assoc xs (v ∷ []) (replicate (most_columns - length (xs ++ (v ∷ []))) a))

pub front_more : {A : Type 0} (a : A) (n : ℕ) (places : List A) (v : A) → n < most_columns → Front a n places → Front a (n + 1) (set places n v)
front_more a n places v h F = record {
  fits = omega arith;
  whole = length-set places n v ∙ F.whole;
  same =
      ap (as_array a) (take_more_set places n v (omega (arith, F.whole)))
      ∙ sym (set_padded a n (take n places) v (front_len a n places F) h)
      ∙ ap (λ l. set l n v) F.same;
}
