-- Widths placed one after another, each by its column and what was noted there. Assumes nothing.
use Prim.Native.Nat.{ℕ, zero, suc, ◌+◌, ◌-◌, ◌≤◌, ◌<◌}
use mathlib.Core.Path.{◌≡◌, refl, sym, ap, ◌∙◌}
use mathlib.Core.List.{List, [], ◌∷◌, ◌++◌, map}
use native.Mathlib.Nat.{not-suc-le-zero}
use native.Mathlib.Omega.{arith}
use lib.ListN.{length, get_or, take, drop, set, replicate, length-set, length-take, length-drop, length-map, get_or-replicate, take-append-drop, length-replicate}
use lib.Seq.{get_or-set_same, get_or-set_other, get_or-take, get_or-drop, ext_get_or}
use Rattle.rules.specs.Text.{up_from}
use Rattle.rules.specs.Calls.{as_array}
use Rattle.rules.specs.Sheet.{most_columns}
use Rattle.laws.proofs.Lists.{get_d_map, get_d-up_from, length-up_from, up_from-last, map-append}
use Rattle.arrangement.proofs.Cases.{by_place}

-- one number more
pub map_last : {A : Type 0} (f : ℕ → A) (n : ℕ) → map f (up_from 0 (suc n)) ≡ map f (up_from 0 n) ++ (f n ∷ [])
map_last f n = let e : 0 + n ≡ n = omega arith in rw (up_from-last, e) (map-append f (up_from 0 n) (n ∷ []))

-- the first n places hold f of the place and of what stood there
unfoldable pub placed : (ℕ → ℕ → ℕ) → ℕ → List ℕ → List ℕ
placed f zero ws = ws
placed f (suc n) ws = set (placed f n ws) n (f n (get_or (placed f n ws) n 0))

module _ (f : ℕ → ℕ → ℕ) (ws : List ℕ) where
  pub length-placed : (n : ℕ) → length (placed f n ws) ≡ length ws
  unfolding placed
  length-placed zero = refl
  length-placed (suc n) = length-set (placed f n ws) n _ ∙ length-placed n

  pub placed_above : (n j : ℕ) → n ≤ j → get_or (placed f n ws) j 0 ≡ get_or ws j 0
  unfolding placed
  placed_above zero j h = refl
  placed_above (suc n) j h = get_or-set_other (placed f n ws) n j _ 0 (λ e. omega arith) ∙ placed_above n j (omega arith)

  placed_below : (n j : ℕ) → n ≤ length ws → j < n → get_or (placed f n ws) j 0 ≡ f j (get_or ws j 0)
  unfolding placed
  placed_below zero j l h = absurd (not-suc-le-zero h)
  placed_below (suc n) j l h =
      let i = placed_below n j (omega arith) in
      by_place (λ (k : ℕ). (k < n → get_or (placed f n ws) k 0 ≡ f k (get_or ws k 0)) → k < suc n → get_or (placed f (suc n) ws) k 0 ≡ f k (get_or ws k 0)) j n
      (λ p q. get_or-set_same (placed f n ws) n _ 0 (omega (arith, length-placed n)) ∙ ap (f n) (placed_above n n (omega arith)))
      (λ m p q. get_or-set_other (placed f n ws) n j _ 0 m ∙ p (omega arith)) i h

  pub placed-take : (n : ℕ) → n ≤ length ws → take n (placed f n ws) ≡ map (λ j. f j (get_or ws j 0)) (up_from 0 n)
  placed-take n l =
      let k : length (take n (placed f n ws)) ≡ n = length-take n (placed f n ws) ∙ omega (arith, length-placed n) in
      let m : length (map (λ j. f j (get_or ws j 0)) (up_from 0 n)) ≡ n = length-map (up_from 0 n) (λ j. f j (get_or ws j 0)) ∙ length-up_from 0 n in
      ext_get_or 0 (take n (placed f n ws)) (map (λ j. f j (get_or ws j 0)) (up_from 0 n)) (k ∙ sym m)
      (λ j h. (let q : j < n = omega arith in
      let there = get_d_map (λ j. f j (get_or ws j 0)) (up_from 0 n) j 0 0 (omega (arith, length-up_from 0 n)) in
      let number = get_d-up_from 0 n j 0 q ∙ omega arith in
      get_or-take n (placed f n ws) j 0 q ∙ placed_below n j l q ∙ sym (there ∙ ap (λ (x : ℕ). f x (get_or ws x 0)) number)))

-- as many widths as there can be columns, of which those past the columns are 0
pub padded_as : (n : ℕ) (ws cs : List ℕ) → length ws ≡ most_columns → n ≤ most_columns → take n ws ≡ cs → ((j : ℕ) → n ≤ j → get_or ws j 0 ≡ 0) → ws ≡ as_array 0 cs
unfolding as_array
padded_as n ws cs l h e p =
    let k : length cs ≡ n = ap length (sym e) ∙ length-take n ws ∙ omega arith in
    let a : drop n ws ≡ replicate (most_columns - length cs) 0 =
    ext_get_or 0 (drop n ws) (replicate (most_columns - length cs) 0) (length-drop n ws ∙ omega (arith, length-replicate {A = ℕ} (most_columns - length cs) 0))
    (λ i q. get_or-drop n ws i 0 ∙ p (n + i) (omega arith) ∙ sym (get_or-replicate (most_columns - length cs) i 0 0 (omega (arith, length-drop n ws)))) in
    sym (take-append-drop n ws) ∙ rw (e, a)
