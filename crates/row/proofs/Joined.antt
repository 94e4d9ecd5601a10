-- Parts one after another, with a junction between each two: what is built column by column is what the document joins. Assumes nothing.
use Prim.Native.Nat.{ℕ, zero, suc, ◌+◌, ◌<◌}
use mathlib.Core.Path.{◌≡◌, refl, sym, ap, ◌∙◌}
use mathlib.Core.List.{List, [], ◌∷◌, ◌++◌, map, append_assoc, append-nil}
use mathlib.Core.Bool.{Bool, true, false}
use native.Mathlib.Omega.{arith}
use lib.ListN.{length, get_or, length-map}
use Rattle.rules.specs.Text.{up_from}
use Rattle.rules.specs.Style.{glyph}
use Rattle.rules.specs.Page as page
use Rattle.rules.specs.Page.{joined, joined_more}
use Rattle.laws.proofs.Lists.{up_from-last, length-up_from}
use Rattle.std.specs.Prelude.{Option}
use Rattle.std.specs.Bool.{then_some}
use Rattle.buffer.specs.Put.{build, drawn, lead}

more_snoc : (j : List ℕ) (ps : List (List ℕ)) (p : List ℕ) → joined_more j (ps ++ (p ∷ [])) ≡ joined_more j ps ++ (j ++ p)
unfolding joined_more
more_snoc j [] p = rw append-nil
more_snoc j (q ∷ ps) p = rw (more_snoc j ps p) (simp append_assoc)

joined_snoc : (b : Option ℕ) (ps : List (List ℕ)) (p : List ℕ) → joined (drawn b) (ps ++ (p ∷ [])) ≡ joined (drawn b) ps ++
    (drawn (lead (length ps) b) ++ p)
unfolding joined joined_more
joined_snoc b [] p = rw append-nil
joined_snoc b (q ∷ ps) p = rw (more_snoc (drawn b) ps p) (simp append_assoc)

pub map_snoc : {A B : Type 0} (f : A → B) (xs : List A) (x : A) → map f (xs ++ (x ∷ [])) ≡ map f xs ++ (f x ∷ [])
map_snoc f [] x = refl
map_snoc f (y ∷ xs) x = ap (λ l. f y ∷ l) (map_snoc f xs x)

length_up : (n : ℕ) (f : ℕ → List ℕ) → length (map f (up_from 0 n)) ≡ n
length_up n f = length-map (up_from 0 n) f ∙ length-up_from 0 n

none-joined : (b : Option ℕ) (f : ℕ → List ℕ) → [] ≡ joined (drawn b) (map f (up_from 0 0))
unfolding joined up_from
none-joined b f = refl

pub build-joined : (b : Option ℕ) (f : ℕ → List ℕ) (n : ℕ) → build (λ i. drawn (lead i b) ++ f i) n ≡ joined (drawn b) (map f (up_from 0 n))
build-joined b f zero = none-joined b f
build-joined b f (suc n) =
    let z : 0 + n ≡ n = omega arith in
    let e : map f (up_from 0 (suc n)) ≡ map f (up_from 0 n) ++ (f n ∷ []) = ap (map f) (up_from-last 0 n ∙ ap (λ m. up_from 0 n ++ (m ∷ [])) z) ∙ map_snoc
    f (up_from 0 n) n in
    ap (λ l. l ++ (drawn (lead n b) ++ f n)) (build-joined b f n)
    ∙ sym (joined_snoc b (map f (up_from 0 n)) (f n) ∙ ap (λ m. joined (drawn b) (map f (up_from 0 n)) ++ (drawn (lead m b) ++ f n))
    (length_up n f))
    ∙ ap (joined (drawn b)) (sym e)

pub map-map : {A B C : Type 0} (f : A → B) (g : B → C) (xs : List A) → map g (map f xs) ≡ map (λ x. g (f x)) xs
map-map f g [] = refl
map-map f g (x ∷ xs) = ap (λ l. g (f x) ∷ l) (map-map f g xs)

-- a list by its entries' numbers
from : {A B : Type 0} (f : A → B) (d : A) (ys xs : List A) (i : ℕ) → ((k : ℕ) → get_or ys (i + k) d ≡ get_or xs k d) → map f xs ≡ map
    (λ k. f (get_or ys k d)) (up_from i (length xs))
unfolding up_from
from f d ys [] i h = refl
from f d ys (x ∷ xs) i h =
    let z : i + 0 ≡ i = omega arith in
    let a : get_or ys i d ≡ x = sym (ap (λ n. get_or ys n d) z) ∙ h 0 in
    let r = from f d ys xs (suc i) (λ k. ap (λ n. get_or ys n d) (omega arith) ∙ h (suc k)) in
    rw a (ap (λ l. f x ∷ l) r)

pub map_numbered : {A B : Type 0} (f : A → B) (d : A) (xs : List A) → map f xs ≡ map (λ k. f (get_or xs k d)) (up_from 0 (length xs))
map_numbered f d xs = from f d xs xs 0 (λ k. ap (λ n. get_or xs n d) (omega arith))

pub build-same : (f g : ℕ → List ℕ) (n : ℕ) → ((i : ℕ) → i < n → f i ≡ g i) → build f n ≡ build g n
build-same f g zero h = refl
build-same f g (suc n) h = let a = build-same f g n (λ i l. h i (omega arith)) in let b = h n (omega arith) in cc

pub edge_same : (b : Bool) (c : ℕ) → drawn (then_some b (glyph c)) ≡ page.edge b c
edge_same true c = refl
edge_same false c = refl
