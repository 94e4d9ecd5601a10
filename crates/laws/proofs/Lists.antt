-- Every entry of a list. Assumes nothing.
use Prim.Native.Nat.{ℕ, zero, suc, ◌+◌, ◌≤◌, ◌<◌, max}
use mathlib.Core.Path.{◌≡◌, refl, ap, sym, ◌∙◌}
use mathlib.Core.List.{List, [], ◌∷◌, ◌++◌, map, append_assoc, append-nil}
use mathlib.Core.Bool.{Bool, true, false}
use native.Mathlib.Nat.{not-suc-le-zero, le_of_suc-le-suc}
use native.Mathlib.Omega.{arith}
use lib.ListN.{length, get_or, take, drop, replicate}
use Rattle.rules.specs.Text.{greatest, up_from, keep, flat, All}

-- of all that f makes
pub all_map : {A B : Type 0} (P : B → Type 0) (f : A → B) → ((x : A) → P (f x)) → (xs : List A) → All P (map f xs)
all_map P f h [] = tt
all_map P f h (x ∷ xs) = (h x, all_map P f h xs)

-- of whatever there is
pub all_of : {A : Type 0} (P : A → Type 0) → ((x : A) → P x) → (xs : List A) → All P xs
all_of P h [] = tt
all_of P h (x ∷ xs) = (h x, all_of P h xs)

-- an entry that is there has it
pub all_get_d : {A : Type 0} (P : A → Type 0) (xs : List A) (i : ℕ) (d : A) → i < length xs → All P xs → P (get_or xs i d)
all_get_d P [] i d k h = absurd (not-suc-le-zero k)
all_get_d P (x ∷ xs) zero d k h = h.0
all_get_d P (x ∷ xs) (suc i) d k h = all_get_d P xs i d (le_of_suc-le-suc k) h.1

-- where the default has the property too, every place has it
pub all_default : {A : Type 0} (P : A → Type 0) (xs : List A) (i : ℕ) (d : A) → P d → All P xs → P (get_or xs i d)
all_default P [] i d k h = k
all_default P (x ∷ xs) zero d k h = h.0
all_default P (x ∷ xs) (suc i) d k h = all_default P xs i d k h.1

-- a property that follows from another
pub all_imp : {A : Type 0} (P Q : A → Type 0) → ((x : A) → P x → Q x) → (xs : List A) → All P xs → All Q xs
all_imp P Q f [] h = tt
all_imp P Q f (x ∷ xs) h = (f x h.0, all_imp P Q f xs h.1)

-- of what f makes of good entries
pub all-map_imp : {A B : Type 0} (P : A → Type 0) (Q : B → Type 0) (f : A → B) → ((x : A) → P x → Q (f x)) → (xs : List A) → All P xs → All Q
    (map f xs)
all-map_imp P Q f g [] h = tt
all-map_imp P Q f g (x ∷ xs) h = (g x h.0, all-map_imp P Q f g xs h.1)

-- of all from which f makes something with the property
pub all_unmap : {A B : Type 0} (P : B → Type 0) (f : A → B) (xs : List A) → All P (map f xs) → All (λ x. P (f x)) xs
all_unmap P f [] h = tt
all_unmap P f (x ∷ xs) h = (h.0, all_unmap P f xs h.1)

-- of two lists, one after the other
pub all_append : {A : Type 0} (P : A → Type 0) (xs ys : List A) → All P xs → All P ys → All P (xs ++ ys)
all_append P [] ys h k = k
all_append P (x ∷ xs) ys h k = (h.0, all_append P xs ys h.1 k)

-- and of the second of them
pub all_left : {A : Type 0} (P : A → Type 0) (xs ys : List A) → All P (xs ++ ys) → All P xs
all_left P [] ys h = tt
all_left P (x ∷ xs) ys h = (h.0, all_left P xs ys h.1)

pub all_right : {A : Type 0} (P : A → Type 0) (xs ys : List A) → All P (xs ++ ys) → All P ys
all_right P [] ys h = h
all_right P (x ∷ xs) ys h = all_right P xs ys h.1

-- from every place
pub all_places : {A : Type 0} (P : A → Type 0) (xs : List A) (d : A) → ((i : ℕ) → i < length xs → P (get_or xs i d)) → All P xs
all_places P [] d h = tt
all_places P (x ∷ xs) d h = (h 0 (omega arith), all_places P xs d (λ i l. h (suc i) (omega arith)))

-- of a first part
pub all_take : {A : Type 0} (P : A → Type 0) (n : ℕ) (xs : List A) → All P xs → All P (take n xs)
all_take P zero xs h = tt
all_take P (suc n) [] h = tt
all_take P (suc n) (x ∷ xs) h = (h.0, all_take P n xs h.1)

-- of a last part
pub all_drop : {A : Type 0} (P : A → Type 0) (n : ℕ) (xs : List A) → All P xs → All P (drop n xs)
all_drop P zero xs h = h
all_drop P (suc n) [] h = tt
all_drop P (suc n) (x ∷ xs) h = all_drop P n xs h.1

-- of one entry, many times
pub all_replicate : {A : Type 0} (P : A → Type 0) (x : A) (n : ℕ) → P x → All P (replicate n x)
all_replicate P x zero h = tt
all_replicate P x (suc n) h = (h, all_replicate P x n h)

-- of lists that f makes of good entries, put one after another
pub all-flat : {A B : Type 0} (P : A → Type 0) (Q : B → Type 0) (f : A → List B) → ((x : A) → P x → All Q (f x)) → (xs : List A) → All P xs → All Q
    (flat (map f xs))
unfolding flat
all-flat P Q f g [] h = tt
all-flat P Q f g (x ∷ xs) h = all_append Q (f x) (flat (map f xs)) (g x h.0) (all-flat P Q f g xs h.1)

-- lists of lists, one after the other
pub flat_append : {A : Type 0} (xs ys : List (List A)) → flat (xs ++ ys) ≡ flat xs ++ flat ys
unfolding flat
flat_append [] ys = refl
flat_append (x ∷ xs) ys = rw (flat_append xs ys) (sym (append_assoc x (flat xs) (flat ys)))

-- an entry that is there, whatever stands past the end
pub get_d_map : {A B : Type 0} (f : A → B) (xs : List A) (i : ℕ) (a : A) (b : B) → i < length xs → get_or (map f xs) i b ≡ f (get_or xs i a)
get_d_map f [] i a b h = absurd (not-suc-le-zero h)
get_d_map f (x ∷ xs) zero a b h = refl
get_d_map f (x ∷ xs) (suc i) a b h = get_d_map f xs i a b (le_of_suc-le-suc h)

-- f on two lists, one after the other
pub map-append : {A B : Type 0} (f : A → B) (xs ys : List A) → map f (xs ++ ys) ≡ map f xs ++ map f ys
map-append f [] ys = refl
map-append f (x ∷ xs) ys = ap (λ l. f x ∷ l) (map-append f xs ys)

pub map-flat : {A B : Type 0} (f : A → B) (xs : List (List A)) → map f (flat xs) ≡ flat (map (map f) xs)
unfolding flat
map-flat f [] = refl
map-flat f (x ∷ xs) = map-append f x (flat xs) ∙ ap (λ l. map f x ++ l) (map-flat f xs)

-- the greatest of two lists, one after the other
pub greatest-append : (xs ys : List ℕ) → greatest (xs ++ ys) ≡ max (greatest xs) (greatest ys)
unfolding greatest
greatest-append [] ys = omega arith
greatest-append (x ∷ xs) ys = omega (arith, greatest-append xs ys)

-- no entry is above the greatest
pub le-greatest : {A : Type 0} (f : A → ℕ) (xs : List A) (i : ℕ) (a : A) → i < length xs → f (get_or xs i a) ≤ greatest (map f xs)
unfolding greatest
le-greatest f [] i a h = absurd (not-suc-le-zero h)
le-greatest f (x ∷ xs) zero a h = omega arith
le-greatest f (x ∷ xs) (suc i) a h = omega (arith, le-greatest f xs i a (le_of_suc-le-suc h))

-- those that pass a test keep their properties
pub all_keep : {A : Type 0} (P : A → Type 0) (p : A → Bool) (xs : List A) → All P xs → All P (keep p xs)
unfolding keep
all_keep P p [] h = tt
all_keep {A} P p (x ∷ xs) h = go (p x) (all_keep P p xs h.1)
  where
    go : (b : Bool) → All P (keep p xs) → All P (elim b as (λ c. List A) [ true ↦ x ∷ keep p xs | false ↦ keep p xs ])
    go true i = (h.0, i)
    go false i = i

-- as many numbers as asked for
pub length-up_from : (i n : ℕ) → length (up_from i n) ≡ n
unfolding up_from
length-up_from i zero = refl
length-up_from i (suc n) = ap suc (length-up_from (suc i) n)

-- number k of them
pub get_d-up_from : (i n k d : ℕ) → k < n → get_or (up_from i n) k d ≡ i + k
unfolding up_from
get_d-up_from i zero k d h = absurd (not-suc-le-zero h)
get_d-up_from i (suc n) zero d h = omega arith
get_d-up_from i (suc n) (suc k) d h = get_d-up_from (suc i) n k d (le_of_suc-le-suc h) ∙ omega arith

-- two functions that agree below m
pub map_below : {B : Type 0} (f g : ℕ → B) (i n m : ℕ) → i + n ≤ m → ((k : ℕ) → k < m → f k ≡ g k) → map f (up_from i n) ≡ map g (up_from i n)
unfolding up_from
map_below f g i zero m l h = refl
map_below f g i (suc n) m l h =
    let e = h i (omega arith) in
    let r = map_below f g (suc i) n m (omega arith) h in
    cc

-- counting from one more
pub map_shift : {B : Type 0} (f : ℕ → B) (i n : ℕ) → map f (up_from (suc i) n) ≡ map (λ k. f (suc k)) (up_from i n)
unfolding up_from
map_shift f i zero = refl
map_shift f i (suc n) = let r = map_shift f (suc i) n in cc

-- all below m
pub below-up_from : (i n m : ℕ) → i + n ≤ m → All (λ j. j < m) (up_from i n)
unfolding up_from
below-up_from i zero m l = tt
below-up_from i (suc n) m l = (omega arith, below-up_from (suc i) n m (omega arith))

-- a property of i, i + 1, .. below i + n
pub all-up_from : {B : Type 0} (P : B → Type 0) (f : ℕ → B) (i n m : ℕ) → i + n ≤ m → ((j : ℕ) → j < m → P (f j)) → All P (map f (up_from i n))
unfolding up_from
all-up_from P f i zero m l h = tt
all-up_from P f i (suc n) m l h = (h i (omega arith), all-up_from P f (suc i) n m (omega arith) h)

-- one number more at the end: for a loop over the columns
pub up_from-last : (i n : ℕ) → up_from i (suc n) ≡ up_from i n ++ ((i + n) ∷ [])
unfolding up_from
up_from-last i zero = let e : i + 0 ≡ i = omega arith in rw e
up_from-last i (suc n) = let e : i + suc n ≡ suc i + n = omega arith in ap (λ l. i ∷ l) (up_from-last (suc i) n ∙ rw e)

-- what passes of two lists
pub keep_append : {A : Type 0} (p : A → Bool) (xs ys : List A) → keep p (xs ++ ys) ≡ keep p xs ++ keep p ys
unfolding keep
keep_append p [] ys = refl
keep_append {A} p (x ∷ xs) ys = go (p x) (keep_append p xs ys)
  where
    go : (b : Bool) → keep p (xs ++ ys) ≡ keep p xs ++ keep p ys
        → ◌≡◌ {A = List A} (elim b [ true ↦ x ∷ keep p (xs ++ ys) | false ↦ keep p (xs ++ ys) ])
        ((elim b as (λ c. List A) [ true ↦ x ∷ keep p xs | false ↦ keep p xs ]) ++ keep p ys)
    go true ih = ap (λ l. x ∷ l) ih
    go false ih = ih

one_yes : (p : ℕ → Bool) (n : ℕ) → p n ≡ true → keep p (n ∷ []) ≡ n ∷ []
unfolding keep
one_yes p n h = rw (h, keep)

one_no : (p : ℕ → Bool) (n : ℕ) → p n ≡ false → keep p (n ∷ []) ≡ []
unfolding keep
one_no p n h = rw (h, keep)

-- column n joins the kept ones where it passes, and only there
pub keep_yes : (p : ℕ → Bool) (n : ℕ) → p n ≡ true → keep p (up_from 0 (suc n)) ≡ keep p (up_from 0 n) ++ (n ∷ [])
keep_yes p n h = let e : 0 + n ≡ n = omega arith in rw (up_from-last 0 n, e) (keep_append p (up_from 0 n) (n ∷ []) ∙ rw (one_yes p n h))

-- and column n stays out where it fails
pub keep_no : (p : ℕ → Bool) (n : ℕ) → p n ≡ false → keep p (up_from 0 (suc n)) ≡ keep p (up_from 0 n)
keep_no p n h = let e : 0 + n ≡ n = omega arith in rw (up_from-last 0 n, e) (keep_append p (up_from 0 n) (n ∷ []) ∙ rw (one_no p n h, append-nil))

-- two tests, in either order
pub keep_swap : {A : Type 0} (p q : A → Bool) (xs : List A) → keep p (keep q xs) ≡ keep q (keep p xs)
unfolding keep
keep_swap p q [] = refl
keep_swap {A} p q (x ∷ xs) = go (p x) (q x) refl refl (keep_swap p q xs)
  where
    go : (a b : Bool) → p x ≡ a → q x ≡ b → keep p (keep q xs) ≡ keep q (keep p xs)
        → keep p (elim b as (λ c. List A) [ true ↦ x ∷ keep q xs | false ↦ keep q xs ])
        ≡ keep q (elim a as (λ c. List A) [ true ↦ x ∷ keep p xs | false ↦ keep p xs ])
    go true true e f h = rw (e, f, keep, h)
    go true false e f h = rw (f, keep, h)
    go false true e f h = rw (e, keep, h)
    go false false e f h = h
