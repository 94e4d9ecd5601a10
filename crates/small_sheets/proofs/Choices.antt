-- Lists made by choices: what is in them, that nothing is in them twice, and what has a number. Assumes nothing.
use Prim.Native.Nat.{ℕ, zero, suc, ◌+◌, ◌*◌, ◌/◌, ◌%◌, ◌≤◌, ◌<◌}
use mathlib.Core.Path.{◌≡◌, refl, ap, sym, subst, ◌∙◌}
use mathlib.Core.Logic.{◌⊎◌, inl, inr}
use mathlib.Core.List.{List, [], ◌∷◌, ◌++◌, map}
use native.Mathlib.Nat.{not-suc-le-zero, le_of_suc-le-suc, eq-or-lt_of_le, zero-mul, suc-mul, div-add-mod', div-lt_iff_lt-mul, mod-lt}
use native.Mathlib.Omega.{arith}
use lib.ListN.{length, get_or, drop, length-append, length-map, get_or-append}
use lib.Seq.{get_or-append-add}
use Rattle.rules.specs.Text.{up_from, flat, All}
use Rattle.laws.proofs.Lists.{get_d_map}
use Rattle.small.specs.Listing.{each, choices}

-- ---- what is in a list

abbrev pub In : {A : Type 0} → A → List A → Type 0
In x [] = ⊥
In x (y ∷ l) = (y ≡ x) ⊎ In x l

in_left : {A : Type 0} (x : A) (l m : List A) → In x l → In x (l ++ m)
in_left x [] m h = absurd h
in_left x (y ∷ l) m (inl e) = inl e
in_left x (y ∷ l) m (inr h) = inr (in_left x l m h)

in_right : {A : Type 0} (x : A) (l m : List A) → In x m → In x (l ++ m)
in_right x [] m h = h
in_right x (y ∷ l) m h = inr (in_right x l m h)

in_either : {A : Type 0} (x : A) (l m : List A) → In x (l ++ m) → In x l ⊎ In x m
in_either x [] m h = inr h
in_either x (y ∷ l) m (inl e) = inl (inl e)
in_either x (y ∷ l) m (inr h) = go (in_either x l m h)
  where
    go : In x l ⊎ In x m → In x (y ∷ l) ⊎ In x m
    go (inl i) = inl (inr i)
    go (inr i) = inr i

pub in_map : {A B : Type 0} (f : A → B) (x : A) (l : List A) → In x l → In (f x) (map f l)
in_map f x [] h = absurd h
in_map f x (y ∷ l) (inl e) = inl (ap f e)
in_map f x (y ∷ l) (inr h) = inr (in_map f x l h)

-- the entry of which f made it
pub record MadeBy {A B : Type 0} (f : A → B) (l : List A) (b : B) : Type 0 where
  pub of : A
  pub there : In of l
  pub is : f of ≡ b

pub map-made : {A B : Type 0} (f : A → B) (l : List A) (b : B) → In b (map f l) → MadeBy f l b
map-made f [] b h = absurd h
map-made f (x ∷ l) b (inl e) = record { of = x; there = inl refl; is = e }
map-made f (x ∷ l) b (inr h) = let m = map-made f l b h in record { of = m.of; there = inr m.there; is = m.is }

pub in-each : {A B : Type 0} (f : A → List B) (l : List A) (a : A) (b : B) → In a l → In b (f a) → In b (each l f)
unfolding each flat
in-each f [] a b h k = absurd h
in-each f (x ∷ l) a b (inl e) k = in_left b (f x) (flat (map f l)) (subst (λ y. In b (f y)) (sym e) k)
in-each f (x ∷ l) a b (inr h) k = in_right b (f x) (flat (map f l)) (in-each f l a b h k)

-- the choice from which it came
pub record ChosenBy {A B : Type 0} (f : A → List B) (l : List A) (b : B) : Type 0 where
  pub of : A
  pub there : In of l
  pub is : In b (f of)

pub each_chosen : {A B : Type 0} (f : A → List B) (l : List A) (b : B) → In b (each l f) → ChosenBy f l b
unfolding each flat
each_chosen f [] b h = absurd h
each_chosen f (x ∷ l) b h = go (in_either b (f x) (flat (map f l)) h) (each_chosen f l b)
  where
    go : In b (f x) ⊎ In b (flat (map f l)) → (In b (flat (map f l)) → ChosenBy f l b) → ChosenBy f (x ∷ l) b
    go (inl i) rest = record { of = x; there = inl refl; is = i }
    go (inr i) rest = let c = rest i in record { of = c.of; there = inr c.there; is = c.is }

pub in-up_from : (i n k : ℕ) → i ≤ k → k < i + n → In k (up_from i n)
unfolding up_from
in-up_from i zero k h l = absurd (omega arith)
in-up_from i (suc n) k h l = go (eq-or-lt_of_le h) (λ m. in-up_from (suc i) n k m (omega arith))
  where
    go : (i ≡ k) ⊎ (i < k) → (i < k → In k (up_from (suc i) n)) → In k (i ∷ up_from (suc i) n)
    go (inl e) later = inl e
    go (inr m) later = inr (later m)

pub up_from-between : (i n k : ℕ) → In k (up_from i n) → (i ≤ k) × (k < i + n)
unfolding up_from
up_from-between i zero k h = absurd h
up_from-between i (suc n) k (inl e) = (omega (arith, e), omega (arith, e))
up_from-between i (suc n) k (inr h) = let b = up_from-between (suc i) n k h in (omega (arith, b.0), omega (arith, b.1))

pub in-choices : {A : Type 0} (l as' : List A) → All (λ a. In a l) as' → In as' (choices l (length as'))
unfolding choices
in-choices l [] h = inl refl
in-choices l (a ∷ as') h =
    in-each (λ b. map (λ bs. b ∷ bs) (choices l (length as'))) l a (a ∷ as') h.0
    (in_map (λ bs. a ∷ bs) as' (choices l (length as')) (in-choices l as' h.1))

-- as many entries as were to be chosen, each from the list
pub record Chosen {A : Type 0} (l : List A) (n : ℕ) (as' : List A) : Type 0 where
  pub count : length as' ≡ n
  pub from : All (λ a. In a l) as'

pub choices_chosen : {A : Type 0} (l : List A) (n : ℕ) (as' : List A) → In as' (choices l n) → Chosen l n as'
unfolding choices
choices_chosen l zero as' (inl e) = subst (Chosen l 0) e (record { count = refl; from = tt })
choices_chosen l zero as' (inr h) = absurd h
choices_chosen {A} l (suc n) as' h =
    let c = each_chosen (λ b. map (λ bs. b ∷ bs) (choices l n)) l as' h in
    let m = map-made (λ bs. c.of ∷ bs) (choices l n) as' c.is in
    let rest = choices_chosen l n m.of m.there in
    subst (Chosen l (suc n)) m.is (record { count = ap suc rest.count; from = (c.there, rest.from) })

-- ---- nothing is in it twice

abbrev pub Once : {A : Type 0} → List A → Type 0
Once [] = Unit {0}
Once (x ∷ l) = (In x l → ⊥) × Once l

once-append : {A : Type 0} (l m : List A) → Once l → Once m → ((x : A) → In x l → In x m → ⊥) → Once (l ++ m)
once-append [] m h k apart = k
once-append (x ∷ l) m h k apart = (λ i. go (in_either x l m i), once-append l m h.1 k (λ y i. apart y (inr i)))
  where
    go : In x l ⊎ In x m → ⊥
    go (inl i) = h.0 i
    go (inr i) = apart x (inl refl) i

pub once-map : {A B : Type 0} (f : A → B) → ((x y : A) → f x ≡ f y → x ≡ y) → (l : List A) → Once l → Once (map f l)
once-map f same [] h = tt
once-map f same (x ∷ l) h = (again, once-map f same l h.1)
  where
    again : In (f x) (map f l) → ⊥
    again i = let m = map-made f l (f x) i in h.0 (subst (λ y. In y l) (same m.of x m.is) m.there)

-- of choices that have nothing in common
pub once-each : {A B : Type 0} (f : A → List B) → ((a : A) → Once (f a)) → ((a c : A) (b : B) → In b (f a) → In b (f c) → a ≡ c)
    → (l : List A) → Once l → Once (each l f)
unfolding each flat
once-each f h same [] k = tt
once-each {B = B} f h same (a ∷ l) k = once-append (f a) (flat (map f l)) (h a) (once-each f h same l k.1) apart
  where
    apart : (b : B) → In b (f a) → In b (flat (map f l)) → ⊥
    apart b i j = let c = each_chosen f l b j in k.0 (subst (λ y. In y l) (same c.of a b c.is i) c.there)

pub once-up_from : (i n : ℕ) → Once (up_from i n)
unfolding up_from
once-up_from i zero = tt
once-up_from i (suc n) = (λ h. let b = up_from-between (suc i) n i h in omega (arith, b.0), once-up_from (suc i) n)

head-same : {A : Type 0} (d a b : A) (l m : List A) → a ∷ l ≡ b ∷ m → a ≡ b
head-same d a b l m e = ap (λ k. get_or k 0 d) e

tail-same : {A : Type 0} (a : A) (l m : List A) → a ∷ l ≡ a ∷ m → l ≡ m
tail-same a l m e = ap (drop 1) e

pub once-choices : {A : Type 0} (l : List A) → Once l → (n : ℕ) → Once (choices l n)
unfolding choices
once-choices l h zero = ((λ i. i), tt)
once-choices {A} l h (suc n) =
    once-each (λ a. map (λ as'. a ∷ as') (choices l n)) (λ a. once-map (λ as'. a ∷ as') (tail-same a) (choices l n) (once-choices l h n)) same l h
  where
    same : (a c : A) (b : List A) → In b (map (λ as'. a ∷ as') (choices l n)) → In b (map (λ as'. c ∷ as') (choices l n)) → a ≡ c
    same a c b i j =
        let m = map-made (λ as'. a ∷ as') (choices l n) b i in
        let k = map-made (λ as'. c ∷ as') (choices l n) b j in
        head-same a a c m.of k.of (m.is ∙ sym k.is)

-- ---- numbers

pub get_d_in : {A : Type 0} (l : List A) (i : ℕ) (d : A) → i < length l → In (get_or l i d) l
get_d_in [] i d h = absurd (not-suc-le-zero h)
get_d_in (x ∷ l) zero d h = inl refl
get_d_in (x ∷ l) (suc i) d h = inr (get_d_in l i d (le_of_suc-le-suc h))

-- the number of an entry
pub record Number {A : Type 0} (d : A) (l : List A) (x : A) : Type 0 where
  pub at : ℕ
  pub below : at < length l
  pub is : get_or l at d ≡ x

pub in_number : {A : Type 0} (d : A) (l : List A) (x : A) → In x l → Number d l x
in_number d [] x h = absurd h
in_number d (y ∷ l) x (inl e) = record { at = 0; below = omega arith; is = e }
in_number d (y ∷ l) x (inr h) = let n = in_number d l x h in record { at = suc n.at; below = omega (arith, n.below); is = n.is }

-- in a list without repeats two numbers have two entries
pub once_number : {A : Type 0} (d : A) (l : List A) → Once l → (i j : ℕ) → i < length l → j < length l → get_or l i d ≡ get_or l j d → i ≡ j
once_number d [] o i j h k e = absurd (not-suc-le-zero h)
once_number d (x ∷ l) o zero zero h k e = refl
once_number d (x ∷ l) o zero (suc j) h k e = absurd (o.0 (subst (λ y. In y l) (sym e) (get_d_in l j d (le_of_suc-le-suc k))))
once_number d (x ∷ l) o (suc i) zero h k e = absurd (o.0 (subst (λ y. In y l) e (get_d_in l i d (le_of_suc-le-suc h))))
once_number d (x ∷ l) o (suc i) (suc j) h k e = ap suc (once_number d l o.1 i j (le_of_suc-le-suc h) (le_of_suc-le-suc k) e)

-- ---- choices of n entries each

pub length-each : {A B : Type 0} (f : A → List B) (n : ℕ) → ((a : A) → length (f a) ≡ n) → (l : List A) → length (each l f) ≡ length l * n
unfolding each flat
length-each f n h [] = sym (zero-mul n)
length-each f n h (a ∷ l) = length-append (f a) (flat (map f l)) ∙ rw (h a, length-each f n h l, suc-mul (length l) n) (omega arith)

-- entry j of choice i
pub each_number : {A B : Type 0} (f : A → List B) (n : ℕ) → ((a : A) → length (f a) ≡ n) → (l : List A) (i j : ℕ) (a : A) (b : B)
    → i < length l → j < n → get_or (each l f) (i * n + j) b ≡ get_or (f (get_or l i a)) j b
unfolding each flat
each_number f n h [] i j a b k m = absurd (not-suc-le-zero k)
each_number f n h (x ∷ l) zero j a b k m =
    let z : 0 * n + j ≡ j = rw (zero-mul n) (omega arith) in
    rw z (get_or-append (f x) (flat (map f l)) b j (rw (h x) m))
each_number f n h (x ∷ l) (suc i) j a b k m =
    let z : suc i * n + j ≡ length (f x) + (i * n + j) = rw (h x, suc-mul i n) (omega arith) in
    rw z (get_or-append-add (f x) (flat (map f l)) (i * n + j) b ∙ each_number f n h l i j a b (le_of_suc-le-suc k) m)

-- entry m of all
pub each_at : {A B : Type 0} (f : A → List B) (n : ℕ) → ((a : A) → length (f a) ≡ n) → (l : List A) (m : ℕ) (a : A) (b : B)
    → 0 < n → m < length l * n → get_or (each l f) m b ≡ get_or (f (get_or l (m / n) a)) (m % n) b
each_at f n h l m a b pos k =
    ap (λ i. get_or (each l f) i b) (sym (div-add-mod' m n))
    ∙ each_number f n h l (m / n) (m % n) a b ((div-lt_iff_lt-mul pos).1 k) (mod-lt m pos)

-- the first of n + 1 entries, and the others
pub choices-at : {A : Type 0} (l : List A) (n c m : ℕ) (d : A) → length (choices l n) ≡ c → 0 < c → m < length l * c
    → get_or (choices l (suc n)) m [] ≡ get_or l (m / c) d ∷ get_or (choices l n) (m % c) []
unfolding choices
choices-at l n c m d e pos k =
    each_at (λ a. map (λ as'. a ∷ as') (choices l n)) c (λ a. length-map (choices l n) (λ as'. a ∷ as') ∙ e) l m d [] pos k
    ∙ get_d_map (λ as'. get_or l (m / c) d ∷ as') (choices l n) (m % c) [] [] (rw e (mod-lt m pos))

pub length-choices : {A : Type 0} (l : List A) (n : ℕ) → length (choices l (suc n)) ≡ length l * length (choices l n)
unfolding choices
length-choices l n = length-each (λ a. map (λ as'. a ∷ as') (choices l n)) (length (choices l n)) (λ a. length-map (choices l n) (λ as'. a ∷ as')) l
