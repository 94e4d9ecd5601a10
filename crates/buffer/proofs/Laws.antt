-- Laws of `over`, `put_at`, `build` and of edges.
use mathlib.Core.Path.{◌≡◌, refl, sym, ap, ◌∙◌}
use mathlib.Core.List.{List, [], ◌∷◌, ◌++◌, append_assoc, append-nil}
use Prim.Native.Nat.{ℕ, zero, suc, ◌+◌, ◌-◌, ◌≤◌, ◌<◌}
use native.Mathlib.Numerals.{add-one}
use native.Mathlib.Omega.{arith}
use lib.ListN.{length, take, drop, get_or, set, length-append, length-drop, take-append-drop, drop_of_length-le}
use lib.Seq.{drop-drop, drop-cons, set_at, length-take-le, take_at, drop_at, take_all}
use borrow.Rule.Slice.PartMut.{put_mid}
use mathlib.Core.Logic.{⊎_elim}
use native.Mathlib.Nat.{eq-or-lt_of_le, not-suc-le-zero, le_of_suc-le-suc}
use Rattle.std.specs.Prelude.{Option, Some, None}
use Rattle.buffer.specs.Put.{over, put_at, build, drawn}

pub length_over : (l d : List ℕ) → length l ≤ length d → length (over l d) ≡ length d
unfolding over
length_over l d h = simp (length-append, length-drop) (omega arith)

-- nothing is written over it
pub over_none : (d : List ℕ) → d ≡ over [] d
unfolding over
over_none d = refl

-- a store just past what is written
pub store : (p d : List ℕ) (n v : ℕ) → length p ≡ n → n < length d → set (over p d) n v ≡ over (p ++ (v ∷ [])) d
unfolding over
store p d n v e h =
    let r : length p < length d = omega arith in
    ap (λ (t : List ℕ). set (p ++ t) n v) (drop-cons d (length p) 0 r)
    ∙ set_at p (get_or d (length p) 0) (drop (suc (length p)) d) v n e
    ∙ sym (append_assoc p (v ∷ []) (drop (length (p ++ (v ∷ []))) d)
    ∙ ap (λ (k : ℕ). p ++ (v ∷ drop k d)) (length-append p (v ∷ []) ∙ add-one (length p)))

-- what is put at a place is a longer start
pub put-over : (d : List ℕ) (at : ℕ) (l : List ℕ) → at ≤ length d → put_at d at l ≡ over (take at d ++ l) d
unfolding over put_at
put-over d at l h =
    ap (λ (t : List ℕ). take at d ++ (l ++ t)) (drop-drop (length l) at d)
    ∙ sym (append_assoc (take at d) l (drop (length (take at d ++ l)) d)
    ∙ ap (λ (k : ℕ). take at d ++ (l ++ drop k d)) (length-append (take at d) l ∙ ap (λ (k : ℕ). k + length l) (length-take-le at d h)))

-- two writers one after the other
pub over-put : (a d b : List ℕ) (n : ℕ) → length a ≡ n → put_at (over a d) n b ≡ over (a ++ b) d
unfolding over put_at
over-put a d b n e =
    ap (λ (t : List ℕ). t ++ (b ++ drop (length b) (drop n (a ++ drop (length a) d)))) (take_at a (drop (length a) d) n e)
    ∙ ap (λ (t : List ℕ). a ++ (b ++ drop (length b) t)) (drop_at a (drop (length a) d) n e)
    ∙ ap (λ (t : List ℕ). a ++ (b ++ t)) (drop-drop (length b) (length a) d)
    ∙ sym (append_assoc a b (drop (length (a ++ b)) d) ∙ ap (λ (k : ℕ). a ++ (b ++ drop k d)) (length-append a b))

pub put-nil : (d : List ℕ) (at : ℕ) → put_at d at [] ≡ d
unfolding over put_at
put-nil d at = take-append-drop at d

-- a store just past what is put
pub put_store : (d : List ℕ) (at : ℕ) (l : List ℕ) (v n : ℕ) → at + length l ≡ n → n < length d → set (put_at d at l) n v ≡ put_at d at (l ++ (v ∷ []))
put_store d at l v n e h =
    ap (λ (t : List ℕ). set t n v) (put-over d at l (omega arith))
    ∙ store (take at d ++ l) d n v (length-append (take at d) l ∙ ap (λ (k : ℕ). k + length l) (length-take-le at d (omega arith)) ∙ e) h
    ∙ ap (λ (t : List ℕ). over t d) (append_assoc (take at d) l (v ∷ []))
    ∙ sym (put-over d at (l ++ (v ∷ [])) (omega arith))

-- a put just past a put
pub put-put : (d : List ℕ) (at : ℕ) (a b : List ℕ) (n : ℕ) → at + length a ≡ n → at ≤ length d → put_at (put_at d at a) n b ≡ put_at d at (a ++ b)
put-put d at a b n e h =
    ap (λ (t : List ℕ). put_at t n b) (put-over d at a h)
    ∙ over-put (take at d ++ a) d b n (length-append (take at d) a ∙ ap (λ (k : ℕ). k + length a) (length-take-le at d h) ∙ e)
    ∙ ap (λ (t : List ℕ). over t d) (append_assoc (take at d) a b)
    ∙ sym (put-over d at (a ++ b) h)

-- a store is a put of one
pub put_one : (d : List ℕ) (at v : ℕ) → at < length d → set d at v ≡ put_at d at (v ∷ [])
put_one d at v h =
    ap (λ (t : List ℕ). set t at v) (sym (put-nil d at))
    ∙ put_store d at [] v at (omega arith) h

pub length-put : (d : List ℕ) (at : ℕ) (l : List ℕ) → at + length l ≤ length d → length (put_at d at l) ≡ length d
length-put d at l h =
    let front = length-append (take at d) l in
    let taken = length-take-le at d (omega arith) in
    ap length (put-over d at l (omega arith)) ∙ length_over (take at d ++ l) d (omega (arith, front, taken))

-- writing from the start is a put at 0
pub over-put-zero : (l d : List ℕ) → over l d ≡ put_at d 0 l
unfolding over put_at
over-put-zero l d = refl

-- room for the piece i of n
pub build-room : (g : ℕ → List ℕ) (i n : ℕ) → i < n → length (build g i) + length (g i) ≤ length (build g n)
build-room g i zero h = absurd (not-suc-le-zero h)
build-room g i (suc n) h =
    ⊎_elim
    (λ (e : i ≡ n). simp (length-append, e) (omega arith))
    (λ (l : i < n). simp length-append (omega (arith, build-room g i n l)))
    (eq-or-lt_of_le (le_of_suc-le-suc h))

pub build_more : (g : ℕ → List ℕ) (i : ℕ) → build g i ++ g i ≡ build g (i + 1)
build_more g i = ap (λ (k : ℕ). build g k) (sym (add-one i))

-- the part from a on, as it is lent
pub lent : (p : List ℕ) (a : ℕ) → take (length p - a) (drop a p) ≡ drop a p
lent p a = take_all (length p - a) (drop a p) (omega (arith, length-drop a p))

-- it comes back as it was lent
pub lent_same : (p : List ℕ) (a : ℕ) → a ≤ length p → put_mid a (length p - a) p (take (length p - a) (drop a p)) ≡ p
lent_same p a h =
    ap (λ (t : List ℕ). take a p ++ (take (length p - a) (drop a p) ++ t)) (drop_of_length-le (drop a p) {i = length p - a} (omega (arith, length-drop a p)))
    ∙ ap (λ (t : List ℕ). take a p ++ t) (append-nil (take (length p - a) (drop a p)) ∙ lent p a) ∙ take-append-drop a p

-- the whole, once a part from a on has come back with l over its start
pub lent_back : (p : List ℕ) (a : ℕ) (l ys : List ℕ) → a ≤ length p → ys ≡ over l (take (length p - a) (drop a p)) → put_mid a (length p - a) p ys ≡ put_at p a l
unfolding over put_at
lent_back p a l ys h e =
    ap (λ (t : List ℕ). take a p ++ (ys ++ t)) (drop_of_length-le (drop a p) {i = length p - a} (omega (arith, length-drop a p)))
    ∙ ap (λ (t : List ℕ). take a p ++ t) (append-nil ys ∙ e ∙ ap (λ (t : List ℕ). l ++ drop (length l) t) (lent p a))

-- a character that is drawn, if there is one
pub edge-put : (d : List ℕ) (at b : ℕ) (edge : Option ℕ) → edge ≡ Some b → at < length d → set d at b ≡ put_at d at (drawn edge)
edge-put d at b edge e h = rw e (put_one d at b h)

pub edge-one : (b : ℕ) (edge : Option ℕ) → edge ≡ Some b → length (drawn edge) ≡ 1
edge-one b edge e = rw e

pub edge_skip : (d : List ℕ) (at : ℕ) (edge : Option ℕ) → edge ≡ None → d ≡ put_at d at (drawn edge)
edge_skip d at edge e = rw e (sym (put-nil d at))

-- two pieces, one after the other
pub two : (d : List ℕ) (at : ℕ) (a b d₁ d₂ : List ℕ) (p : ℕ) → d₁ ≡ put_at d at a → d₂ ≡ put_at d₁ p b → at + length a ≡ p → at ≤ length d → d₂ ≡ put_at
    d at (a ++ b)
two d at a b d₁ d₂ p e₁ e₂ x h = e₂ ∙ ap (λ (t : List ℕ). put_at t p b) e₁ ∙ put-put d at a b p x h

-- a part of n bytes from at on has come back as l
pub part_back : (d : List ℕ) (at n : ℕ) (l ys : List ℕ) → ys ≡ l → n ≡ length l → put_mid at n d ys ≡ put_at d at l
unfolding over put_at
part_back d at n l ys e f = rw (e, f)
