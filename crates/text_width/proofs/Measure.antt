-- Columns before a position of a text: how widths of its parts add up, and where a number of columns is reached. Assumes nothing.
use Prim.Native.Nat.{ℕ, zero, suc, ◌+◌, ◌-◌, ◌≤◌, ◌<◌}
use mathlib.Core.Path.{◌≡◌, refl, sym, ap, ◌∙◌}
use mathlib.Core.Logic.{◌⊎◌, inl, inr, ⊎_elim}
use mathlib.Core.List.{List, [], ◌∷◌, ◌++◌}
use mathlib.Core.Bool.{Bool, true, false}
use native.Mathlib.Omega.{arith}
use native.Mathlib.Numerals.{add-one}
use borrow.Author.Tests.{eq-eqb, ne_eqb}
use lib.ListN.{length, take, drop, get_or, take-append-drop, get_or-eq_default}
use lib.Seq.{slice, slice_empty, slice-cons, take-take, take-suc, drop-append-le, length-take-le, length-slice, take-append_seam, drop-append_seam, take-nil, take_all}
use Rattle.rules.specs.Text.{is_second, text_width, bytes_of, first_of, rest_of}
use Rattle.rules.specs.Limits.{Plain}
use Rattle.laws.proofs.Text.{width-append, width-nil, width-cons, width-second, width-le, bytes-append, plain-take}
use Rattle.text_width.specs.Measure.{col, IsPlain, Reach, Reached}

pub le-or-lt : (a b : ℕ) → (a ≤ b) ⊎ (b < a)
le-or-lt zero b = inl (omega arith)
le-or-lt (suc a) zero = inr (omega arith)
le-or-lt (suc a) (suc b) = ⊎_elim (λ p. inl (omega arith)) (λ q. inr (omega arith)) (le-or-lt a b)

take_slice-append : (T : List ℕ) (s e : ℕ) → s ≤ e → take s T ++ slice s e T ≡ take e T
take_slice-append T s e h = rw (← take-take s e T h) (take-append-drop s (take e T))

-- a part's width
pub col_slice : (T : List ℕ) (s e : ℕ) → s ≤ e → col T s + text_width (slice s e T) ≡ col T e
unfolding col
col_slice T s e h = sym (width-append (take s T) (slice s e T)) ∙ ap text_width (take_slice-append T s e h)

pub col-le : (T : List ℕ) (s e : ℕ) → s ≤ e → col T s ≤ col T e
col-le T s e h = omega (arith, col_slice T s e h)

-- byte by byte
pub col-first : (T : List ℕ) (k : ℕ) → k < length T → is_second (get_or T k 0) ≡ false → col T (suc k) ≡ suc (col T k)
unfolding col
col-first T k h e = rw (take-suc T k 0 h) (width-append (take k T) (get_or T k 0 ∷ []) ∙ omega (arith, width-cons (get_or T k 0) [] e, width-nil))

pub col-second : (T : List ℕ) (k : ℕ) → k < length T → is_second (get_or T k 0) ≡ true → col T (suc k) ≡ col T k
unfolding col
col-second T k h e = rw (take-suc T k 0 h) (width-append (take k T) (get_or T k 0 ∷ []) ∙ omega (arith, width-second (get_or T k 0) [] e, width-nil))

-- no more columns than bytes
pub col_bytes : (T : List ℕ) (s e : ℕ) → s ≤ e → e ≤ length T → col T e ≤ col T s + (e - s)
col_bytes T s e h k = omega (arith, col_slice T s e h, width-le (slice s e T), length-slice s e T k)

module _ (T : List ℕ) {s w z : ℕ} (r : Reach T s w z) where
  -- more columns are further on
  pub reach_below : (e : ℕ) → col T s + w < col T e → z < e
  reach_below e h = ⊎_elim (λ k. absurd (omega (arith, col-le T e z k, r.columns))) (λ k. k) (le-or-lt e z)

  -- and what is further on has more columns
  pub reach-past : (e : ℕ) → z < e → e ≤ length T → col T s + w < col T e
  reach-past e h k = omega (arith, col-first T z (omega arith) r.whole, col-le T (suc z) e h, r.columns)

  -- the same place from a later one on
  pub reach-on : (m v : ℕ) → m ≤ z → col T m + v ≡ col T s + w → Reach T m v z
  reach-on m v h e = record { from = h; within = r.within; columns = omega (arith, r.columns); whole = r.whole }

pub slice-append : (T : List ℕ) (s m e : ℕ) → s ≤ m → m ≤ e → e ≤ length T → slice s m T ++ slice m e T ≡ slice s e T
slice-append T s m e h k g =
    let g₂ : m ≤ length T = omega arith in
    let n : s ≤ length (take m (take e T)) = rw (take-take m e T k, length-take-le) h in
    rw (← take-take m e T k, ← drop-append-le s, take-append-drop)

-- what follows z in a part begins with a character
slice_begins : (T : List ℕ) (z e : ℕ) → is_second (get_or T z 0) ≡ false → z ≤ e → e ≤ length T → is_second (get_or (slice z e T) 0 0) ≡ false
slice_begins T z e h k g = ⊎_elim ends goes (le-or-lt e z)
  where
    ends : e ≤ z → is_second (get_or (slice z e T) 0 0) ≡ false
    ends x = let q : z ≡ e = omega arith in rw (q, slice_empty e T)

    goes : z < e → is_second (get_or (slice z e T) 0 0) ≡ false
    goes x = rw (slice-cons z e T 0 x g) h

-- a part cut where its first columns are reached
module _ (T : List ℕ) {s w z : ℕ} (r : Reach T s w z) (e : ℕ) (k : z ≤ e) (g : e ≤ length T) where
  cut_at : bytes_of w (slice s e T) ≡ length (slice s z T)
  cut_at =
      let x : text_width (slice s z T) ≡ w = omega (arith, col_slice T s z r.from, r.columns) in
      rw (← slice-append T s z e r.from k g, ← x) (bytes-append (slice s z T) (slice z e T) (slice_begins T z e r.whole k g))

  pub first_reach : first_of w (slice s e T) ≡ slice s z T
  unfolding first_of
  first_reach = rw cut_at (rw (← slice-append T s z e r.from k g) (take-append_seam (slice s z T) (slice z e T)))

  pub rest_reach : rest_of w (slice s e T) ≡ slice z e T
  unfolding rest_of
  rest_reach = rw cut_at (rw (← slice-append T s z e r.from k g) (drop-append_seam (slice s z T) (slice z e T)))

-- nothing is lacking
pub reached-all : (T : List ℕ) {s w z lacking : ℕ} → lacking ≤ 0 → Reached T s w z lacking → Reach T s w z
reached-all T e r = record { from = r.from; within = r.within; columns = omega (arith, r.columns); whole = r.whole }

-- past the end no character is cut
pub end_whole : (T : List ℕ) (m : ℕ) → length T ≤ m → is_second (get_or T m 0) ≡ false
end_whole T m h = ap is_second (get_or-eq_default T 0 h)

-- the columns of a byte
pub byte-second : (b : ℕ) → b ≡ 176 → text_width (b ∷ []) ≡ 0
byte-second b e = omega (arith, width-second b [] (eq-eqb b 176 e), width-nil)

pub byte-first : (b : ℕ) → (b ≡ 176 → ⊥) → text_width (b ∷ []) ≡ 1
byte-first b e = omega (arith, width-cons b [] (ne_eqb b 176 e), width-nil)

pub col-byte : (T : List ℕ) (k : ℕ) → k < length T → col T (k + 1) ≡ col T k + text_width (get_or T k 0 ∷ [])
unfolding col
col-byte T k h = rw (add-one k, take-suc T k 0 h) (width-append (take k T) (get_or T k 0 ∷ []))

pub byte_one : (b : ℕ) → text_width (b ∷ []) ≤ 1
byte_one b = width-le (b ∷ [])

-- a byte with a column is no second one
pub some_first : (b : ℕ) → 0 < text_width (b ∷ []) → is_second b ≡ false
some_first b h = go (is_second b) refl
  where
    go : (x : Bool) → is_second b ≡ x → is_second b ≡ false
    go true e = absurd (omega (arith, width-second b [] e, width-nil))
    go false e = e

-- a loop that counts columns, and one that goes on until they are reached
pub counted-none : (T : List ℕ) → 0 ≡ col T 0
unfolding col
counted-none T = sym width-nil

pub counted-on : (T : List ℕ) (i n one : ℕ) → n ≡ col T i → i < length T → one ≡ text_width (get_or T i 0 ∷ []) → n + one ≡ col T (i + 1)
counted-on T i n one e h o = omega (arith, col-byte T i h)

pub counted-all : (T : List ℕ) (i n : ℕ) → length T ≤ i → n ≡ col T i → n ≡ text_width T
unfolding col
counted-all T i n h e = e ∙ ap text_width (take_all i T h)

pub walked_on : (T : List ℕ) (from w e left one : ℕ) → col T e + left ≡ col T from + w → e < length T → one ≡ text_width (get_or T e 0 ∷ [])
    → one ≤ left → col T (e + 1) + (left - one) ≡ col T from + w
walked_on T from w e left one q h o l = omega (arith, col-byte T e h)

pub walked_there : (T : List ℕ) {from w e left one : ℕ} → from ≤ e → col T e + left ≡ col T from + w → e < length T
    → one ≡ text_width (get_or T e 0 ∷ []) → left < one → Reached T from w e left
walked_there T {e = e} f q h o l =
    record {
      from = f;
      within = omega arith;
      columns = q;
      whole = some_first (get_or T e 0) (omega arith);
      end = λ k. absurd (omega (arith, byte_one (get_or T e 0)));
    }

-- a part has no more columns than bytes, and is counted part by part
pub counted_few : (T : List ℕ) (from to n : ℕ) → to ≤ length T → n ≡ text_width (slice from to T) → n ≤ to - from
counted_few T from to n k e = omega (arith, width-le (slice from to T), length-slice from to T k)

-- the bytes from a place up to another, as they are lent
pub lent_slice : (a e : ℕ) (l : List ℕ) → take (e - a) (drop a l) ≡ slice a e l
lent_slice zero e l = let z : e - 0 ≡ e = omega arith in rw z
lent_slice (suc a) e [] = simp take-nil
lent_slice (suc a) zero (x ∷ l) = let z : 0 - suc a ≡ 0 = omega arith in rw z
lent_slice (suc a) (suc e) (x ∷ l) = let z : suc e - suc a ≡ e - a = omega arith in rw z (lent_slice a e l)

-- some first bytes counted, and the others
pub counted-part : (n few : ℕ) (rest first others : List ℕ) (w : ℕ) → n + text_width rest ≡ w → rest ≡ first ++ others → few ≡ text_width first
    → n + few + text_width others ≡ w
counted-part n few rest first others w e f g = omega (arith, ap text_width f, width-append first others)

-- columns counted up to a place, and the others reached from there on
pub reached_from : (T : List ℕ) (from w n : ℕ) {z left : ℕ} → from + w ≤ length T → n ≡ text_width (slice from (from + w) T)
    → Reached T (from + w) (w - n) z left → Reached T from w z left
reached_from T from w n k e r =
    let b = counted_few T from (from + w) n k e in
    let c = col_slice T from (from + w) (omega arith) in
    record { from = omega (arith, r.from); within = r.within; columns = omega (arith, r.columns); whole = r.whole; end = r.end }

-- columns are reached further on
pub reach-after : (T : List ℕ) {s w z : ℕ} → 0 < w → Reach T s w z → s < z
reach-after T {s = s} {z = z} h r = ⊎_elim (λ k. absurd (omega (arith, col-le T z s k, r.columns))) (λ k. k) (le-or-lt z s)

-- ---- plain texts: a column is a byte

pub plain-col : (T : List ℕ) (p : ℕ) → Plain T → p ≤ length T → col T p ≡ p
unfolding col
plain-col T p h k = plain-take p T h ∙ length-take-le p T k

pub plain_whole : (T : List ℕ) (p : ℕ) → Plain T → is_second (get_or T p 0) ≡ false
plain_whole T p h = ⊎_elim (end_whole T p) (λ k. go k (is_second (get_or T p 0)) refl) (le-or-lt (length T) p)
  where
    go : p < length T → (x : Bool) → is_second (get_or T p 0) ≡ x → is_second (get_or T p 0) ≡ false
    go k true e = absurd (omega (arith, col-second T p k e, plain-col T p h (omega arith), plain-col T (suc p) h k))
    go k false e = e

pub plain_columns : (b : Bool) (T : List ℕ) (from to : ℕ) → b ≡ true → from ≤ to → to ≤ length T → IsPlain b T
    → to - from ≡ text_width (slice from to T)
plain_columns b T from to e h k p = omega (arith, col_slice T from to h, plain-col T from (p e) (omega arith), plain-col T to (p e) k)

pub plain_reach : (b : Bool) (T : List ℕ) (from w : ℕ) → b ≡ true → from + w ≤ length T → IsPlain b T → Reached T from w (from + w) 0
plain_reach b T from w e k p =
    record {
      from = omega arith;
      within = k;
      columns = omega (arith, plain-col T from (p e) (omega arith), plain-col T (from + w) (p e) k);
      whole = plain_whole T (from + w) (p e);
      end = λ h. absurd (omega arith);
    }
