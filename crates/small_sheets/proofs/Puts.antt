-- What is written where: a text letter by letter, and the parts of a sheet one after another. Assumes nothing.
use Prim.Native.Nat.{ℕ, zero, suc, ◌+◌, ◌*◌, ◌-◌, ◌/◌, ◌%◌, ◌^◌, ◌≤◌, ◌<◌}
use mathlib.Core.Path.{◌≡◌, refl, ap, sym, subst, ◌∙◌}
use mathlib.Core.List.{List, [], ◌∷◌, ◌++◌, append_assoc, append-nil}
use native.Mathlib.Nat.{one-le-pow, mod-lt}
use native.Mathlib.Omega.{arith}
use lib.ListN.{length, get_or, set, replicate, length-append, length-replicate, length-set}
use Rattle.std.specs.Prelude.{Option, Some, None}
use Rattle.rules.specs.Text.{flat}
use Rattle.buffer.specs.Put.{over, put_at}
use Rattle.buffer.proofs.Laws.{put-nil, put_store, over-put, over-put-zero, two}
use Rattle.small.specs.Listing.{choices, letters}
use Rattle.small_sheets.specs.Parts.{cell_bytes, head_bytes, columns_bytes}
use Rattle.small_sheets.specs.Chosen.{Text, Choice, text_is, second_is, texts_is, columns_of, cells_is, sheet_is}
use Rattle.small_sheets.proofs.Choices.{get_d_in, choices_chosen}
use Rattle.small_sheets.proofs.Bytes.{columns-length}
use Rattle.small_sheets.proofs.Numbers.{letters-count, text-first}

-- ---- a text

pub text-length : (t : Text) → length (text_is t) ≡ t.length
unfolding text_is
text-length t =
    let all = choices letters t.length in
    (choices_chosen letters t.length (get_or all t.number []) (get_d_in all t.number [] (rw (letters-count t.length) t.there))).count

-- the letters that are written, and those still to come, make the text of n letters with number v
pub record Putting (sheet₀ : List ℕ) (at n v : ℕ) (sheet : List ℕ) (left number place : ℕ) : Type 0 where
  pub done : List ℕ
  pub whole : done ++ get_or (choices letters left) number [] ≡ get_or (choices letters n) v []
  pub there : number < 2 ^ left
  pub short : n ≤ 4
  pub count : length done + left ≡ n
  pub stands : place ≡ at + length done
  pub room : at + n ≤ length sheet₀
  pub so : sheet ≡ put_at sheet₀ at done
  pub size : length sheet ≡ length sheet₀

pub put_begins : (sheet₀ : List ℕ) (at : ℕ) (t : Text) → at + length (text_is t) ≤ length sheet₀
    → Putting sheet₀ at t.length t.number sheet₀ t.length t.number at
put_begins sheet₀ at t room = record {
  done = [];
  whole = refl;
  there = t.there;
  short = t.short;
  count = omega arith;
  stands = omega arith;
  room = omega (arith, text-length t);
  so = sym (put-nil sheet₀ at);
  size = refl;
}

-- one letter more: l are left after it
put_one : (sheet₀ : List ℕ) (at n v : ℕ) (sheet : List ℕ) (l number place b : ℕ) → Putting sheet₀ at n v sheet (suc l) number place
    → b ≡ get_or letters (number / 2 ^ l) 97 → Putting sheet₀ at n v (set sheet place b) l (number % 2 ^ l) (place + 1)
put_one sheet₀ at n v sheet l number place b h e = record {
  done = h.done ++ (b ∷ []);
  whole = append_assoc h.done (b ∷ []) (get_or (choices letters l) (number % 2 ^ l) [])
      ∙ (ap (λ c. h.done ++ (c ∷ get_or (choices letters l) (number % 2 ^ l) [])) e
      ∙ (ap (λ r. h.done ++ r) (sym (text-first l number h.there)) ∙ h.whole));
  there = mod-lt number (one-le-pow l 2 (omega arith));
  short = h.short;
  count = omega (arith, length-append h.done (b ∷ []), h.count);
  stands = omega (arith, length-append h.done (b ∷ []), h.stands);
  room = h.room;
  so = ap (λ s. set s place b) h.so ∙ put_store sheet₀ at h.done b place (sym h.stands) (omega (arith, h.stands, h.count, h.room));
  size = length-set sheet place b ∙ h.size;
}

pub put-again : (sheet₀ : List ℕ) (at n v : ℕ) (sheet : List ℕ) (left number place half b : ℕ)
    → Putting sheet₀ at n v sheet left number place → 0 < left
    → half ≡ 2 ^ (left - 1) → b ≡ get_or letters (number / half) 97
    → Putting sheet₀ at n v (set sheet place b) (left - 1) (number % half) (place + 1)
put-again sheet₀ at n v sheet left number place half b h l e f =
    let z : left ≡ suc (left - 1) = omega arith in
    rw e (put_one sheet₀ at n v sheet (left - 1) number place b (subst (λ k. Putting sheet₀ at n v sheet k number place) z h)
    (f ∙ ap (λ k. get_or letters (number / k) 97) e))

none_left : (number : ℕ) → number < 2 ^ 0 → get_or (choices letters 0) number [] ≡ []
unfolding choices
none_left zero h = refl
none_left (suc n) h = absurd (omega arith)

pub put_ends : (sheet₀ : List ℕ) (at : ℕ) (t : Text) (sheet : List ℕ) (left number place : ℕ)
    → Putting sheet₀ at t.length t.number sheet left number place
    → left ≤ 0 → (place ≡ at + length (text_is t)) × (sheet ≡ put_at sheet₀ at (text_is t))
unfolding text_is
put_ends sheet₀ at t sheet left number place i l =
    let z : left ≡ 0 = omega arith in
    let h = subst (λ k. Putting sheet₀ at t.length t.number sheet k number place) z i in
    let n = t.length in
    let v = t.number in
    let all : h.done ≡ get_or (choices letters n) v [] =
    sym (append-nil h.done) ∙ (ap (λ r. h.done ++ r) (sym (none_left number h.there)) ∙ h.whole) in
    (h.stands ∙ ap (λ l. at + length l) all, h.so ∙ ap (put_at sheet₀ at) all)

-- ---- cells

pub cell-put : (d : List ℕ) (at : ℕ) (t : Text) (d₁ d₂ : List ℕ) (p r : ℕ) → at + length (cell_bytes (text_is t)) ≤ length d
    → p ≡ at + 4 → d₁ ≡ put_at d at (0 ∷ 0 ∷ 1 ∷ t.length ∷ []) → r ≡ p + length (text_is t) → d₂ ≡ put_at d₁ p (text_is t)
    → (r ≡ at + length (cell_bytes (text_is t))) × (d₂ ≡ put_at d at (cell_bytes (text_is t)))
cell-put d at t d₁ d₂ p r room e₁ h₁ e₂ h₂ =
    let n = text-length t in
    let head : List ℕ = 0 ∷ 0 ∷ 1 ∷ t.length ∷ [] in
    let put = two d at head (text_is t) d₁ d₂ p h₁ h₂ (sym e₁) (omega (arith, room)) in
    (omega (arith, e₁, e₂), put ∙ ap (λ k. put_at d at (0 ∷ 0 ∷ 1 ∷ k ∷ text_is t)) (sym n))

-- the letters of a second text
abbrev pub second_length : Option Text → ℕ
second_length None = 0
second_length (Some t) = t.length

module _ (c : Choice) where
  -- one cell, or two
  cells-one : c.second ≡ None → cells_is c ≡ cell_bytes (text_is c.first)
  unfolding cells_is texts_is flat
  cells-one e = rw e (append-nil (cell_bytes (text_is c.first)))

  cells_two : (t : Text) → c.second ≡ Some t → cells_is c ≡ cell_bytes (text_is c.first) ++ cell_bytes (text_is t)
  unfolding cells_is texts_is flat
  cells_two t e = rw e (ap (λ l. cell_bytes (text_is c.first) ++ l) (append-nil (cell_bytes (text_is t))))

  pub second-room : (t : Text) → c.second ≡ Some t
      → length (cell_bytes (text_is c.first)) + length (cell_bytes (text_is t)) ≡ length (cells_is c)
  second-room t e = rw (cells_two t e) (sym (length-append (cell_bytes (text_is c.first)) (cell_bytes (text_is t))))

  pub first-room : length (cell_bytes (text_is c.first)) ≤ length (cells_is c)
  first-room = go c.second refl
    where
      go : (x : Option Text) → c.second ≡ x → length (cell_bytes (text_is c.first)) ≤ length (cells_is c)
      go None e = rw (cells-one e) (omega arith)
      go (Some t) e = omega (arith, second-room t e)

  pub cells-put-one : (d : List ℕ) (at : ℕ) (d₁ : List ℕ) → c.second ≡ None → d₁ ≡ put_at d at (cell_bytes (text_is c.first))
      → d₁ ≡ put_at d at (cells_is c)
  cells-put-one d at d₁ e h = rw (cells-one e) h

  pub cells-put_two : (t : Text) (d : List ℕ) (at : ℕ) (d₁ d₂ : List ℕ) (p : ℕ) → c.second ≡ Some t → at + length (cells_is c) ≤ length d
      → p ≡ at + length (cell_bytes (text_is c.first)) → d₁ ≡ put_at d at (cell_bytes (text_is c.first))
      → d₂ ≡ put_at d₁ p (cell_bytes (text_is t)) → d₂ ≡ put_at d at (cells_is c)
  cells-put_two t d at d₁ d₂ p e room k h₁ h₂ =
      rw (cells_two t e) (two d at (cell_bytes (text_is c.first)) (cell_bytes (text_is t)) d₁ d₂ p h₁ h₂ (sym k) (omega (arith, room, second-room t e)))

  cells-length : length (cells_is c) ≡ 4 * columns_of c + c.first.length + second_length c.second
  unfolding texts_is
  cells-length = go c.second refl
    where
      go : (x : Option Text) → c.second ≡ x → length (cells_is c) ≡ 4 * columns_of c + c.first.length + second_length c.second
      go None e = rw (cells-one e, e) (omega (arith, text-length c.first))
      go (Some t) e =
          let room = second-room t e in
          omega (arith, room, text-length c.first, text-length t, ap (λ x. length (second_is x)) e, ap second_length e)

  pub parts-length : length (sheet_is c) ≡ 29 + (length (columns_bytes (columns_of c)) + length (cells_is c))
  unfolding sheet_is
  parts-length = rw (length-append (columns_bytes (columns_of c)) (cells_is c)) (omega arith)

  pub sheet_size : length (sheet_is c) ≡ 34 + 15 * columns_of c + c.first.length + second_length c.second
  sheet_size = omega (arith, parts-length, columns-length (columns_of c), cells-length)

  pub columns-one : c.second ≡ None → (1 ≡ columns_of c) × (1 ≤ 2)
  unfolding texts_is
  columns-one e = (rw e refl, omega arith)

  pub columns_two : (t : Text) → c.second ≡ Some t → (2 ≡ columns_of c) × (2 ≤ 2)
  unfolding texts_is
  columns_two t e = (rw e refl, omega arith)

-- ---- the parts of a sheet

pub head-put : (d : List ℕ) (a w : ℕ) (d₁ d₂ : List ℕ) (p r : ℕ) → length (head_bytes a w) ≤ length d → p ≡ 0 + 7
    → d₁ ≡ put_at d 0 (1 ∷ a ∷ w ∷ 0 ∷ 0 ∷ 0 ∷ 22 ∷ []) → r ≡ p + 22 → d₂ ≡ put_at d₁ p (replicate 22 0)
    → (r ≡ length (head_bytes a w)) × (d₂ ≡ over (head_bytes a w) d)
head-put d a w d₁ d₂ p r room e₁ h₁ e₂ h₂ =
    let head : List ℕ = 1 ∷ a ∷ w ∷ 0 ∷ 0 ∷ 0 ∷ 22 ∷ [] in
    (omega (arith, e₁, e₂), two d 0 head (replicate 22 0) d₁ d₂ p h₁ h₂ (omega (arith, e₁)) (omega arith) ∙ sym (over-put-zero (head_bytes a w) d))

pub columns-put : (d : List ℕ) (at n : ℕ) (d₁ d₂ d₃ : List ℕ) (p q r : ℕ) → at + length (columns_bytes n) ≤ length d → p ≡ at + 1
    → d₁ ≡ put_at d at (n ∷ []) → q ≡ p + n * 11 → d₂ ≡ put_at d₁ p (replicate (n * 11) 0) → r ≡ q + 4 → d₃ ≡ put_at d₂ q (0 ∷ 1 ∷ 0 ∷ n ∷ [])
    → (r ≡ at + length (columns_bytes n)) × (d₃ ≡ put_at d at (columns_bytes n))
columns-put d at n d₁ d₂ d₃ p q r room e₁ h₁ e₂ h₂ e₃ h₃ =
    let zeros : List ℕ = replicate (n * 11) 0 in
    let k = length-replicate {A = ℕ} (n * 11) 0 in
    let first = two d at (n ∷ []) zeros d₁ d₂ p h₁ h₂ (sym e₁) (omega (arith, room)) in
    let put = two d at (n ∷ zeros) (0 ∷ 1 ∷ 0 ∷ n ∷ []) d₂ d₃ q first h₃ (omega (arith, e₁, e₂, k)) (omega (arith, room)) in
    (omega (arith, e₁, e₂, e₃, columns-length n), put)

pub sheet-put : (d : List ℕ) (c : Choice) (d₁ d₂ d₃ : List ℕ) (p q : ℕ) → p ≡ length (head_bytes c.arrangement c.target)
    → d₁ ≡ over (head_bytes c.arrangement c.target) d → q ≡ p + length (columns_bytes (columns_of c)) → d₂ ≡ put_at d₁ p (columns_bytes (columns_of c))
    → d₃ ≡ put_at d₂ q (cells_is c) → d₃ ≡ over (sheet_is c) d
unfolding sheet_is
sheet-put d c d₁ d₂ d₃ p q e₁ h₁ e₂ h₂ h₃ =
    let head = head_bytes c.arrangement c.target in
    let columns = columns_bytes (columns_of c) in
    let two-parts : d₂ ≡ over (head ++ columns) d = h₂ ∙ (ap (λ s. put_at s p columns) h₁ ∙ over-put head d columns p (sym e₁)) in
    h₃ ∙ (ap (λ s. put_at s q (cells_is c)) two-parts
    ∙ (over-put (head ++ columns) d (cells_is c) q (length-append head columns ∙ omega (arith, e₁, e₂))
    ∙ ap (λ l. over l d) (append_assoc head columns (cells_is c))))
