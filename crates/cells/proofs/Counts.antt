-- A cell's wrapped lines counted. Assumes nothing.
use Prim.Native.Nat.{ℕ, zero, suc, ◌+◌, ◌-◌, ◌≤◌, ◌<◌}
use mathlib.Core.Path.{◌≡◌, refl, sym, ap, ◌∙◌}
use mathlib.Core.List.{List, [], ◌∷◌}
use mathlib.Core.Bool.{Bool, true, false}
use native.Mathlib.Omega.{arith}
use lib.ListN.{length, length-append}
use lib.Seq.{slice, take_all}
use lib.Dec.{ltb, leb, eqb}
use borrow.Author.Tests.{ltb-true, leb-true, leb-false}
use Rattle.rules.specs.Text.{All, text_width, first_of, rest_of}
use Rattle.rules.specs.Wrap.{Act, join, retry, fill, begin, onto, pieces, glue, room, tight, full, act, last, place, weight, split, wrap_line, wrap_lines}
use Rattle.laws.proofs.Text.{width-nil, width-le, first_rest, rest_shorter}
use Rattle.laws.proofs.Fuel.{View, joins, retries, fills, begins, view}
use Rattle.laws.proofs.Split.{wrap_short, wrap_long}
use Rattle.laws.proofs.RowBytes.{pairs_of}
use Rattle.rules.specs.Places.{past, parts, byte_at, text_at, line_stop}
use Rattle.laws.proofs.Stands.{past-onward, lines-onward, text-length}
use Rattle.table.specs.Walk.{lines_in, lines_end}
use Rattle.table.specs.declared.records.Lines.{Lines}
use Rattle.cells.specs.Cell.{TextIs}
use Rattle.cells.proofs.Laws.{wrap_more, wrap-none}

-- ---- a line wraps into no more lines than it has bytes, its length included

-- the bytes of pieces, and one for each
unfoldable pub span : List (List ℕ) → ℕ
span [] = 0
span (p ∷ ps) = length p + 1 + span ps

glue-most : (d : ℕ) (l p : List ℕ) → length (glue d l p) ≤ length l + 1 + length p
unfolding glue
glue-most d [] p = omega arith
glue-most d (x ∷ l) p = simp length-append (omega arith)

tight-some : (w d : ℕ) (l : List ℕ) → tight w d l ≡ true → 0 < length l
unfolding tight
tight-some w d [] e = let z : ◌≡◌ {A = ℕ} 0 1 = cc in absurd (omega arith)
tight-some w d (x ∷ l) e = omega arith

-- a line that is filled takes a byte of its piece, or has one
rest_less : (w d : ℕ) (l p : List ℕ) → 0 < w → w < text_width p → length (rest_of (room w d l) p) + 1 ≤ length l + length p
rest_less w d [] p pos h = unfold room glue in omega (arith, rest_shorter (w - text_width []) p (omega (arith, width-nil)) (omega arith))
rest_less w d (x ∷ l) p pos h =
    let n = room w d (x ∷ l) in
    omega (arith, ap length (first_rest n p), length-append (first_of n p) (rest_of n p))

place-most : (n w d : ℕ) → 0 < w → (l : List ℕ) (ps : List (List ℕ)) → length (place n w d l ps) ≤ length l + span ps
unfolding place last span
place-most zero w d pos l ps = omega arith
place-most (suc n) w d pos [] [] = omega arith
place-most (suc n) w d pos (x ∷ l) [] = omega arith
place-most (suc n) w d pos l (p ∷ ps) = go (act w d l p) refl (view w d l p) (λ m qs. place-most n w d pos m qs)
  where
    ended : (m : List ℕ) (b : Bool) → ltb (w - 2) (text_width m) ≡ b →
        ((m : List ℕ) (qs : List (List ℕ)) → length (place n w d m qs) ≤ length m + span qs)
        → length {A = List ℕ} (elim b as (λ x. List (List ℕ)) [ true ↦ m ∷ place n w d [] ps | false ↦ place n w d m ps ]) ≤ length m + span ps
    ended m true e ih = omega (arith, ih [] ps, ltb-true (w - 2) (text_width m) e, width-le m)
    ended m false e ih = ih m ps

    go : (a : Act) → act w d l p ≡ a → View w d l p a → ((m : List ℕ) (qs : List (List ℕ)) → length (place n w d m qs) ≤ length m + span qs)
        → length (place (suc n) w d l (p ∷ ps)) ≤ length l + span (p ∷ ps)
    go join e (joins i) ih = rw (e, place) (omega (arith, ended (glue d l p) (full w (glue d l p)) (unfold full in refl) ih, glue-most d l p))
    go retry e (retries i t) ih = rw (e, place) (omega (arith, ih [] (p ∷ ps), tight-some w d l t))
    go fill e (fills i t j) ih = rw (e, place) (omega (arith, ih [] (rest_of (room w d l) p ∷ ps), rest_less w d l p pos j))
    go begin e (begins i t j) ih = rw (e, place) (omega (arith, ended p (full w p) (unfold full in refl) ih))

onto-span : (b : ℕ) (ps : List (List ℕ)) → 0 < span ps → span (onto b ps) ≡ suc (span ps)
unfolding onto span
onto-span b [] h = absurd (omega arith)
onto-span b (p ∷ ps) h = omega arith

span-pieces : (d : ℕ) (t : List ℕ) → span (pieces d t) ≡ length t + 1
unfolding pieces span
span-pieces d [] = refl
span-pieces d (b ∷ t) = go (eqb b d) (span-pieces d t)
  where
    go : (x : Bool) → span (pieces d t) ≡ length t + 1 → span (elim x as (λ y. List (List ℕ))
        [ true ↦ [] ∷ pieces d t | false ↦ onto b (pieces d t) ]) ≡ suc (length t) + 1
    go true e = omega arith
    go false e = omega (arith, onto-span b (pieces d t) (omega arith))

pub split-most : (w d : ℕ) (t : List ℕ) → 0 < w → length (split w d t) ≤ length t + 1
unfolding split
split-most w d t pos = omega (arith, place-most (weight (pieces d t)) w d pos [] (pieces d t), span-pieces d t)

-- ---- one cell line

module _ (w d : ℕ) (pos : 0 < w) (t : List ℕ) where
  pub line_long : (r : ℕ) → leb (text_width t) w ≡ false → r ≡ length (split w d t) → (r ≡ length (wrap_line w d t)) × (r ≤ length t + 1)
  line_long r h e =
      let k = wrap_long w d t (leb-false (text_width t) w h) in
      (e ∙ sym (ap length k), omega (arith, split-most w d t pos))

  pub line_short : leb (text_width t) w ≡ true → (1 ≡ length (wrap_line w d t)) × (1 ≤ length t + 1)
  line_short h =
      let k = wrap_short w d t (leb-true (text_width t) w h) in
      (sym (ap length k), omega arith)

-- ---- some cell lines

-- they take as many bytes as they stand apart, their length bytes included
lines-span : (s : List ℕ) (n p : ℕ) → past n (line_stop s) p ≤ length s → span (parts n (text_at s) (line_stop s) p) + p ≡ past n (line_stop s) p
unfolding parts past span
lines-span s zero p h = omega arith
lines-span s (suc n) p h =
    let on = past-onward n (line_stop s) (line_stop s p) (lines-onward s) in
    let stop : line_stop s p ≡ p + 1 + byte_at s p = unfold line_stop in refl in
    omega (arith, lines-span s n (line_stop s p) h, text-length s p (omega arith))

pub span-most : (s : List ℕ) (c : Lines) → lines_end s c ≤ length s → span (lines_in s c) ≤ length s
unfolding lines_in lines_end
span-most s c h = omega (arith, lines-span s c.left c.at h)

-- n lines are counted, and these cell lines are left, with so many bytes
pub record Counting (w d : ℕ) (plain : Bool) (size : ℕ) (all : List (List ℕ)) (n : ℕ) (ls : List (List ℕ)) : Type 0 where
  pub count : length (wrap_lines w d all) ≡ n + length (wrap_lines w d ls)
  pub few : n + span ls ≤ size
  pub texts : All (TextIs plain) ls

module _ (w d : ℕ) (plain : Bool) (size : ℕ) (all : List (List ℕ)) where
  pub counting_begins : span all ≤ size → All (TextIs plain) all → Counting w d plain size all 0 all
  counting_begins h k = record { count = omega arith; few = omega (arith, h); texts = k }

  module _ (n : ℕ) (t : List ℕ) (ls : List (List ℕ)) (C : Counting w d plain size all n (t ∷ ls)) where
    pub counting-on : (m : ℕ) → m ≡ length (wrap_line w d t) → m ≤ length t + 1 → Counting w d plain size all (n + m) ls
    unfolding span
    counting-on m e l =
        let z : length (wrap_lines w d (t ∷ ls)) ≡ m + length (wrap_lines w d ls) =
        ap length (wrap_more w d t ls) ∙ length-append (wrap_line w d t) (wrap_lines w d ls) ∙ omega arith in
        record { count = omega (arith, C.count, z); few = omega (arith, C.few); texts = C.texts.1 }

  pub counting_done : (n : ℕ) → Counting w d plain size all n [] → n ≡ length (wrap_lines w d all)
  counting_done n C = omega (arith, C.count, ap length (wrap-none w d))

-- ---- their pairs

-- n pairs are counted, and these cell lines are left
pub record Pairing (size : ℕ) (all : List (List ℕ)) (n : ℕ) (ls : List (List ℕ)) : Type 0 where
  pub sum : n + pairs_of ls ≡ pairs_of all
  pub few : n + span ls ≤ size

module _ (size : ℕ) (all : List (List ℕ)) where
  pub pairing_begins : span all ≤ size → Pairing size all 0 all
  pairing_begins h = record { sum = omega arith; few = omega (arith, h) }

  module _ (n : ℕ) (t : List ℕ) (ls : List (List ℕ)) (P : Pairing size all n (t ∷ ls)) (m : ℕ) (f : m ≡ text_width (slice 0 (length t) t)) where
    width : m ≡ text_width t
    width = f ∙ ap text_width (take_all (length t) t (omega arith))

    pub pairing_less : m ≤ length t
    pairing_less = omega (arith, width, width-le t)

    pub pairing-on : Pairing size all (n + (length t - m)) ls
    unfolding span pairs_of
    pairing-on = record { sum = omega (arith, P.sum, width); few = omega (arith, P.few) }

  pub pairing_done : (n : ℕ) → Pairing size all n [] → (n ≡ pairs_of all) × (n ≤ size)
  unfolding pairs_of
  pairing_done n P = (omega (arith, P.sum), omega (arith, P.few))
