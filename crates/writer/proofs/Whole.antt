-- What the walk over fields comes to: the place behind their bytes, the first fault of their value, and their bytes where there is room. Assumes nothing.
use Prim.Native.Nat.{ℕ, zero, suc, ◌+◌, ◌≤◌}
use mathlib.Core.Path.{◌≡◌, refl, sym, ap, subst, ◌∙◌}
use mathlib.Core.List.{List, [], ◌++◌, map}
use mathlib.Core.Bool.{Bool, true, false}
use native.Mathlib.Omega.{arith}
use lib.ListN.{length, length-append}
use Rattle.rules.specs.Text.{or_else, flat}
use Rattle.rules.specs.Description.{Format, byte, word, only, zero_word, text, cell_text, listed, give, next, writes, Faithful}
use Rattle.rules.specs.Editor.{Cursor, Taken, several_taken, takes}
use Rattle.rules.specs.Writer.{thence, in_turn, judges}
use Rattle.rules.specs.Steps.{Step, At, Refused}
use Rattle.buffer.specs.Put.{put_at}
use Rattle.buffer.proofs.Laws.{put-nil, put-put, length-put}
use Rattle.laws.proofs.Lists.{map-append}
use Rattle.laws.proofs.Judging.{judged_ends, judged_number}
use Rattle.editor.specs.Walk.{Walk}
use Rattle.editor.specs.Walk.{cap, cursor_of, moved, State, state, fault_of, first_place, place_of, noted, advanced, stamped, low, entered}
use Rattle.editor.specs.Walk.{field_entered, again, value_at, walked}
use Rattle.editor.proofs.Entering.{cap_under, cap-most, cap_more, or-none, stamped-all}
use Rattle.editor.proofs.Texts.{length-low}
use Rattle.writer.proofs.Walks.{several_stays, takes_stays, several-count}

-- ---- the cursor goes as the slices are taken

entered_cursor : (y : Step) (l : List ℕ) (w : Walk) (d : List ℕ) → cursor_of (entered y l (state w d)).walk ≡ cursor_of w
unfolding entered noted advanced
entered_cursor y l w d = go w.missing
  where
    go : (b : Bool) → cursor_of (elim b as (λ z. State) [
      | true ↦ state w d
      | false ↦ state (advanced (length l) (noted y w)) (stamped d w.place l)
    ]).walk ≡ cursor_of w
    go true = refl
    go false = refl

field_cursor : {A : Type 0} (x : Format A) (ns ts : List ℕ) (s : State) → cursor_of (field_entered x ns ts s).walk ≡ (takes x ns ts (cursor_of s.walk)).after
unfolding field_entered
field_cursor x ns ts s =
    let g = takes x ns ts (cursor_of s.walk) in
    entered_cursor (judges x g.value s.walk.place) (map low (writes x g.value)) (moved g.after s.walk) s.sheet

again_cursor : {A : Type 0} (f : State → State) (t : Cursor → Taken A) → ((s : State) → cursor_of (f s).walk ≡ (t (cursor_of s.walk)).after)
    → (n : ℕ) (s : State) → cursor_of (again n f s).walk ≡ (several_taken n t (cursor_of s.walk)).after
unfolding again several_taken
again_cursor f t e zero s = refl
again_cursor f t e (suc n) s = again_cursor f t e n (f s) ∙ ap (λ (c : Cursor). (several_taken n t c).after) (e s)

pub walked_cursor : {A : Type 0} (x : Format A) (ns ts : List ℕ) (s : State) → cursor_of (walked x ns ts s).walk ≡ (takes x ns ts (cursor_of s.walk)).after
unfolding walked takes value_at
walked_cursor byte ns ts s = field_cursor byte ns ts s
walked_cursor word ns ts s = field_cursor word ns ts s
walked_cursor (only good fault x) ns ts s = field_cursor (only good fault x) ns ts s
walked_cursor zero_word ns ts s = field_cursor zero_word ns ts s
walked_cursor (text low high good) ns ts s = field_cursor (text low high good) ns ts s
walked_cursor (cell_text low high) ns ts s = field_cursor (cell_text low high) ns ts s
walked_cursor (listed count x) ns ts s =
    again_cursor (λ u. walked x ns ts u) (λ c. takes x ns ts c) (λ u. walked_cursor x ns ts u) (value_at count ns ts s) (walked count ns ts s)
    ∙ ap (λ (c : Cursor). (several_taken (value_at count ns ts s) (λ d. takes x ns ts d) c).after) (walked_cursor count ns ts s)
walked_cursor (give a) ns ts s = refl
walked_cursor (next of x g) ns ts s =
    let a = value_at x ns ts s in
    walked_cursor (g a) ns ts (walked x ns ts s) ∙ ap (λ (c : Cursor). (takes (g a) ns ts c).after) (walked_cursor x ns ts s)

-- ---- one part after another

-- from s to t fields were entered whose judgement is y and whose bytes are l
pub record Exact (y : Step) (l : List ℕ) (s t : State) : Type 0 where
  pub fault : t.walk.fault ≡ or_else s.walk.fault (fault_of y)
  pub at : t.walk.at ≡ place_of y s.walk.fault s.walk.at
  pub sheet : s.walk.place + length l ≤ length s.sheet → t.sheet ≡ put_at s.sheet s.walk.place (map low l)

pub record Enters (y : Step) (l : List ℕ) (s t : State) : Type 0 where
  pub place : t.walk.place ≡ cap (s.walk.place + length l)
  pub exact : s.walk.place + length l ≤ 32768 → Exact y l s t

-- a judgement of bytes at p: it ends behind them, or has a number
record Judged (y : Step) (p n : ℕ) : Type 0 where
  ends : (q : ℕ) → y ≡ At q → q ≡ p + n
  number : (m q : ℕ) → y ≡ Refused m q → 1 ≤ m

first_of : (m : ℕ) → 1 ≤ m → (f z : ℕ) → or_else (or_else f m) z ≡ or_else f m
first_of zero h f z = absurd (omega (arith, h))
first_of (suc m) h zero z = refl
first_of (suc m) h (suc f) z = refl

first-at : (m : ℕ) → 1 ≤ m → (f a q : ℕ) (z : Step) → place_of z (or_else f m) (first_place f a q) ≡ first_place f a q
unfolding first_place
first-at zero h f a q z = absurd (omega (arith, h))
first-at (suc m) h zero a q (At p) = refl
first-at (suc m) h zero a q (Refused n p) = refl
first-at (suc m) h (suc f) a q (At p) = refl
first-at (suc m) h (suc f) a q (Refused n p) = refl

-- the first fault of both parts
then_fault : (y : Step) (k : ℕ → Step) (p n f : ℕ) → Judged y p n → or_else (or_else f (fault_of y)) (fault_of (k (p + n))) ≡ or_else f (fault_of (thence y k))
unfolding thence
then_fault (At q) k p n f j = let e = j.ends q refl in rw (← or-none f, e)
then_fault (Refused m q) k p n f j = first_of m (j.number m q refl) f (fault_of (k (p + n)))

then_at : (y : Step) (k : ℕ → Step) (p n f a : ℕ) → Judged y p n
    → place_of (k (p + n)) (or_else f (fault_of y)) (place_of y f a) ≡ place_of (thence y k) f a
unfolding thence
then_at (At q) k p n f a j = let e = j.ends q refl in rw (← or-none f, e)
then_at (Refused m q) k p n f a j = first-at m (j.number m q refl) f a (cap q) (k (p + n))

cap_then : (p a b : ℕ) → cap (cap (p + a) + b) ≡ cap (p + (a + b))
cap_then p a b = let z : p + a + b ≡ p + (a + b) = omega arith in cap_more (p + a) b ∙ ap cap z

then_enters : (y : Step) (k : ℕ → Step) (l m : List ℕ) (s t u : State) → Judged y s.walk.place (length l) → Enters y l s t
    → Enters (k t.walk.place) m t u → Enters (thence y k) (l ++ m) s u
then_enters y k l m s t u j a b =
    let p = s.walk.place in
    let n = length-append l m in
    record {
      place = b.place ∙ ap (λ q. cap (q + length m)) a.place ∙ cap_then p (length l) (length m) ∙ ap (λ q. cap (p + q)) (sym n);
      exact = λ short. exactly short (rw n at short);
    }
  where
    exactly : s.walk.place + length (l ++ m) ≤ 32768 → s.walk.place + (length l + length m) ≤ 32768 → Exact (thence y k) (l ++ m) s u
    exactly short short' =
        let p = s.walk.place in
        let first = a.exact (omega arith) in
        let here : t.walk.place ≡ p + length l = a.place ∙ sym (cap_under (p + length l) (omega arith)) in
        let second = subst (λ q. Exact (k q) m t u) here (b.exact (omega (arith, here))) in
        record {
          fault = second.fault ∙ ap (λ f. or_else f (fault_of (k (p + length l)))) first.fault ∙ then_fault y k p (length l) s.walk.fault j;
          at = second.at ∙ ap (λ f. place_of (k (p + length l)) f t.walk.at) first.fault
              ∙ ap (λ q. place_of (k (p + length l)) (or_else s.walk.fault (fault_of y)) q) first.at
              ∙ then_at y k p (length l) s.walk.fault s.walk.at j;
          sheet = λ room. both p here (first.sheet (omega (arith, room, length-append l m)))
              (λ r. second.sheet r) (omega (arith, room, length-append l m));
        }
      where
        both : (p : ℕ) → t.walk.place ≡ p + length l → t.sheet ≡ put_at s.sheet p (map low l)
            → (t.walk.place + length m ≤ length t.sheet → u.sheet ≡ put_at t.sheet t.walk.place (map low m))
            → p + length l + length m ≤ length s.sheet → u.sheet ≡ put_at s.sheet p (map low (l ++ m))
        both p here e f room =
            let ll = length-low l in
            let kept = ap length e ∙ length-put s.sheet p (map low l) (omega arith) in
            f (omega (arith, here, kept)) ∙ ap (λ q. put_at t.sheet q (map low m)) here ∙ ap (λ d. put_at d (p + length l) (map low m)) e
            ∙ put-put s.sheet p (map low l) (map low m) (p + length l) (omega arith) (omega arith) ∙ ap (put_at s.sheet p) (sym (map-append low l m))

-- ---- fields, parts and items

none_enters : (s : State) → s.walk.place ≤ 32769 → Enters (At s.walk.place) [] s s
none_enters s h =
    let z : s.walk.place + 0 ≡ s.walk.place = omega arith in
    record {
      place = rw z (cap_under s.walk.place h);
      exact = λ i. record { fault = or-none s.walk.fault; at = refl; sheet = λ r. sym (put-nil s.sheet s.walk.place) };
    }

-- a field that was there
field_there : {A : Type 0} (x : Format A) (ns ts : List ℕ) (s : State) (m : (takes x ns ts (cursor_of s.walk)).after.missing ≡ false)
    → let g = takes x ns ts (cursor_of s.walk) in let l = map low (writes x g.value) in
    field_entered x ns ts s ≡ state (advanced (length l) (noted (judges x g.value s.walk.place) (moved g.after s.walk)))
    (stamped s.sheet s.walk.place l)
unfolding field_entered entered
field_there x ns ts s m =
    let g = takes x ns ts (cursor_of s.walk) in
    let l = map low (writes x g.value) in
    let w = moved g.after s.walk in
    ap (λ (b : Bool). elim b as (λ z. State) [
      | true ↦ state w s.sheet
      | false ↦ state (advanced (length l) (noted (judges x g.value s.walk.place) w)) (stamped s.sheet s.walk.place l)
    ]) m

field_put : (y : Step) (l : List ℕ) (s : State) (c : Cursor)
    → Enters y l s (state (advanced (length (map low l)) (noted y (moved c s.walk))) (stamped s.sheet s.walk.place (map low l)))
unfolding advanced noted
field_put y l s c =
    let n = length-low l in
    record {
      place = ap (λ k. cap (s.walk.place + k)) n;
      exact = λ i. record { fault = refl; at = refl; sheet = λ r. sym (stamped-all s.sheet s.walk.place (map low l) (omega arith)) };
    }

field_enters : {A : Type 0} (x : Format A) (ns ts : List ℕ) (s : State) → (takes x ns ts (cursor_of s.walk)).after.missing ≡ false
    → Enters (judges x (value_at x ns ts s) s.walk.place) (writes x (value_at x ns ts s)) s (field_entered x ns ts s)
unfolding value_at
field_enters x ns ts s m =
    let g = takes x ns ts (cursor_of s.walk) in
    let y = judges x g.value s.walk.place in
    subst (Enters y (writes x g.value) s) (sym (field_there x ns ts s m)) (field_put y (writes x g.value) s g.after)

-- what was taken is made of the parts that were taken
takes_proper : {A : Type 0} (x : Format A) (P : A → Type 0) → Faithful x P → (ns ts : List ℕ) (c : Cursor) → P (takes x ns ts c).value
unfolding takes Faithful
takes_proper byte P f ns ts c = f (takes byte ns ts c).value
takes_proper word P f ns ts c = f (takes word ns ts c).value
takes_proper (only good fault x) P f ns ts c = takes_proper x P f ns ts c
takes_proper zero_word P f ns ts c = f (takes zero_word ns ts c).value
takes_proper (text low high good) P f ns ts c = f (takes (text low high good) ns ts c).value
takes_proper (cell_text low high) P f ns ts c = f (takes (cell_text low high) ns ts c).value
takes_proper (listed count x) P f ns ts c = f.1.1 (takes (listed count x) ns ts c).value
takes_proper (give a) P f ns ts c = f
takes_proper (next of x g) P f ns ts c =
    let a = takes x ns ts c in
    (takes_proper (g a.value) (λ u. (of u ≡ a.value) × P u) (f.1 a.value) ns ts a.after).1

-- nothing was missing before, where nothing is missing now
there-before : (b c : Cursor) → (b.missing ≡ true → c ≡ b) → c.missing ≡ false → b.missing ≡ false
there-before b c stays m = go b.missing refl
  where
    go : (z : Bool) → b.missing ≡ z → z ≡ false
    go true e = sym e ∙ (ap (λ (d : Cursor). d.missing) (sym (stays e)) ∙ m)
    go false e = refl

judged_so : {A : Type 0} (x : Format A) (a : A) (p : ℕ) → Judged (judges x a p) p (length (writes x a))
judged_so x a p = record { ends = judged_ends x a p; number = λ m q e. omega (arith, (judged_number x a p m q e).0) }

in_reach : {y : Step} {l : List ℕ} {s t : State} → Enters y l s t → t.walk.place ≤ 32769
in_reach {y} {l} {s} {t} e = let c = cap-most (s.walk.place + length l) in omega (arith, e.place)

-- what is promised of the walk over a format
abbrev Walks : {A : Type 0} → Format A → List ℕ → List ℕ → State → Cursor → Type 0
Walks x ns ts s c =
    (takes x ns ts c).after.missing ≡ false → Enters (judges x (takes x ns ts c).value s.walk.place) (writes x (takes x ns ts c).value) s (walked x ns ts s)

-- items one after another
module _ {A : Type 0} (x : Format A) (ns ts : List ℕ) (each : (s : State) → s.walk.place ≤ 32769 → Walks x ns ts s (cursor_of s.walk)) where
  abbrev items : ℕ → Cursor → Taken (List A)
  items n c = several_taken n (λ d. takes x ns ts d) c

  items_enter : (n : ℕ) (s : State) (c : Cursor) → cursor_of s.walk ≡ c → s.walk.place ≤ 32769 → (items n c).after.missing ≡ false
      → Enters (in_turn (λ a q. judges x a q) (items n c).value s.walk.place) (flat (map (λ a. writes x a) (items n c).value)) s
      (again n (λ u. walked x ns ts u) s)
  unfolding several_taken again in_turn flat
  items_enter zero s c e h m = none_enters s h
  items_enter (suc n) s c e h m =
      let a = takes x ns ts c in
      let t = walked x ns ts s in
      let moved_on = walked_cursor x ns ts s ∙ ap (λ d. (takes x ns ts d).after) e in
      let first_there = there-before a.after (items n a.after).after (λ g. several_stays (λ d. takes x ns ts d) a.after (takes_stays x ns ts a.after g) n) m in
      let first = subst (Walks x ns ts s) e (each s h) first_there in
      then_enters (judges x a.value s.walk.place) (in_turn (λ b q. judges x b q) (items n a.after).value)
      (writes x a.value) (flat (map (λ b. writes x b) (items n a.after).value)) s t (again n (λ u. walked x ns ts u) t)
      (judged_so x a.value s.walk.place) first
      (items_enter n t a.after moved_on (in_reach first) m)

-- the law: from whatever place within reach
pub enters : {A : Type 0} (x : Format A) (P : A → Type 0) → Faithful x P → (ns ts : List ℕ) (s : State) → s.walk.place ≤ 32769
    → Walks x ns ts s (cursor_of s.walk)
unfolding walked takes judges writes value_at Faithful
enters byte P f ns ts s h m = field_enters byte ns ts s m
enters word P f ns ts s h m = field_enters word ns ts s m
enters (only good fault x) P f ns ts s h m = field_enters (only good fault x) ns ts s m
enters zero_word P f ns ts s h m = field_enters zero_word ns ts s m
enters (text low high good) P f ns ts s h m = field_enters (text low high good) ns ts s m
enters (cell_text low high) P f ns ts s h m = field_enters (cell_text low high) ns ts s m
enters (listed count x) P f ns ts s h m =
    let c = cursor_of s.walk in
    let n = takes count ns ts c in
    let t = walked count ns ts s in
    let as' = several_taken n.value (λ d. takes x ns ts d) n.after in
    let count-there = there-before n.after as'.after (λ g. several_stays (λ d. takes x ns ts d) n.after (takes_stays x ns ts n.after g) n.value) m in
    let first = enters count (λ v. Unit {0}) f.0 ns ts s h count-there in
    let long = several-count (λ d. takes x ns ts d) n.value n.after in
    rw long (then_enters (judges count n.value s.walk.place) (in_turn (λ a q. judges x a q) as'.value) (writes count n.value)
    (flat (map (λ a. writes x a) as'.value)) s t (again n.value (λ u. walked x ns ts u) t) (judged_so count n.value s.walk.place) first
    (items_enter x ns ts (λ u i j. enters x (λ a. Unit {0}) f.1.0 ns ts u i j) n.value t n.after (walked_cursor count ns ts s) (in_reach first) m))
enters (give a) P f ns ts s h m = none_enters s h
enters (next of x g) P f ns ts s h m =
    let c = cursor_of s.walk in
    let a = takes x ns ts c in
    let t = walked x ns ts s in
    let u = takes (g a.value) ns ts a.after in
    let there = there-before a.after u.after (takes_stays (g a.value) ns ts a.after) m in
    let first = enters x (λ v. Unit {0}) f.0 ns ts s h there in
    let second = subst (Walks (g a.value) ns ts t) (walked_cursor x ns ts s)
    (λ j. enters (g a.value) (λ v. (of v ≡ a.value) × P v) (f.1 a.value) ns ts t (in_reach first) j) m in
    let e : of u.value ≡ a.value = (takes_proper (g a.value) (λ v. (of v ≡ a.value) × P v) (f.1 a.value) ns ts a.after).0 in
    rw e (then_enters (judges x a.value s.walk.place) (λ q. judges (g a.value) u.value q) (writes x a.value)
    (writes (g a.value) u.value) s t (walked (g a.value) ns ts t) (judged_so x a.value s.walk.place) first second)
