-- The first step and the remaining width: what the code begins with agrees with the definitions. Assumes nothing.
use Prim.Native.Nat.{ℕ, zero, suc, ◌+◌, ◌-◌, ◌^◌, ◌≤◌, ◌<◌}
use mathlib.Core.Path.{◌≡◌, refl, sym, ap, ◌∙◌}
use mathlib.Core.Bool.{Bool, true, false, not}
use mathlib.Core.List.{List, [], ◌∷◌, ◌++◌, map}
use mathlib.Core.Option.{Option, none, some}
use native.Mathlib.Nat.{not-suc-le-zero}
use native.Mathlib.Omega.{arith}
use lib.ListN.{length, get_or, take, set, replicate, length-set, length-take, length-map, length-append}
use lib.Seq.{get_or-set_same, get_or-set_other, get_or-take, ext_get_or}
use lib.Dec.{eqb}
use Rattle.std.specs.Prelude.{unwrap_or}
use lib.Count.{ones, ones_in}
use borrow.Author.Tests.{eqb-true, not-false, ne_eqb}
use Rattle.rules.specs.Text.{up_from, keep, sum}
use Rattle.rules.specs.Sheet.{Table, column_at, padding, is_hidden, most_columns}
use Rattle.rules.specs.Widths as doc
use Rattle.rules.specs.Widths.{lifted, zeros, evaluate, noted, taken}
use Rattle.laws.proofs.Lists.{get_d_map, get_d-up_from, length-up_from, keep_yes, keep_no}
use Rattle.constraint.specs.declared.Layout.{Layout}
use Rattle.constraint.specs.declared.State.{State}
use Rattle.constraint.specs.Set.{bit, set_width}
use Rattle.constraint.specs.Widths.{choose, in_order, column, longest, room, decided, fixed, taking, first, hide, evaluated}
use Rattle.constraint.proofs.Bits.{add-lt, count_add, bit-same, bit-other, zero_bit}
use Rattle.arrangement.specs.Arrange.{begun, started, charged, decided_width, remaining, targeted}
use Rattle.arrangement.specs.Describes.{Describes}
use Rattle.arrangement.proofs.Rounds.{order_induct}
use Rattle.arrangement.proofs.Cases.{by_place}
use Rattle.arrangement.proofs.Offers.{count_as, column_as, longest_as, shown, hidden_as, visible_as, room_as, first_as}
use Rattle.arrangement.proofs.Agrees.{Agrees}
use Rattle.arrangement.proofs.Placed.{map_last}

pub zeros-append : (xs ys : List ℕ) → zeros (xs ++ ys) ≡ zeros xs + zeros ys
unfolding zeros
zeros-append [] ys = omega arith
zeros-append (zero ∷ xs) ys = omega (arith, zeros-append xs ys)
zeros-append (suc x ∷ xs) ys = zeros-append xs ys

sum-append : (xs ys : List ℕ) → sum (xs ++ ys) ≡ sum xs + sum ys
unfolding sum
sum-append [] ys = omega arith
sum-append (x ∷ xs) ys = omega (arith, sum-append xs ys)

sum-last : (f : ℕ → ℕ) (n : ℕ) → sum (map f (up_from 0 (suc n))) ≡ sum (map f (up_from 0 n)) + f n
unfolding sum
sum-last f n = ap sum (map_last f n) ∙ sum-append (map f (up_from 0 n)) (f n ∷ []) ∙ omega arith

zeros-none : (f : ℕ → ℕ) (n : ℕ) → f n ≡ 0 → zeros (map f (up_from 0 (suc n))) ≡ zeros (map f (up_from 0 n)) + 1
unfolding zeros
zeros-none f n e = ap zeros (map_last f n) ∙ zeros-append (map f (up_from 0 n)) (f n ∷ []) ∙ rw e

pub zeros-one : (x : ℕ) → (x ≡ 0 → ⊥) → zeros (x ∷ []) ≡ 0
unfolding zeros
zeros-one zero n = absurd (n refl)
zeros-one (suc x) n = refl

zeros-some : (f : ℕ → ℕ) (n : ℕ) → 1 ≤ f n → zeros (map f (up_from 0 (suc n))) ≡ zeros (map f (up_from 0 n))
zeros-some f n h =
    let e = zeros-one (f n) (λ z. omega arith) in
    ap zeros (map_last f n) ∙ zeros-append (map f (up_from 0 n)) (f n ∷ []) ∙ omega (arith, e)

-- `Hidden` takes the longest
evaluate_hidden : (t : Table) (j : ℕ) → is_hidden (column_at t j) ≡ true → evaluate t j ≡ some (doc.longest t j)
unfolding evaluate
evaluate_hidden t j e = rw (e, evaluate)

no-width : (n j : ℕ) → get_or {A = ℕ} (replicate n 0) j 0 ≡ 0
no-width zero j = refl
no-width (suc n) zero = refl
no-width (suc n) (suc j) = no-width n j

-- what a column takes off the target at first
taken_hidden : (t : Table) (j : ℕ) → is_hidden (column_at t j) ≡ true → taken t j ≡ 0
unfolding taken
taken_hidden t j e = rw (e, taken)

taken-shown : (t : Table) (j : ℕ) → is_hidden (column_at t j) ≡ false → taken t j ≡ doc.first t j + padding (column_at t j)
unfolding taken
taken-shown t j e = rw (e, taken)

module _ (l : Layout) (t : Table) (d : Describes l t) (few : length l.columns.items ≤ most_columns) where
  -- i columns have had their first step
  record Begun (i : ℕ) (s : State) : Type 0 where
    long : length s.widths ≡ most_columns
    fits : s.decided.0 < 2 ^ set_width
    seen : s.visible ≡ length (doc.visible t)
    unspent : s.remaining ≡ 0
    done : (j : ℕ) → j < i → get_or s.widths j 0 ≡ doc.first t j
    todo : (j : ℕ) → i ≤ j → get_or s.widths j 0 ≡ 0
    known : (j : ℕ) → j < i → decided (column l j) j s ≡ not (eqb (doc.first t j) 0)
    out : (j : ℕ) → i ≤ j → bit s.decided.0 j ≡ 0
    counted : zeros (map (doc.first t) (up_from 0 i)) + ones s.decided.0 ≡ length (keep (shown t) (up_from 0 i))

  module _ (i : ℕ) (s : State) (h : i < length l.columns.items) (b : Begun i s) where
    -- a width that is noted for column i, and what stands elsewhere
    set_done : (v : ℕ) → v ≡ doc.first t i → (j : ℕ) → j < suc i → get_or (set s.widths i v) j 0 ≡ doc.first t j
    set_done v e j k =
        by_place (λ (x : ℕ). x < suc i → get_or (set s.widths i v) x 0 ≡ doc.first t x) j i
        (λ q. get_or-set_same s.widths i v 0 (omega (arith, b.long, few)) ∙ e) (λ n q. get_or-set_other s.widths i j v 0 n ∙ b.done j (omega arith)) k

    set_todo : (v j : ℕ) → suc i ≤ j → get_or (set s.widths i v) j 0 ≡ 0
    set_todo v j k = get_or-set_other s.widths i j v 0 (λ e. omega arith) ∙ b.todo j (omega arith)

    -- the others are decided as they were
    now_known : (u : State) → decided (column l i) i u ≡ not (eqb (doc.first t i) 0) → ((j : ℕ) → j < i → decided (column l j) j u ≡ decided (column l j) j s) → (j : ℕ) → j < suc i
        → decided (column l j) j u ≡ not (eqb (doc.first t j) 0)
    now_known u e f j k =
        by_place (λ (x : ℕ). x < suc i → decided (column l x) x u ≡ not (eqb (doc.first t x) 0)) j i
        (λ q. e) (λ n q. f j (omega arith) ∙ b.known j (omega arith)) k

    hide-begun : is_hidden (column_at t i) ≡ true → Begun (suc i) (hide l i s)
    unfolding doc.first noted
    hide-begun e =
        let v : doc.first t i ≡ lifted (doc.longest t i) = ap noted (evaluate_hidden t i e) in
        let n : eqb (doc.first t i) 0 ≡ false = ne_eqb (doc.first t i) 0 (omega arith) in
        record {
          long = length-set s.widths i _ ∙ b.long;
          fits = b.fits;
          seen = b.seen;
          unspent = b.unspent;
          done = set_done (lifted (longest l i)) (ap lifted (longest_as l t d i h) ∙ sym v);
          todo = set_todo (lifted (longest l i));
          known = now_known (hide l i s) (rw (n, hidden_as l t d i, e)) (λ j k. refl);
          out = λ j k. b.out j (omega arith);
          counted = omega (arith, b.counted, zeros-some (doc.first t) i (omega arith), ap length (keep_no (shown t) i (ap not e)));
        }

    open-visible : is_hidden (column_at t i) ≡ false → decided (column l i) i s ≡ false
    open-visible e = rw (hidden_as l t d i, e, b.out i (omega arith))

    length-shown : is_hidden (column_at t i) ≡ false → length (keep (shown t) (up_from 0 (suc i))) ≡ length (keep (shown t) (up_from 0 i)) + 1
    length-shown e = ap length (keep_yes (shown t) i (ap not e)) ∙ length-append (keep (shown t) (up_from 0 i)) (i ∷ [])

    keep-begun : is_hidden (column_at t i) ≡ false → evaluate t i ≡ none → Begun (suc i) s
    unfolding doc.first noted
    keep-begun e n =
        let v : doc.first t i ≡ 0 = rw n in
        record {
          long = b.long;
          fits = b.fits;
          seen = b.seen;
          unspent = b.unspent;
          done = λ j k. by_place (λ (x : ℕ). x < suc i → get_or s.widths x 0 ≡ doc.first t x) j i (λ q. b.todo i (omega arith) ∙ sym v)
              (λ m q. b.done j (omega arith)) k;
          todo = λ j k. b.todo j (omega arith);
          known = now_known s (rw v (open-visible e)) (λ j k. refl);
          out = λ j k. b.out j (omega arith);
          counted = omega (arith, b.counted, zeros-none (doc.first t) i v, length-shown e);
        }

    take-begun : (w : ℕ) → is_hidden (column_at t i) ≡ false → evaluate t i ≡ some w → Begun (suc i) (fixed s i w)
    unfolding doc.first noted
    take-begun w e n =
        let v : doc.first t i ≡ lifted w = rw n in
        let m : eqb (doc.first t i) 0 ≡ false = ne_eqb (doc.first t i) 0 (omega arith) in
        let z : bit s.decided.0 i ≡ 0 = b.out i (omega arith) in
        record {
          long = length-set s.widths i _ ∙ b.long;
          fits = add-lt set_width s.decided.0 i (omega (arith, few)) b.fits z;
          seen = b.seen;
          unspent = omega (arith, b.unspent);
          done = set_done (lifted w) (sym v);
          todo = set_todo (lifted w);
          known = now_known (fixed s i w) (rw (m, hidden_as l t d i, e, bit-same i s.decided.0 z))
              (λ j k. rw (bit-other i j s.decided.0 z (λ q. omega arith)));
          out = λ j k. bit-other i j s.decided.0 z (λ q. omega arith) ∙ b.out j (omega arith);
          counted = omega (arith, b.counted, count_add i s.decided.0 z, zeros-some (doc.first t) i (omega arith), length-shown e);
        }

    taking-begun : (o : Option ℕ) → is_hidden (column_at t i) ≡ false → evaluate t i ≡ o → Begun (suc i) (taking s i o)
    taking-begun none e n = keep-begun e n
    taking-begun (some w) e n = take-begun w e n

    evaluated-begun : Begun (suc i) (evaluated l (column l i) i s)
    unfolding evaluated
    evaluated-begun = go (is_hidden (column_at t i)) refl
      where
        go : (x : Bool) → is_hidden (column_at t i) ≡ x
            → Begun (suc i) (choose (is_hidden (column l i)) (hide l i s) (choose (decided (column l i) i s) s (taking s i (first l i s))))
        go true e = rw (hidden_as l t d i, e) (hide-begun e)
        go false e = let o = open-visible e in rw (o, hidden_as l t d i, e) (taking-begun (first l i s) e (sym (first_as l t d i s h b.seen e)))

  begun-begun : Begun 0 (begun l)
  unfolding up_from keep zeros ones ones_in
  begun-begun =
      record {
        long = refl;
        fits = omega arith;
        seen = visible_as l t d;
        unspent = refl;
        done = λ j k. absurd (not-suc-le-zero k);
        todo = λ j k. no-width most_columns j;
        known = λ j k. absurd (not-suc-le-zero k);
        out = λ j k. zero_bit j;
        counted = refl;
      }

  started-begun : Begun (length l.columns.items) (started l)
  started-begun = order_induct Begun (λ i. evaluated l (column l i) i) (length l.columns.items) (begun l) (λ i s h b. evaluated-begun i s h b) begun-begun

  pub first-at : (j : ℕ) → j < length l.columns.items → get_or (map (doc.first t) (doc.numbers t)) j 0 ≡ doc.first t j
  unfolding doc.numbers
  first-at j h =
      let k : j < length t.columns = omega (arith, count_as l t d) in
      get_d_map (doc.first t) (up_from 0 (length t.columns)) j 0 0 (omega (arith, length-up_from 0 (length t.columns)))
      ∙ ap (doc.first t) (get_d-up_from 0 (length t.columns) j 0 k ∙ omega arith)

  length-first : length (map (doc.first t) (doc.numbers t)) ≡ length l.columns.items
  unfolding doc.numbers
  length-first = length-map (doc.numbers t) (doc.first t) ∙ length-up_from 0 (length t.columns) ∙ sym (count_as l t d)

  -- all columns have had their first step
  module _ (s : State) (b : Begun (length l.columns.items) s) where
    begun_widths : take (length l.columns.items) s.widths ≡ map (doc.first t) (doc.numbers t)
    begun_widths =
        let n : length (take (length l.columns.items) s.widths) ≡ length l.columns.items = length-take (length l.columns.items) s.widths ∙ omega (arith, b.long, few) in
        ext_get_or 0 (take (length l.columns.items) s.widths) (map (doc.first t) (doc.numbers t)) (n ∙ sym length-first)
        (λ j h. (let k : j < length l.columns.items = omega arith in get_or-take (length l.columns.items) s.widths j 0 k ∙ b.done j k ∙ sym (first-at j k)))

    begun_agrees : (r q : ℕ) → r ≡ q
        → Agrees l t (record { widths = s.widths; decided = s.decided; remaining = r; visible = s.visible })
        (record { widths = map (doc.first t) (doc.numbers t); remaining = q })
    unfolding doc.visible doc.numbers
    begun_agrees r q e =
        record {
          long = b.long;
          fits = b.fits;
          widths = begun_widths;
          past = b.todo;
          noted = λ j h. b.known j h ∙ ap (λ (x : ℕ). not (eqb x 0)) (sym (first-at j h));
          seen = b.seen;
          counted = rw (← count_as l t d) b.counted;
          remaining = e;
        }

    charged_as : (i r : ℕ) → i < length l.columns.items → charged (column l i) (decided_width s i) r ≡ r - taken t i
    unfolding charged
    charged_as i r h = go (is_hidden (column_at t i)) (eqb (bit s.decided.0 i) 1) refl refl
      where
        go : (x y : Bool) → is_hidden (column_at t i) ≡ x → eqb (bit s.decided.0 i) 1 ≡ y
            → choose (is_hidden (column l i)) r (r - (unwrap_or (decided_width s i) 0 + padding (column l i))) ≡ r - taken t i
        go true y e q = rw (hidden_as l t d i, e, taken_hidden t i e) (omega arith)
        go false true e q = rw (hidden_as l t d i, e, q, taken-shown t i e, b.done i h, column_as l t d i)
        go false false e q =
            let k : decided (column l i) i s ≡ false = rw (hidden_as l t d i, e) q in
            let z : doc.first t i ≡ 0 = eqb-true (doc.first t i) 0 (not-false (eqb (doc.first t i) 0) (sym (b.known i h) ∙ k)) in
            rw (hidden_as l t d i, e, q, taken-shown t i e, z, column_as l t d i) (omega arith)

    remaining_below : (n r : ℕ) → n ≤ length l.columns.items → in_order (λ i. charged (column l i) (decided_width s i)) n r ≡ r - sum (map (taken t) (up_from 0 n))
    unfolding in_order sum up_from
    remaining_below zero r h = omega arith
    remaining_below (suc n) r h =
        charged_as n (in_order (λ i. charged (column l i) (decided_width s i)) n r) h ∙ omega (arith, remaining_below n r (omega arith), sum-last (taken t) n)

    remaining_as : remaining l s ≡ t.target - doc.borders t - sum (map (taken t) (doc.numbers t))
    unfolding doc.numbers
    remaining_as =
        remaining_below (length l.columns.items) (unwrap_or (room l s.visible) 0) (omega arith) ∙ rw (room_as l t d s.visible b.seen, count_as l t d)

  -- no target, or `Disabled`: nothing is charged
  pub started_agrees : Agrees l t (started l) (record { widths = map (doc.first t) (doc.numbers t); remaining = 0 })
  started_agrees = let b = started-begun in begun_agrees (started l) b (started l).remaining 0 b.unspent

  -- with a target
  pub targeted_agrees : Agrees l t (targeted l (started l)) (doc.start t)
  unfolding doc.start
  targeted_agrees = let b = started-begun in begun_agrees (started l) b (remaining l (started l)) _ (remaining_as (started l) b)
