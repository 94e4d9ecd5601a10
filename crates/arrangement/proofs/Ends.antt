-- Widths without a target, and step 4: what the code ends with is what the definitions give. Assumes nothing.
use Prim.Native.Nat.{ℕ, zero, suc, ◌+◌, ◌-◌, ◌/◌, ◌%◌, ◌≤◌, ◌<◌, max}
use mathlib.Core.Path.{◌≡◌, refl, sym, ap, ◌∙◌}
use mathlib.Core.Bool.{Bool, true, false, not}
use mathlib.Core.List.{List, [], ◌∷◌, ◌++◌, map, append-nil}
use mathlib.Core.Option.{Option, none, some}
use native.Mathlib.Nat.{not-suc-le-zero}
use native.Mathlib.Omega.{arith}
use lib.ListN.{length, get_or, take, set, length-append}
use lib.Seq.{set-get_or, take-suc, take_all}
use lib.Dec.{eqb, ltb}
use borrow.Author.Tests.{eqb-true, eqb-false, not-false, lt-ltb, le-ltb}
use Rattle.rules.specs.Text.{up_from, keep, one_if, or_else, All}
use Rattle.rules.specs.Sheet.{Table, column_at, is_hidden, most_columns}
use Rattle.rules.specs.Widths as doc
use Rattle.rules.specs.Widths.{lifted, content_of, zeros, is_undecided, fix, fix_at, visit, shared}
use Rattle.laws.proofs.Lists.{map_below, below-up_from, all_keep, all_imp, keep_append, keep_yes, keep_no}
use Rattle.laws.proofs.Contents.{share-some}
use Rattle.constraint.specs.declared.Layout.{Layout}
use Rattle.constraint.specs.declared.State.{State}
use Rattle.constraint.specs.Widths.{choose, in_order, column, undecided, decided, fixed, pass}
use Rattle.constraint.proofs.Bits.{bit-other}
use Rattle.constraint.proofs.Laws.{open-bit}
use Rattle.style.specs.Table.{is_full}
use Rattle.style.proofs.Laws.{full_as}
use Rattle.sharing.specs.Share.{Sharing, share, sharing, distributed, widened, widening, filled, finished}
use Rattle.arrangement.specs.Arrange.{trimmed, untargeted, started}
use Rattle.arrangement.specs.Describes.{Describes}
use Rattle.arrangement.proofs.Rounds.{order_induct}
use Rattle.arrangement.proofs.Cases.{by_place, unlike}
use Rattle.arrangement.proofs.Offers.{count_as, shown, hidden_as, untrimmed, untargeted-same}
use Rattle.arrangement.proofs.Agrees.{Agrees, length_as, width_as, pass_agrees}
use Rattle.arrangement.proofs.Begins.{started_agrees, first-at, zeros-append, zeros-one}
use Rattle.arrangement.proofs.Placed.{placed, length-placed, placed_above, placed-take}

-- the widths of the columns are cs, and none stands past them
pub record Widths (l : Layout) (cs : List ℕ) (s : State) : Type 0 where
  pub long : length s.widths ≡ most_columns
  pub widths : take (length l.columns.items) s.widths ≡ cs
  pub past : (j : ℕ) → length l.columns.items ≤ j → get_or s.widths j 0 ≡ 0

share_as : (n parts k : ℕ) → share n parts k ≡ doc.share n parts k
unfolding doc.share
share_as n parts k = go (ltb k (n % parts))
  where
    go : (b : Bool) → choose b (n / parts + 1) (n / parts) ≡ n / parts + one_if b
    go true = refl
    go false = omega arith

-- what is noted stays
or_else-noted : (w v : ℕ) → (w ≡ 0 → ⊥) → or_else w v ≡ w
or_else-noted zero v n = absurd (n refl)
or_else-noted (suc w) v n = refl

-- one column more, noted or not
zeros-take-none : (ws : List ℕ) (i : ℕ) → i < length ws → get_or ws i 0 ≡ 0 → zeros (take (suc i) ws) ≡ zeros (take i ws) + 1
unfolding zeros
zeros-take-none ws i h e = ap zeros (take-suc ws i 0 h) ∙ zeros-append (take i ws) (get_or ws i 0 ∷ []) ∙ rw e

zeros-take-some : (ws : List ℕ) (i : ℕ) → i < length ws → (get_or ws i 0 ≡ 0 → ⊥) → zeros (take (suc i) ws) ≡ zeros (take i ws)
zeros-take-some ws i h n = ap zeros (take-suc ws i 0 h) ∙ zeros-append (take i ws) (get_or ws i 0 ∷ []) ∙ omega (arith, zeros-one (get_or ws i 0) n)

-- of the first columns, those below j
keep_all : (p : ℕ → Bool) (xs : List ℕ) → All (λ x. p x ≡ true) xs → keep p xs ≡ xs
unfolding keep
keep_all p [] h = refl
keep_all p (x ∷ xs) h = rw (h.0, keep) (ap (λ (l : List ℕ). x ∷ l) (keep_all p xs h.1))

dropped : (q : ℕ → Bool) (xs : List ℕ) (n : ℕ) → q n ≡ false → keep q (xs ++ (n ∷ [])) ≡ keep q xs
unfolding keep
dropped q xs n e = let z : keep q (n ∷ []) ≡ [] = rw (e, keep) in keep_append q xs (n ∷ []) ∙ rw (z, append-nil)

-- visible columns below j, of all or of the first j
keep_below : (p : ℕ → Bool) (j m : ℕ) → keep (λ i. ltb i j) (keep p (up_from 0 (j + m))) ≡ keep p (up_from 0 j)
keep_below p j zero =
    let e : j + 0 ≡ j = omega arith in
    let below = all_imp (λ i. i < j) (λ i. ltb i j ≡ true) (λ i h. lt-ltb i j h) (up_from 0 j) (below-up_from 0 j j (omega arith)) in
    rw e (keep_all (λ i. ltb i j) (keep p (up_from 0 j)) (all_keep (λ i. ltb i j ≡ true) p (up_from 0 j) below))
keep_below p j (suc m) = let e : j + suc m ≡ suc (j + m) = omega arith in rw e (go (p (j + m)) refl (keep_below p j m))
  where
    go : (b : Bool) → p (j + m) ≡ b → keep (λ i. ltb i j) (keep p (up_from 0 (j + m))) ≡ keep p (up_from 0 j)
        → keep (λ i. ltb i j) (keep p (up_from 0 (suc (j + m)))) ≡ keep p (up_from 0 j)
    go true q h = rw (keep_yes p (j + m) q) (dropped (λ i. ltb i j) (keep p (up_from 0 (j + m))) (j + m) (le-ltb (j + m) j (omega arith)) ∙ h)
    go false q h = rw (keep_no p (j + m) q) h

-- none is kept: each fails
none_kept : (p : ℕ → Bool) (n : ℕ) → length (keep p (up_from 0 n)) ≡ 0 → (j : ℕ) → j < n → p j ≡ false
none_kept p zero e j h = absurd (not-suc-le-zero h)
none_kept p (suc n) e j h = go (p n) refl (λ z. none_kept p n z j)
  where
    go : (b : Bool) → p n ≡ b → (length (keep p (up_from 0 n)) ≡ 0 → j < n → p j ≡ false) → p j ≡ false
    go true q i = absurd (omega (arith, e, ap length (keep_yes p n q) ∙ length-append (keep p (up_from 0 n)) (n ∷ [])))
    go false q i = by_place (λ (x : ℕ). (x < n → p x ≡ false) → p x ≡ false) j n (λ z. q) (λ m z. z (omega arith)) (i (sym (ap length (keep_no p n q)) ∙ e))

-- what is placed as it was
placed_same : (ws : List ℕ) (n : ℕ) → placed (λ j w. w) n ws ≡ ws
unfolding placed
placed_same ws zero = refl
placed_same ws (suc n) = set-get_or (placed (λ j w. w) n ws) n 0 ∙ placed_same ws n

module _ (l : Layout) (t : Table) (d : Describes l t) (few : length l.columns.items ≤ most_columns) where
  -- ---- no target, or `Disabled`

  settled_at : ℕ → ℕ → ℕ
  settled_at j w = or_else w (doc.untargeted t j)

  -- what is offered, 0 made 1
  untrimmed-lifted : (j : ℕ) → lifted (trimmed (column_at t j) (doc.longest t j) (doc.upper t (column_at t j))) ≡ doc.untargeted t j
  unfolding doc.untargeted doc.below_longest
  untrimmed-lifted j = go (doc.upper t (column_at t j))
    where
      else : Option ℕ → ℕ
      else o = elim o as (λ x. ℕ) [ some w ↦ w | none ↦ lifted (doc.longest t j) ]

      by_test : (b : ℕ) (x : Bool) → lifted (elim x as (λ x. ℕ) [ true ↦ content_of (column_at t j) b | false ↦ doc.longest t j ])
          ≡ else (elim x as (λ x. Option ℕ) [ true ↦ some (content_of (column_at t j) b) | false ↦ none ])
      by_test b true = omega arith
      by_test b false = refl

      go : (o : Option ℕ) → lifted (trimmed (column_at t j) (doc.longest t j) o) ≡ else (elim o as (λ x. Option ℕ) [
        | some b ↦ elim (ltb b (doc.longest t j)) as (λ x. Option ℕ) [ true ↦ some (content_of (column_at t j) b) | false ↦ none ]
        | none ↦ none
      ])
      go (some b) = by_test b (ltb b (doc.longest t j))
      go none = refl

  fix-untrimmed : (j a : ℕ) (u : doc.State) → (fix_at j (untrimmed l t d j a) u).widths ≡ set u.widths j (doc.untargeted t j)
  unfolding untrimmed fix_at fix
  fix-untrimmed j a u = ap (λ (v : ℕ). set u.widths j v) (untrimmed-lifted j)

  visit-untrimmed : (j : ℕ) (u : doc.State) → (visit (untrimmed l t d) j u).widths ≡ set u.widths j (settled_at j (get_or u.widths j 0))
  unfolding visit settled_at
  visit-untrimmed j u = go (is_undecided u j) refl
    where
      go : (b : Bool) → is_undecided u j ≡ b → (elim b as (λ x. doc.State) [ true ↦ fix_at j (untrimmed l t d j (doc.average u)) u | false ↦ u ]).widths
          ≡ set u.widths j (or_else (get_or u.widths j 0) (doc.untargeted t j))
      go true e = fix-untrimmed j (doc.average u) u ∙ rw (eqb-true (get_or u.widths j 0) 0 e)
      go false e = sym (rw (or_else-noted (get_or u.widths j 0) (doc.untargeted t j) (eqb-false (get_or u.widths j 0) 0 e)) (set-get_or u.widths j 0))

  pass-untrimmed : (u : doc.State) (n : ℕ) → (doc.pass (untrimmed l t d) n u).widths ≡ placed settled_at n u.widths
  unfolding doc.pass placed
  pass-untrimmed u zero = refl
  pass-untrimmed u (suc n) =
      visit-untrimmed n (doc.pass (untrimmed l t d) n u) ∙ ap (λ (ws : List ℕ). set ws n (settled_at n (get_or ws n 0))) (pass-untrimmed u n)

  -- the numbers of the columns, by the layout's count
  columns_of : (f : ℕ → ℕ) → map f (up_from 0 (length l.columns.items)) ≡ map f (doc.numbers t)
  unfolding doc.numbers
  columns_of f = ap (λ (n : ℕ). map f (up_from 0 n)) (count_as l t d)

  pub untargeted_widths : Widths l (map (λ j. or_else (doc.first t j) (doc.untargeted t j)) (doc.numbers t)) (pass untargeted l (started l))
  unfolding settled_at
  untargeted_widths =
      let u : doc.State = record { widths = map (doc.first t) (doc.numbers t); remaining = 0 } in
      let a = pass_agrees l t d few untargeted (untrimmed l t d) (untargeted-same l t d) (started l) u (started_agrees l t d few) in
      let n = length_as l t d few (started l) u (started_agrees l t d few) in
      let e = map_below (λ j. or_else (get_or u.widths j 0) (doc.untargeted t j)) (λ j. or_else (doc.first t j) (doc.untargeted t j)) 0 (length l.columns.items) (length l.columns.items)
      (omega arith) (λ j h. rw (first-at l t d few j h)) in
      let w : take (length l.columns.items) (placed settled_at (length l.columns.items) u.widths) ≡ map (λ j. or_else (get_or u.widths j 0) (doc.untargeted t j))
      (up_from 0 (length l.columns.items)) = placed-take settled_at u.widths (length l.columns.items) (omega arith) in
      let v : take (length l.columns.items) (placed settled_at (length l.columns.items) u.widths) ≡ placed settled_at (length l.columns.items) u.widths = take_all (length l.columns.items)
      (placed settled_at (length l.columns.items) u.widths) (omega (arith, length-placed settled_at u.widths (length l.columns.items))) in
      record {
        long = a.long;
        widths = a.widths ∙ pass-untrimmed u (length l.columns.items) ∙ sym v ∙ w ∙ e ∙ columns_of (λ j. or_else (doc.first t j) (doc.untargeted t j));
        past = a.past;
      }

  -- ---- step 4, for a state that agrees

  module _ (s : State) (u : doc.State) (a : Agrees l t s u) where
    -- the parts are as many as the undecided columns
    parts_as : undecided s ≡ doc.undecided u
    parts_as = omega (arith, a.seen, a.counted)

    -- widths placed column by column
    placed_widths : (f : ℕ → ℕ → ℕ) (g : ℕ → ℕ) (r : State) → r.widths ≡ placed f (length l.columns.items) s.widths
        → ((j : ℕ) → j < length l.columns.items → f j (get_or u.widths j 0) ≡ g j) → Widths l (map g (doc.numbers t)) r
    placed_widths f g r e h =
        let n : length l.columns.items ≤ length s.widths = omega (arith, a.long, few) in
        record {
          long = ap length e ∙ length-placed f s.widths (length l.columns.items) ∙ a.long;
          widths = ap (take (length l.columns.items)) e ∙ placed-take f s.widths (length l.columns.items) n
              ∙ map_below (λ j. f j (get_or s.widths j 0)) g 0 (length l.columns.items) (length l.columns.items) (omega arith) (λ j k. ap (f j) (width_as l t d few s u a j k) ∙ h j k)
              ∙ columns_of g;
          past = λ j k. ap (λ (ws : List ℕ). get_or ws j 0) e ∙ placed_above f s.widths (length l.columns.items) j k ∙ a.past j k;
        }

    amount : ℕ
    amount = max (doc.undecided u) u.remaining

    shared_at : ℕ → ℕ → ℕ
    shared_at j w = or_else w (doc.share amount (doc.undecided u) (zeros (take j u.widths)))

    -- i columns have had their part
    record Given (i : ℕ) (x : Sharing) : Type 0 where
      widths : x.state.widths ≡ placed shared_at i s.widths
      given : x.given ≡ zeros (take i u.widths)
      ahead : (j : ℕ) → i ≤ j → j < length l.columns.items → decided (column l j) j x.state ≡ decided (column l j) j s

    module _ (i : ℕ) (x : Sharing) (h : i < length l.columns.items) (g : Given i x) where
      -- what was noted of column i
      here : get_or x.state.widths i 0 ≡ get_or u.widths i 0
      here = ap (λ (ws : List ℕ). get_or ws i 0) g.widths ∙ placed_above shared_at s.widths i i (omega arith) ∙ width_as l t d few s u a i h

      long_enough : i < length u.widths
      long_enough = omega (arith, length_as l t d few s u a)

      given-decided : (get_or u.widths i 0 ≡ 0 → ⊥) → Given (suc i) x
      unfolding placed shared_at
      given-decided n =
          let e : shared_at i (get_or x.state.widths i 0) ≡ get_or x.state.widths i 0 = or_else-noted (get_or x.state.widths i 0) _
          (λ q. n (sym here ∙ q)) in
          record {
            widths = sym (set-get_or x.state.widths i 0) ∙ ap (λ (v : ℕ). set x.state.widths i v) (sym e)
                ∙ ap (λ (ws : List ℕ). set ws i (shared_at i (get_or ws i 0))) g.widths;
            given = g.given ∙ sym (zeros-take-some u.widths i long_enough n);
            ahead = λ j k q. g.ahead j (omega arith) q;
          }

      given_open : (v : ℕ) → v ≡ doc.share amount (doc.undecided u) (zeros (take i u.widths)) → 1 ≤ v → get_or u.widths i 0 ≡ 0
          → decided (column l i) i x.state ≡ false
          → Given (suc i) (record { state = fixed x.state i v; given = x.given + 1 })
      unfolding placed shared_at
      given_open v p q z o =
          let b = open-bit (column l i) i x.state o in
          let e : lifted v ≡ shared_at i (get_or x.state.widths i 0) = omega arith ∙ p ∙ rw (here ∙ z) in
          record {
            widths = ap (λ (v : ℕ). set x.state.widths i v) e ∙ ap (λ (ws : List ℕ). set ws i (shared_at i (get_or ws i 0))) g.widths;
            given = omega (arith, g.given, zeros-take-none u.widths i long_enough z);
            ahead = λ j k q. rw (bit-other i j x.state.decided.0 b (λ e. omega arith)) (g.ahead j (omega arith) q);
          }

      sharing_given : 1 ≤ doc.undecided u → Given (suc i) (sharing l (max s.remaining (undecided s)) (undecided s) i x)
      unfolding sharing amount
      sharing_given m = go (decided (column l i) i x.state) refl
        where
          told : decided (column l i) i x.state ≡ not (is_undecided u i)
          told = g.ahead i (omega arith) h ∙ a.noted i h

          c : max s.remaining (undecided s) ≡ amount
          c = omega (arith, a.remaining, parts_as)

          p : share (max s.remaining (undecided s)) (undecided s) x.given ≡ doc.share amount (doc.undecided u) (zeros (take i u.widths))
          p = share_as (max s.remaining (undecided s)) (undecided s) x.given ∙ rw (c, parts_as, g.given)

          go : (b : Bool) → decided (column l i) i x.state ≡ b
              → Given (suc i) (choose b x (record {
                state = fixed x.state i (share (max s.remaining (undecided s)) (undecided s) x.given);
                given = x.given + 1;
              }))
          go true e = given-decided (λ z. unlike true refl (sym e ∙ told ∙ rw z))
          go false e =
              let z = eqb-true (get_or u.widths i 0) 0 (not-false (is_undecided u i) (sym told ∙ e)) in
              let k = share-some amount (doc.undecided u) (zeros (take i u.widths)) m (omega arith) in
              given_open _ p (omega (arith, p)) z e

    given_begin : Given 0 (record { state = s; given = 0 })
    unfolding placed zeros
    given_begin = record { widths = refl; given = refl; ahead = λ j k q. refl }

    distributed_widths : 1 ≤ doc.undecided u → Widths l (map (shared u) (doc.numbers t)) (distributed l s)
    unfolding distributed shared shared_at amount
    distributed_widths m =
        let g = order_induct Given (sharing l (max s.remaining (undecided s)) (undecided s)) (length l.columns.items) (record { state = s; given = 0 })
        (λ i x h g. sharing_given i x h g m) given_begin in
        placed_widths shared_at (shared u) (distributed l s) g.widths (λ j k. refl)

    -- the remainder, shared by all that are visible
    widened_at : ℕ → ℕ → ℕ
    widened_at j w =
        elim (is_hidden (column_at t j)) as
        (λ x. ℕ) [ true ↦ w | false ↦ w + doc.share u.remaining (length (doc.visible t)) (length (keep (λ i. ltb i j) (doc.visible t))) ]

    widened_hidden : (j w : ℕ) → is_hidden (column_at t j) ≡ true → widened_at j w ≡ w
    unfolding widened_at
    widened_hidden j w e = rw (e, widened_at)

    widened-shown : (j w : ℕ) → is_hidden (column_at t j) ≡ false
        → widened_at j w ≡ w + doc.share u.remaining (length (doc.visible t)) (length (keep (λ i. ltb i j) (doc.visible t)))
    unfolding widened_at
    widened-shown j w e = rw (e, widened_at)

    -- the visible columns before column j
    before : (j : ℕ) → j ≤ length l.columns.items → length (keep (λ i. ltb i j) (doc.visible t)) ≡ length (keep (shown t) (up_from 0 j))
    unfolding doc.visible doc.numbers
    before j h =
        let e : j + (length t.columns - j) ≡ length t.columns = omega (arith, count_as l t d) in
        ap (λ (n : ℕ). length (keep (λ i. ltb i j) (keep (shown t) (up_from 0 n)))) (sym e) ∙ ap length (keep_below (shown t) j (length t.columns - j))

    record Widened (i : ℕ) (x : Sharing) : Type 0 where
      widths : x.state.widths ≡ placed widened_at i s.widths
      given : x.given ≡ length (keep (shown t) (up_from 0 i))

    widening-widened : (i : ℕ) (x : Sharing) → i < length l.columns.items → Widened i x → Widened (suc i) (widening l s.remaining s.visible i x)
    unfolding widening placed
    widening-widened i x h g = go (is_hidden (column_at t i)) refl
      where
        p : share s.remaining s.visible x.given ≡ doc.share u.remaining (length (doc.visible t)) (length (keep (λ i₁. ltb i₁ i) (doc.visible t)))
        p = share_as s.remaining s.visible x.given ∙ rw (a.remaining, a.seen, g.given, before i (omega arith))

        go : (b : Bool) → is_hidden (column_at t i) ≡ b
            → Widened (suc i) (choose (is_hidden (column l i)) x (record {
              state = widened x.state i (share s.remaining s.visible x.given);
              given = x.given + 1;
            }))
        go true e =
            let v = widened_hidden i (get_or x.state.widths i 0) e in
            rw (hidden_as l t d i, e) (record {
              widths = sym (set-get_or x.state.widths i 0) ∙ ap (λ (v : ℕ). set x.state.widths i v) (sym v)
                  ∙ ap (λ (ws : List ℕ). set ws i (widened_at i (get_or ws i 0))) g.widths;
              given = g.given ∙ sym (ap length (keep_no (shown t) i (ap not e)));
            })
        go false e =
            let v = ap (λ (n : ℕ). get_or x.state.widths i 0 + n) p ∙ sym (widened-shown i (get_or x.state.widths i 0) e) in
            rw (hidden_as l t d i, e) (record {
              widths = ap (λ (v : ℕ). set x.state.widths i v) v ∙ ap (λ (ws : List ℕ). set ws i (widened_at i (get_or ws i 0))) g.widths;
              given = omega (arith, g.given, ap length (keep_yes (shown t) i (ap not e)) ∙ length-append (keep (shown t) (up_from 0 i)) (i ∷ []));
            })

    widened_begin : Widened 0 (record { state = s; given = 0 })
    unfolding placed keep up_from
    widened_begin = record { widths = refl; given = refl }

    -- the definitions' widened width, by what is noted
    widened_as : (j : ℕ) → widened_at j (get_or u.widths j 0) ≡ doc.widened t u j
    unfolding widened_at doc.widened
    widened_as j = refl

    -- with no visible column there is nothing to widen
    all_hidden : length (doc.visible t) ≡ 0 → (j : ℕ) → j < length l.columns.items → is_hidden (column_at t j) ≡ true
    unfolding doc.visible doc.numbers
    all_hidden e j h = not-false (is_hidden (column_at t j)) (none_kept (shown t) (length t.columns) e j (omega (arith, count_as l t d)))

    unwidened : length (doc.visible t) ≡ 0 → Widths l (map (doc.widened t u) (doc.numbers t)) s
    unwidened e =
        placed_widths (λ j w. w) (doc.widened t u) s (sym (placed_same s.widths (length l.columns.items)))
        (λ j k. sym (widened_hidden j (get_or u.widths j 0) (all_hidden e j k)) ∙ widened_as j)

    filled_widths : Widths l (map (doc.widened t u) (doc.numbers t)) (filled l s)
    unfolding filled
    filled_widths = go (eqb s.visible 0) refl
      where
        g : Widened (length l.columns.items) (in_order (widening l s.remaining s.visible) (length l.columns.items) (record { state = s; given = 0 }))
        g = order_induct Widened (widening l s.remaining s.visible) (length l.columns.items) (record { state = s; given = 0 }) widening-widened widened_begin

        go : (b : Bool) → eqb s.visible 0 ≡ b
            → Widths l (map (doc.widened t u) (doc.numbers t))
            (choose b s (in_order (widening l s.remaining s.visible) (length l.columns.items) (record { state = s; given = 0 })).state)
        go true e = unwidened (sym a.seen ∙ eqb-true s.visible 0 e)
        go false e = placed_widths widened_at (doc.widened t u) _ g.widths (λ j k. widened_as j)

    -- step 4
    pub finished_widths : Widths l (doc.step4 t u) (finished l s)
    unfolding finished doc.step4
    finished_widths =
        go (eqb (undecided s) 0) (eqb (doc.undecided u) 0) (is_full l.arrangement) (eqb t.arrangement 2) (ap (λ (n : ℕ). eqb n 0) parts_as) refl
        (rw (d.arrangement, full_as t.arrangement))
      where
        go : (x y b c : Bool) → x ≡ y → eqb (doc.undecided u) 0 ≡ y → b ≡ c
            → Widths l (elim y as (λ x. List ℕ) [
              | false ↦ map (shared u) (doc.numbers t)
              | true ↦ elim c as (λ x. List ℕ) [ true ↦ map (doc.widened t u) (doc.numbers t) | false ↦ u.widths ]
            ])
            (choose x (choose b (filled l s) s) (distributed l s))
        go true true true true e q p = filled_widths
        go true true false false e q p = record { long = a.long; widths = a.widths; past = a.past }
        go false false b c e q p = let n = eqb-false (doc.undecided u) 0 q in distributed_widths (omega arith)
        go true true true false e q p = absurd (unlike true refl p)
        go true true false true e q p = absurd (unlike true refl (sym p))
        go true false b c e q p = absurd (unlike true refl e)
        go false true b c e q p = absurd (unlike true refl (sym e))
