-- The code's state and the definitions' agree, and go on agreeing: a visit, a pass, passes repeated. Assumes nothing.
use Prim.Native.Nat.{ℕ, zero, suc, ◌+◌, ◌-◌, ◌^◌, ◌≤◌, ◌<◌}
use mathlib.Core.Path.{◌≡◌, refl, sym, ap, ◌∙◌}
use mathlib.Core.Bool.{Bool, true, false, not}
use mathlib.Core.List.{List, [], ◌∷◌}
use mathlib.Core.Option.{Option, none, some}
use native.Mathlib.Nat.{not-suc-le-zero, le_of_suc-le-suc}
use native.Mathlib.Omega.{arith}
use lib.ListN.{length, get_or, take, set, length-set, length-take}
use lib.Seq.{get_or-set_same, get_or-set_other, get_or-take, take-set-lt}
use lib.Dec.{eqb}
use lib.Count.{ones}
use borrow.Author.Tests.{eqb-true, eqb-false, eq-eqb, ne_eqb, not-false}
use Rattle.rules.specs.Sheet.{Table, is_hidden, most_columns}
use Rattle.rules.specs.Widths as doc
use Rattle.rules.specs.Widths.{lifted, zeros, is_undecided, fix, fix_at, visit, run, run1, run2, run3, above_average, average_is_some, fitting_average, split_at_average, longest_part}
use Rattle.laws.proofs.Settled.{zeros-le, settled, settled-again, settled-last, settled-none, run_settled}
use Rattle.constraint.specs.declared.Layout.{Layout}
use Rattle.constraint.specs.declared.State.{State}
use Rattle.constraint.specs.Set.{bit, set_width}
use Rattle.constraint.specs.Widths.{choose, in_order, column, average, decided, fixed, taking, Rule, step, pass}
use Rattle.constraint.proofs.Bits.{add-lt, count_add, bit-same, bit-other}
use Rattle.constraint.proofs.Laws.{open-bit}
use Rattle.arrangement.specs.Arrange.{again, repeated, lower_rule, fit_rule, fit_pass, split_rule, step1, step2, step3}
use Rattle.arrangement.specs.Describes.{Describes}
use Rattle.arrangement.proofs.Rounds.{pass_grew, again-stop, again_go}
use Rattle.arrangement.proofs.Cases.{by_place, unlike}
use Rattle.arrangement.proofs.Offers.{count_as, SameRule, lower-same, fit_same, split-same}

-- the same widths, none past the columns; what is decided is noted; what is undecided and what is in the set make up the visible columns
pub record Agrees (l : Layout) (t : Table) (s : State) (u : doc.State) : Type 0 where
  pub long : length s.widths ≡ most_columns
  pub fits : s.decided.0 < 2 ^ set_width
  pub widths : take (length l.columns.items) s.widths ≡ u.widths
  pub past : (j : ℕ) → length l.columns.items ≤ j → get_or s.widths j 0 ≡ 0
  pub noted : (j : ℕ) → j < length l.columns.items → decided (column l j) j s ≡ not (is_undecided u j)
  pub seen : s.visible ≡ length (doc.visible t)
  pub counted : doc.undecided u + ones s.decided.0 ≡ length (doc.visible t)
  pub remaining : s.remaining ≡ u.remaining

-- a width that is noted where none was
pub zeros-set : (ws : List ℕ) (i v : ℕ) → i < length ws → get_or ws i 0 ≡ 0 → 1 ≤ v → zeros (set ws i v) + 1 ≡ zeros ws
unfolding zeros
zeros-set [] i v h e p = absurd (not-suc-le-zero h)
zeros-set (x ∷ ws) i zero h e p = absurd (not-suc-le-zero p)
zeros-set (zero ∷ ws) zero (suc v) h e p = omega arith
zeros-set (suc x ∷ ws) zero (suc v) h e p = absurd (omega arith)
zeros-set (zero ∷ ws) (suc i) (suc v) h e p = omega (arith, zeros-set ws i (suc v) (le_of_suc-le-suc h) e p)
zeros-set (suc x ∷ ws) (suc i) (suc v) h e p = omega (arith, zeros-set ws i (suc v) (le_of_suc-le-suc h) e p)

-- a column that is undecided is shown
pub undecided-shown : (l : Layout) (i : ℕ) (s : State) → decided (column l i) i s ≡ false → is_hidden (column l i) ≡ false
undecided-shown l i s e = go (is_hidden (column l i)) e
  where
    go : (b : Bool) → choose b true (eqb (bit s.decided.0 i) 1) ≡ false → b ≡ false
    go true h = h
    go false h = refl

module _ (l : Layout) (t : Table) (d : Describes l t) (few : length l.columns.items ≤ most_columns) where
  module _ (s : State) (u : doc.State) (a : Agrees l t s u) where
    pub average_as : average s ≡ doc.average u
    average_as = let e : s.visible - ones s.decided.0 ≡ doc.undecided u = omega (arith, a.seen, a.counted) in rw (e, a.remaining)

    pub length_as : length u.widths ≡ length l.columns.items
    length_as = ap length (sym a.widths) ∙ length-take (length l.columns.items) s.widths ∙ omega (arith, a.long, few)

    pub width_as : (j : ℕ) → j < length l.columns.items → get_or s.widths j 0 ≡ get_or u.widths j 0
    width_as j h = sym (get_or-take (length l.columns.items) s.widths j 0 h) ∙ ap (λ (ws : List ℕ). get_or ws j 0) a.widths

    module _ (i w : ℕ) (h : i < length l.columns.items) (o : decided (column l i) i s ≡ false) where
      z : bit s.decided.0 i ≡ 0
      z = open-bit (column l i) i s o

      was : get_or u.widths i 0 ≡ 0
      was = eqb-true (get_or u.widths i 0) 0 (not-false (is_undecided u i) (sym (a.noted i h) ∙ o))

      now-noted : decided (column l i) i (fixed s i w) ≡ not (is_undecided (fix i w u) i)
      unfolding fix
      now-noted =
          let k = length_as in
          let n : eqb (lifted w) 0 ≡ false = ne_eqb (lifted w) 0 (omega arith) in
          rw (undecided-shown l i s o, bit-same i s.decided.0 z, get_or-set_same u.widths i (lifted w) 0 (omega arith), n)

      still_noted : (j : ℕ) → j < length l.columns.items → (j ≡ i → ⊥) → decided (column l j) j (fixed s i w) ≡ not (is_undecided (fix i w u) j)
      unfolding fix
      still_noted j k n = rw (bit-other i j s.decided.0 z n, get_or-set_other u.widths i j (lifted w) 0 n) (a.noted j k)

      -- a column is fixed
      pub fix_agrees : Agrees l t (fixed s i w) (fix i w u)
      unfolding fix
      fix_agrees =
          record {
            long = length-set s.widths i (lifted w) ∙ a.long;
            fits = add-lt set_width s.decided.0 i (omega (arith, few)) a.fits z;
            widths = take-set-lt (length l.columns.items) s.widths i (lifted w) h ∙ ap (λ (ws : List ℕ). set ws i (lifted w)) a.widths;
            past = λ j k. get_or-set_other s.widths i j (lifted w) 0 (λ e. omega arith) ∙ a.past j k;
            noted = λ j k. by_place (λ (x : ℕ). x < length l.columns.items → decided (column l x) x (fixed s i w) ≡ not (is_undecided (fix i w u) x)) j i (λ q. now-noted)
                (λ n q. still_noted j q n) k;
            seen = a.seen;
            counted = omega (arith, a.counted, count_add i s.decided.0 z, zeros-set u.widths i (lifted w) (omega (arith, length_as)) was (omega arith));
            remaining = ap (λ (n : ℕ). n - w) a.remaining;
          }

    visit_go : (i : ℕ) → i < length l.columns.items → (b c : Bool) (o : Option ℕ) → decided (column l i) i s ≡ b → b ≡ not c
        → Agrees l t (choose b s (taking s i o)) (elim c as (λ x. doc.State) [ true ↦ fix_at i o u | false ↦ u ])
    unfolding fix_at
    visit_go i h true true o e n = absurd (unlike true refl n)
    visit_go i h true false o e n = a
    visit_go i h false true none e n = a
    visit_go i h false true (some w) e n = fix_agrees i w h e
    visit_go i h false false o e n = absurd (unlike true refl (sym n))

  -- an undecided column is visited by the same rule
  pub visit_agrees : (rule : Rule) (r : doc.Rule) → SameRule l t d rule r → (i : ℕ) → i < length l.columns.items → (s : State) (u : doc.State) → Agrees l t s u
      → Agrees l t (step rule l i s) (visit r i u)
  unfolding step visit
  visit_agrees rule r same i h s u a =
      let e : rule l i s ≡ r i (doc.average u) = same i s h a.seen ∙ ap (r i) (average_as s u a) in
      rw e (visit_go s u a i h (decided (column l i) i s) (is_undecided u i) (r i (doc.average u)) refl (a.noted i h))

  pass_below : (rule : Rule) (r : doc.Rule) → SameRule l t d rule r → (s : State) (u : doc.State) → Agrees l t s u → (n : ℕ) → n ≤ length l.columns.items
      → Agrees l t (in_order (step rule l) n s) (doc.pass r n u)
  unfolding in_order doc.pass
  pass_below rule r same s u a zero h = a
  pass_below rule r same s u a (suc n) h =
      visit_agrees rule r same n h (in_order (step rule l) n s) (doc.pass r n u) (pass_below rule r same s u a n (omega arith))

  pub pass_agrees : (rule : Rule) (r : doc.Rule) → SameRule l t d rule r → (s : State) (u : doc.State) → Agrees l t s u
      → Agrees l t (pass rule l s) (doc.pass r (length l.columns.items) u)
  pass_agrees rule r same s u a = pass_below rule r same s u a (length l.columns.items) (omega arith)

  module _ (f : State → State) (begins : doc.State → Bool) (rule : Rule) (r : doc.Rule) (same : SameRule l t d rule r)
      (turn : (s : State) (u : doc.State) → Agrees l t s u → begins u ≡ true → f s ≡ pass rule l s)
      (stay : (s : State) (u : doc.State) → Agrees l t s u → begins u ≡ false → f s ≡ s) where
    -- a pass that leaves the set as it was has fixed no column
    ends : (s : State) (u : doc.State) → Agrees l t s u → begins u ≡ true → (pass rule l s).decided.0 ≡ s.decided.0
        → Agrees l t (pass rule l s) (settled begins r (length l.columns.items) u)
    ends s u a b e =
        let p = pass_agrees rule r same s u a in
        let k : doc.undecided u ≤ doc.undecided (doc.pass r (length l.columns.items) u) = omega (arith, p.counted, a.counted, ap ones e) in
        rw (settled-last begins r (length l.columns.items) u b k) p

    -- one that changed it has fixed some
    falls : (s : State) (u : doc.State) → Agrees l t s u → ((pass rule l s).decided.0 ≡ s.decided.0 → ⊥) → doc.undecided (doc.pass r (length l.columns.items) u) < doc.undecided u
    falls s u a n =
        let p = pass_agrees rule r same s u a in
        let g = pass_grew l few s a.fits rule in
        let m : ones (pass rule l s).decided.0 ≤ ones s.decided.0 → ⊥ = λ h. n (ap (λ (x : State). x.decided.0) (g.same h)) in
        omega (arith, p.counted, a.counted, g.more)

    -- passes by the set are passes by the undecided count
    again_agrees : (k : ℕ) (s : State) (u : doc.State) → doc.undecided u < k → Agrees l t s u → Agrees l t (again k f s) (settled begins r (length l.columns.items) u)
    again_agrees zero s u h a = absurd (not-suc-le-zero h)
    again_agrees (suc k) s u h a =
        go (begins u) (eqb (f s).decided.0 s.decided.0) refl refl
        (λ m. again_agrees k (pass rule l s) (doc.pass r (length l.columns.items) u) m (pass_agrees rule r same s u a))
      where
        go : (b c : Bool) → begins u ≡ b → eqb (f s).decided.0 s.decided.0 ≡ c
            → (doc.undecided (doc.pass r (length l.columns.items) u) < k → Agrees l t (again k f (pass rule l s)) (settled begins r (length l.columns.items) (doc.pass r (length l.columns.items) u)))
            → Agrees l t (again (suc k) f s) (settled begins r (length l.columns.items) u)
        go true true b c i =
            let e = turn s u a b in
            rw (again-stop k f s c, e) (ends s u a b (eqb-true (pass rule l s).decided.0 s.decided.0 (rw e at c)))
        go true false b c i =
            let e = turn s u a b in
            let m = falls s u a (eqb-false (pass rule l s).decided.0 s.decided.0 (rw e at c)) in
            rw (again_go k f s c, e, settled-again begins r (length l.columns.items) u b m) (i (omega arith))
        go false c b q i =
            let e = stay s u a b in
            rw (again-stop k f s (rw e (eq-eqb s.decided.0 s.decided.0 refl)), e, settled-none begins r (length l.columns.items) u b) a

    pub repeated_agrees : (s : State) (u : doc.State) → Agrees l t s u
        → Agrees l t (repeated f s) (run begins r (length t.columns) (suc (length t.columns)) u).left
    repeated_agrees s u a =
        let n = length_as s u a in
        rw (← count_as l t d, run_settled begins r (length l.columns.items) u n) (again_agrees (suc set_width) s u (omega (arith, zeros-le u.widths, few)) a)

  -- steps 1 to 3
  pub step1_agrees : (s : State) (u : doc.State) → Agrees l t s u → Agrees l t (step1 l s) (doc.step1 t u)
  unfolding doc.step1 run1
  step1_agrees s u a =
      repeated_agrees (pass lower_rule l) (λ s. true) lower_rule (above_average t) (lower-same l t d) (λ s u a e. refl)
      (λ s u a e. absurd (unlike true refl e)) s u a

  pub step2_agrees : (s : State) (u : doc.State) → Agrees l t s u → Agrees l t (step2 l s) (doc.step2 t u)
  unfolding doc.step2 run2
  step2_agrees s u a = repeated_agrees (fit_pass l) average_is_some fit_rule (fitting_average t) (fit_same l t d) turn stay s u a
    where
      turn : (s : State) (u : doc.State) → Agrees l t s u → average_is_some u ≡ true → fit_pass l s ≡ pass fit_rule l s
      turn s u a e = go (eqb (average s) 0) (rw (← average_as s u a) at e)
        where
          go : (b : Bool) → not b ≡ true → choose b s (pass fit_rule l s) ≡ pass fit_rule l s
          go true q = absurd (unlike true refl (sym q))
          go false q = refl

      stay : (s : State) (u : doc.State) → Agrees l t s u → average_is_some u ≡ false → fit_pass l s ≡ s
      stay s u a e = go (eqb (average s) 0) (rw (← average_as s u a) at e)
        where
          go : (b : Bool) → not b ≡ false → choose b s (pass fit_rule l s) ≡ s
          go true q = refl
          go false q = absurd (unlike true refl q)

  pub step3_agrees : (parts : ℕ → ℕ → ℕ) → ((j a : ℕ) → j < length l.columns.items → parts j a ≡ longest_part t j a) → (s : State) (u : doc.State) → Agrees l t s u
      → Agrees l t (step3 parts l s) (doc.step3 t u)
  unfolding doc.step3 run3
  step3_agrees parts p s u a =
      repeated_agrees (pass (split_rule parts) l) (λ s. true) (split_rule parts) (split_at_average t) (split-same l t d parts p) (λ s u a e. refl)
      (λ s u a e. absurd (unlike true refl e)) s u a
