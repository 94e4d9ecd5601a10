-- A pass over columns, and passes repeated until one fixes nothing: the laws that steps 1 to 3 share. Assumes nothing.
use Prim.Native.Nat.{ℕ, zero, suc, ◌+◌, ◌-◌, ◌^◌, ◌≤◌, ◌<◌}
use mathlib.Core.Path.{◌≡◌, refl, sym, ap, ◌∙◌, subst}
use mathlib.Core.Bool.{Bool, true, false, not}
use mathlib.Core.Option.{Option, none, some}
use native.Mathlib.Nat.{not-suc-le-zero}
use native.Mathlib.Omega.{arith}
use lib.ListN.{length}
use lib.Dec.{eqb}
use lib.Count.{ones, ones-le}
use borrow.Author.Tests.{eqb-false}
use Rattle.constraint.specs.declared.Layout.{Layout}
use Rattle.constraint.specs.declared.State.{State}
use Rattle.constraint.specs.Set.{set_width}
use Rattle.constraint.specs.Widths.{choose, in_order, column, decided, taking, Rule, step, pass}
use Rattle.constraint.proofs.Bits.{add-lt, count_add}
use Rattle.constraint.proofs.Laws.{open-bit}
use Rattle.arrangement.specs.Arrange.{again, repeated, turn}
use Rattle.rules.specs.Sheet.{most_columns}

-- what holds after i columns, by the columns
pub order_induct : {A : Type 0} (P : ℕ → A → Type 0) (f : ℕ → A → A) (n : ℕ) (x : A) → ((i : ℕ) (y : A) → i < n → P i y → P (suc i) (f i y)) → P 0 x
    → P n (in_order f n x)
unfolding in_order
order_induct P f zero x h p = p
order_induct P f (suc n) x h p = h n (in_order f n x) (omega arith) (order_induct P f n x (λ i y l q. h i y (omega arith) q) p)

-- what each column keeps, a pass keeps
pub order-keeps : {A : Type 0} (P : A → Type 0) (f : ℕ → A → A) (n : ℕ) (x : A) → ((i : ℕ) (y : A) → i < n → P y → P (f i y)) → P x → P (in_order f n x)
order-keeps P f n x h p = order_induct (λ i y. P y) f n x h p

-- t comes of s by fixing columns: none, and then it is s, or some
pub record Grew (s t : State) : Type 0 where
  pub small : t.decided.0 < 2 ^ set_width
  pub more : ones s.decided.0 ≤ ones t.decided.0
  pub same : ones t.decided.0 ≤ ones s.decided.0 → t ≡ s

pub grew_none : (s : State) → s.decided.0 < 2 ^ set_width → Grew s s
grew_none s l = record { small = l; more = omega arith; same = λ h. refl }

grew_trans : (s t u : State) → Grew s t → Grew t u → Grew s u
grew_trans s t u a b =
    record {
      small = b.small;
      more = omega (arith, a.more, b.more);
      same = λ h. b.same (omega (arith, a.more, b.more)) ∙ a.same (omega (arith, a.more, b.more));
    }

module _ (t : Layout) (i : ℕ) (s : State) (hi : i < set_width) (l : s.decided.0 < 2 ^ set_width) where
  step_cases : (b : Bool) (o : Option ℕ) → decided (column t i) i s ≡ b → Grew s (choose b s (taking s i o))
  step_cases true o e = grew_none s l
  step_cases false none e = grew_none s l
  step_cases false (some w) e =
      let z = open-bit (column t i) i s e in
      let n = count_add i s.decided.0 z in
      record { small = add-lt set_width s.decided.0 i hi l z; more = omega (arith, n); same = λ h. absurd (omega (arith, n)) }

  step_grew : (rule : Rule) → Grew s (step rule t i s)
  unfolding step
  step_grew rule = step_cases (decided (column t i) i s) (rule t i s) refl

module _ (t : Layout) (fits : length t.columns.items ≤ most_columns) (s : State) (l : s.decided.0 < 2 ^ set_width) where
  pub pass_grew : (rule : Rule) → Grew s (pass rule t s)
  pass_grew rule =
      order-keeps (λ (u : State). Grew s u) (step rule t) (length t.columns.items) s
      (λ i u h g. grew_trans s u (step rule t i u) g (step_grew t i u (omega arith) g.small rule))
      (grew_none s l)

  turn_cases : (rule : Rule) (b : Bool) → Grew s (choose b s (pass rule t s))
  turn_cases rule true = grew_none s l
  turn_cases rule false = pass_grew rule

  pub turn_grew : (ended : State → Bool) (rule : Rule) → Grew s (turn ended rule t s)
  turn_grew ended rule = turn_cases rule (ended s)

-- how many are undecided, at most
abbrev pub left : State → ℕ
left s = set_width - ones s.decided.0

left_falls : (s t : State) → Grew s t → eqb t.decided.0 s.decided.0 ≡ false → left t < left s
left_falls s t g e =
    let u = ones-le set_width t.decided.0 g.small in
    let n : ones t.decided.0 ≤ ones s.decided.0 → ⊥ = λ h. eqb-false t.decided.0 s.decided.0 e (ap (λ (x : State). x.decided.0) (g.same h)) in
    omega (arith, g.more)

pub again-stop : (k : ℕ) (f : State → State) (r : State) → eqb (f r).decided.0 r.decided.0 ≡ true → again (suc k) f r ≡ f r
unfolding again
again-stop k f r e = rw (e, again)

pub again_go : (k : ℕ) (f : State → State) (r : State) → eqb (f r).decided.0 r.decided.0 ≡ false → again (suc k) f r ≡ again k f (f r)
unfolding again
again_go k f r e = rw (e, again)

-- what is still to do: nothing, or passes with fuel that is enough
unfoldable pub Next : (State → State) → State → State → Bool → Type 0
Next f end r true = (k : ℕ) × (left r < k) × (again k f r ≡ end)
Next f end r false = r ≡ end

-- the loop's invariant
pub record Going (f : State → State) (end r : State) (more : Bool) : Type 0 where
  pub small : r.decided.0 < 2 ^ set_width
  pub next : Next f end r more

abbrev pub weight : Bool → ℕ
weight true = 1
weight false = 0

module _ (f : State → State) (s : State) where
  pub round_begin : s.decided.0 < 2 ^ set_width → Going f (repeated f s) s true
  unfolding Next
  round_begin l = record { small = l; next = (suc set_width, omega arith, refl) }

module _ (f : State → State) (end r : State) (more : Bool) (g : Going f end r more) where
  pub round_done : more ≡ false → r ≡ end
  unfolding Next
  round_done e = subst (λ (b : Bool). Next f end r b) e g.next

  module _ (e : more ≡ true) (u : State) (q : u ≡ f r) (w : Grew r (f r)) where
    grown : Grew r u
    grown = subst (λ (x : State). Grew r x) (sym q) w

    next_turn : (b : Bool) (k : ℕ) → eqb u.decided.0 r.decided.0 ≡ b → left r < k → again k f r ≡ end → Next f end u (not b)
    unfolding Next
    next_turn b zero z h p = absurd (not-suc-le-zero h)
    next_turn true (suc k) z h p =
        let y : eqb (f r).decided.0 r.decided.0 ≡ true = ap (λ (x : State). eqb x.decided.0 r.decided.0) (sym q) ∙ z in
        q ∙ sym (again-stop k f r y) ∙ p
    next_turn false (suc k) z h p =
        let y : eqb (f r).decided.0 r.decided.0 ≡ false = ap (λ (x : State). eqb x.decided.0 r.decided.0) (sym q) ∙ z in
        (k, omega (arith, left_falls r u grown z), ap (again k f) q ∙ sym (again_go k f r y) ∙ p)

    pub round-again : Going f end u (not (eqb u.decided.0 r.decided.0))
    unfolding Next
    round-again =
        let n = subst (λ (b : Bool). Next f end r b) e g.next in
        record { small = grown.small; next = next_turn (eqb u.decided.0 r.decided.0) n.0 refl n.1 n.2 }

    falls : (b : Bool) → eqb u.decided.0 r.decided.0 ≡ b → left u + weight (not b) < left r + 1
    falls true z = omega (arith, grown.more)
    falls false z = omega (arith, left_falls r u grown z)

    pub round_less : left u + weight (not (eqb u.decided.0 r.decided.0)) < left r + weight more
    round_less =
        subst (λ (b : Bool). left u + weight (not (eqb u.decided.0 r.decided.0)) < left r + weight b) (sym e) (falls (eqb u.decided.0 r.decided.0) refl)

pub ruleset rounds = (round_begin, round_done, round-again, round_less, turn_grew)
