-- A field that was taken, judged and put: one law for each way out of the code. Assumes nothing.
use Prim.Native.Nat.{ℕ, zero, suc, ◌+◌, ◌-◌, ◌/◌, ◌%◌, ◌≤◌, ◌<◌}
use mathlib.Core.Path.{◌≡◌, refl, sym, ap, ◌∙◌}
use mathlib.Core.List.{List, [], ◌∷◌, map}
use mathlib.Core.Bool.{Bool, true, false}
use native.Mathlib.Omega.{arith}
use lib.ListN.{length, set, length-set}
use borrow.Author.Tests.{le-leb, lt-leb}
use Rattle.rules.specs.Text.{or_else}
use Rattle.rules.specs.Description.{word, writes}
use Rattle.rules.specs.Writer.{passes}
use Rattle.rules.specs.Steps.{Step}
use Rattle.buffer.specs.Put.{put_at}
use Rattle.buffer.proofs.Laws.{put_one, put-put}
use Rattle.editor.specs.Walk.{Walk}
use Rattle.editor.specs.declared.walk.Walk.{Walk as Going}
use Rattle.rules.specs.Steps.{At, Refused, refused_as}
use Rattle.rules.specs.Refusals.{number_of}
use Rattle.rules.specs.declared.Refusal.{Refusal}
use Rattle.rules.proofs.Refusals.{number_some}
use Rattle.std.specs.Prelude.{Option, Some, None}
use Rattle.std.specs.Option.{is_some}
use Rattle.editor.specs.Walk.{cap, State, state, walk_of, first_place, noted, advanced, stamped, low, entered}

-- ---- places

pub cap_under : (n : ℕ) → n ≤ 32769 → n ≡ cap n
unfolding cap
cap_under n h = omega arith

pub cap-most : (n : ℕ) → cap n ≤ 32769
unfolding cap
cap-most n = omega arith

-- from a place that is one number for all, further on
pub cap_more : (a b : ℕ) → cap (cap a + b) ≡ cap (a + b)
unfolding cap
cap_more a b = omega arith

pub cap_twice : (n : ℕ) → cap (cap n) ≡ cap n
unfolding cap
cap_twice n = omega arith

-- ---- the first fault

pub or-none : (f : ℕ) → f ≡ or_else f 0
or-none zero = refl
or-none (suc f) = refl

first_kept : (f : ℕ) → (f ≡ 0 → ⊥) → (n a b : ℕ) → (f ≡ or_else f n) × (a ≡ first_place f a b)
unfolding first_place
first_kept zero h n a b = absurd (h refl)
first_kept (suc f) h n a b = (refl, refl)

-- nothing to note
pub noted_none : (w : Walk) (p : ℕ) → w ≡ noted (At p) w
unfolding noted
noted_none w p = let f = or-none w.fault in rw (← f)

-- a judgement of one field
pub fault_none : (b : Bool) (n p q : ℕ) → b ≡ true → At q ≡ passes b n p q
unfolding passes
fault_none b n p q e = rw e

pub fault_some : (b : Bool) (n p q : ℕ) → b ≡ false → Refused n p ≡ passes b n p q
unfolding passes
fault_some b n p q e = rw e

module _ (w : Going) (r : Refusal) where
  pub noted_kept : is_some w.fault ≡ true → walk_of w ≡ noted (refused_as r) (walk_of w)
  unfolding noted
  noted_kept h = go w.fault refl
    where
      go : (f : Option Refusal) → w.fault ≡ f → walk_of w ≡ noted (refused_as r) (walk_of w)
      go None e = let z : ◌≡◌ {A = Bool} true false = sym h ∙ ap is_some e in let y : ◌≡◌ {A = ℕ} 0 1 = cc in absurd (omega arith)
      go (Some d) e =
          let k = first_kept (number_of d.reason) (number_some d.reason) (number_of r.reason) d.place (cap r.place) in
          rw e (unfold noted in rw (← k.0, ← k.1))

  pub noted_first : is_some w.fault ≡ false → (q : ℕ) → q ≡ cap (r.place + 0)
      → record { numbers = w.numbers; text = w.text; missing = false; place = w.place; fault = number_of r.reason; at = q } ≡ noted (refused_as r) (walk_of w)
  unfolding noted first_place
  noted_first h q k = go w.fault refl
    where
      z : r.place + 0 ≡ r.place
      z = omega arith

      go : (f : Option Refusal) → w.fault ≡ f
          → record { numbers = w.numbers; text = w.text; missing = false; place = w.place; fault = number_of r.reason; at = q } ≡ noted (refused_as r) (walk_of w)
      go None e = rw (e, k, z)
      go (Some d) e = let z : ◌≡◌ {A = Bool} true false = sym (ap is_some e) ∙ h in let y : ◌≡◌ {A = ℕ} 0 1 = cc in absurd (omega arith)

-- ---- bytes that are put

pub stamped-none : (d : List ℕ) (p : ℕ) (l : List ℕ) → length d < p + length l → d ≡ stamped d p l
unfolding stamped
stamped-none d p l h = rw (lt-leb (p + length l) (length d) h, stamped)

pub stamped-past : (d : List ℕ) (p b : ℕ) (l : List ℕ) → length d ≤ p → d ≡ stamped d p (b ∷ l)
stamped-past d p b l h = stamped-none d p (b ∷ l) (omega arith)

pub stamped_short : (d : List ℕ) (p b : ℕ) (l : List ℕ) → p < length d → length d - p ≤ length l → d ≡ stamped d p (b ∷ l)
stamped_short d p b l h k = stamped-none d p (b ∷ l) (omega arith)

pub stamped-all : (d : List ℕ) (p : ℕ) (l : List ℕ) → p + length l ≤ length d → put_at d p l ≡ stamped d p l
unfolding stamped
stamped-all d p l h = rw (le-leb (p + length l) (length d) h, stamped)

pub byte_put : (d : List ℕ) (p v : ℕ) → p < length d → set d p v ≡ stamped d p (v ∷ [])
byte_put d p v h = put_one d p v h ∙ stamped-all d p (v ∷ []) (omega arith)

-- two bytes: the first at p, the second behind it
pub word-put : (d : List ℕ) (p v : ℕ) → v < 65536 → 2 ≤ length d - p → p < length d
    → set (set d p (v % 256)) (p + 1) (v / 256) ≡ stamped d p (map low (writes word v))
unfolding writes
word-put d p v h k l =
    let a : v % 256 % 256 ≡ v % 256 = omega arith in
    let b : v / 256 % 256 ≡ v / 256 = omega arith in
    let first = put_one d p (v % 256) l in
    let longer : length (set d p (v % 256)) ≡ length d = length-set d p (v % 256) in
    let second = put_one (set d p (v % 256)) (p + 1) (v / 256) (omega arith) in
    second ∙ ap (λ e. put_at e (p + 1) (v / 256 ∷ [])) first
    ∙ put-put d p (v % 256 ∷ []) (v / 256 ∷ []) (p + 1) refl (omega arith)
    ∙ (stamped-all d p (v % 256 ∷ v / 256 ∷ []) (omega arith) ∙ rw (a, b))

-- ---- a field

pub missing_entered : (y : Step) (l : List ℕ) (w : Walk) (d : List ℕ) → w.missing ≡ true → state w d ≡ entered y l (state w d)
unfolding entered
missing_entered y l w d m =
    sym (ap (λ (b : Bool). elim b as (λ z. State) [
      | true ↦ state w d
      | false ↦ state (advanced (length l) (noted y w)) (stamped d w.place l)
    ]) m)

pub there_entered : (y : Step) (l : List ℕ) (w r : Walk) (d e : List ℕ) → w.missing ≡ false → r ≡ advanced (length l) (noted y w)
    → e ≡ stamped d w.place l → state r e ≡ entered y l (state w d)
unfolding entered
there_entered y l w r d e m f g = rw (m, entered, f, g)

pub entered_there : (y : Step) (l : List ℕ) (w : Walk) (d : List ℕ) → w.missing ≡ false
    → entered y l (state w d) ≡ state (advanced (length l) (noted y w)) (stamped d w.place l)
entered_there y l w d m = sym (there_entered y l w _ d _ m refl refl)

pub word_size : (v : ℕ) → length (map low (writes word v)) ≡ 2
unfolding writes
word_size v = refl

-- two judgements that are noted alike are entered alike
pub noted-alike : (y z : Step) → ((w : Walk) → noted y w ≡ noted z w) → (l : List ℕ) (s : State) → entered y l s ≡ entered z l s
unfolding entered
noted-alike y z e l s =
    ap (λ (w : Walk). elim s.walk.missing as (λ b. State) [
      | true ↦ s
      | false ↦ state (advanced (length l) w) (stamped s.sheet s.walk.place l)
    ]) (e s.walk)

-- where a field that passes ends doesn't matter to the walk
pub passes-any : (b : Bool) (n p q r : ℕ) (w : Walk) → noted (passes b n p q) w ≡ noted (passes b n p r) w
unfolding passes noted
passes-any true n p q r w = refl
passes-any false n p q r w = refl
