-- How a text is split piece by piece: the line so far, and what each next piece does to it, by positions. Assumes nothing.
use Prim.Native.Nat.{ℕ, zero, suc, ◌+◌, ◌-◌, ◌≤◌, ◌<◌}
use mathlib.Core.Path.{◌≡◌, refl, ◌∙◌}
use mathlib.Core.List.{List, [], ◌∷◌}
use mathlib.Core.Logic.{⊎_elim}
use mathlib.Core.Bool.{Bool, true, false}
use lib.Dec.{eqb, leb}
use borrow.Author.Tests.{eqb-true, eqb-false, leb-true, leb-false}
use native.Mathlib.Omega.{arith}
use native.Mathlib.Nat.{add-zero, add-suc, suc-add, eq-or-lt_of_le, le_of_suc-le-suc}
use lib.ListN.{length, drop, get_or}
use lib.Seq.{slice}
use Rattle.rules.specs.Wrap.{split}
use Rattle.rules.specs.Text.{text_width}
use Rattle.text_width.specs.Measure.{col, Reach}
use Rattle.content_split.specs.Cut.{Cut, Near, Start, Sound}
use Rattle.text_width.proofs.Measure.{col_slice, end_whole, reach-after}
use Rattle.content_split.specs.Parts.{LineIs}
use Rattle.content_split.proofs.Rules.{wrapping, split_is, settled}
use Rattle.content_split.proofs.Text.{after, none_left, skip-one, first_joins, first_fills, full_ends, text_ends, next_joins, next-tight, next_wraps, next_fills}

below_suc : (s e : ℕ) (P : ℕ → Type 0) → ((k : ℕ) → s ≤ k → k < e → P k) → P e → (k : ℕ) → s ≤ k → k < suc e → P k
below_suc s e P f p k a b = ⊎_elim (λ q. rw q p) (λ q. f k a q) (eq-or-lt_of_le (le_of_suc-le-suc b))

-- the line from s to m is begun, and nothing of it is settled yet
pub record Going (w d : ℕ) (T : List ℕ) (a s m : ℕ) : Type 0 where
  pub from : a ≤ s
  pub some : s < m
  pub within : m ≤ length T
  pub fits : col T m ≤ col T s + w
  pub stop : m < length T → get_or T m 0 ≡ d
  pub so_far : wrapping w d (drop a T) ≡ settled w d (slice s m T) (after d T m)

-- where a piece really ends that was followed up to e, or just past m bytes of it
pub record Ends (d : ℕ) (T : List ℕ) (s m e : ℕ) : Type 0 where
  pub end : ℕ
  pub cut : Cut d T s end
  pub past : e ≤ end
  pub same : e - s ≤ m → e ≡ end

module _ (d : ℕ) (T : List ℕ) (s : ℕ) where
  -- the first delimiter at or after e, or the text's end
  ends_from : (n e : ℕ) → e + n ≡ length T → s ≤ e → ((k : ℕ) → s ≤ k → k < e → get_or T k 0 ≡ d → ⊥) → (x : ℕ) × (e ≤ x) × Cut d T s x
  ends_from zero e h f c = (e, omega arith, record { from = f; within = omega arith; clear = c; stop = λ l. absurd (omega arith) })
  ends_from (suc n) e h f c = go (eqb (get_or T e 0) d) refl (λ g. ends_from n (suc e) (omega arith) (omega arith) g)
    where
      go : (b : Bool) → eqb (get_or T e 0) d ≡ b → (((k : ℕ) → s ≤ k → k < suc e → get_or T k 0 ≡ d → ⊥) → (x : ℕ) × (suc e ≤ x) × Cut d T s x)
          → (x : ℕ) × (e ≤ x) × Cut d T s x
      go true q i = (e, omega arith, record { from = f; within = omega arith; clear = c; stop = λ l. eqb-true (get_or T e 0) d q })
      go false q i =
          let r = i (below_suc s e (λ k. get_or T k 0 ≡ d → ⊥) c (eqb-false (get_or T e 0) d q)) in
          (r.0, omega (arith, r.1), r.2)

  -- where the piece from s on ends
  pub piece : s ≤ length T → (x : ℕ) × Cut d T s x
  piece h = let r = ends_from (length T - s) s (omega arith) (omega arith) (λ k a b. absurd (omega arith)) in (r.0, r.2)

  pub ends : (m e : ℕ) → Near d T s m e → Ends d T s m e
  ends m e c = go (leb (e - s) m) refl
    where
      stops : e - s ≤ m → e < length T → get_or T e 0 ≡ d
      stops h l = ⊎_elim (λ x. x) (λ x. absurd (omega arith)) (c.stop l)

      go : (b : Bool) → leb (e - s) m ≡ b → Ends d T s m e
      go true q =
          let h = leb-true (e - s) m q in
          record { end = e; cut = record { from = c.from; within = c.within; clear = c.clear; stop = stops h }; past = omega arith; same = λ x. refl }
      go false q =
          let h = leb-false (e - s) m q in
          let i = c.within in
          let r = ends_from (length T - e) e (omega arith) c.from c.clear in
          record { end = r.0; cut = r.2; past = r.1; same = λ x. absurd (omega arith) }

module _ (w d : ℕ) (pos : 0 < w) (T : List ℕ) where
  skip_many : (n a : ℕ) → a + n ≤ length T → ((k : ℕ) → a ≤ k → k < a + n → get_or T k 0 ≡ d) → wrapping w d (drop a T) ≡ wrapping w d (drop (a + n) T)
  skip_many zero a h f = rw add-zero
  skip_many (suc n) a h f =
      skip-one w d pos T a (omega arith) (f a (omega arith) (omega arith))
      ∙ skip_many n (suc a) (omega arith) (λ k x y. f k (omega arith) (omega arith))
      ∙ rw (add-suc, suc-add)

  pub skipped : {a s : ℕ} → Start d T a s → wrapping w d (drop a T) ≡ wrapping w d (drop s T)
  skipped {a} {s} c =
      let f = c.from in
      let g = c.within in
      let q : a + (s - a) ≡ s = omega arith in
      skip_many (s - a) a (omega arith) (λ k x y. c.skipped k x (omega arith)) ∙ rw q

  pub none-at_end : (s : ℕ) → length T ≤ s → split w d (drop s T) ≡ []
  none-at_end s h = rw split_is (none_left w d pos T s h)

  pub none : {a s : ℕ} → Start d T a s → length T ≤ s → split w d (drop a T) ≡ []
  none {a} {s} c h = split_is w d (drop a T) ∙ skipped c ∙ none_left w d pos T s h

  pub fills-cut : {a s e z : ℕ} → Start d T a s → Cut d T s e → Reach T s w z → z < e → LineIs w d T a s z z
  fills-cut {a} {s} {e} {z} b c r h =
      record {
        after = b.from;
        some = reach-after T pos r;
        fits = omega (arith, col_slice T s z r.from, r.columns);
        onward = omega arith;
        within = r.within;
        whole = r.whole;
        wraps = rw (split_is, split_is) (skipped b ∙ first_fills w d pos T s e z c r h);
      }

  pub begins-cut : {a s e : ℕ} → Start d T a s → s < length T → Cut d T s e → col T e ≤ col T s + w → Going w d T a s e
  begins-cut {a} {s} {e} b l c h =
      record {
        from = b.from;
        some = ⊎_elim (λ q. absurd (b.stop l (rw q (c.stop (omega arith))))) (λ q. q) (eq-or-lt_of_le c.from);
        within = c.within;
        fits = h;
        stop = c.stop;
        so_far = skipped b ∙ first_joins w d pos T s e c h;
      }

  module _ {a s m : ℕ} (sound : Sound d T a) (g : Going w d T a s m) where
    line_fits : text_width (slice s m T) ≤ w
    line_fits = let i = g.some in omega (arith, col_slice T s m (omega arith), g.fits)

    pub ends_text : length T ≤ m → LineIs w d T a s m m
    ends_text h =
        record {
          after = g.from;
          some = g.some;
          fits = line_fits;
          onward = omega arith;
          within = g.within;
          whole = end_whole T m h;
          wraps = rw (split_is, split_is) (g.so_far ∙ text_ends w d pos T s m g.some (omega arith));
        }

    wrapped : m < length T → settled w d (slice s m T) (after d T m) ≡ slice s m T ∷ wrapping w d (drop (suc m) T) → LineIs w d T a s m (suc m)
    wrapped h q =
        record {
          after = g.from;
          some = g.some;
          fits = line_fits;
          onward = omega arith;
          within = omega arith;
          whole = sound.after m (omega (arith, g.from, g.some)) (g.stop h);
          wraps = rw (split_is, split_is) (g.so_far ∙ q);
        }

    pub ends-full : m < length T → col T s + (w - 2) < col T m → LineIs w d T a s m (suc m)
    ends-full h k = let i = g.some in wrapped h (full_ends w d pos T s m (omega arith) k)

    module _ {e : ℕ} (more : m < length T) (free : col T m ≤ col T s + (w - 2)) (c : Cut d T (suc m) e) where
      pub joins-cut : col T e ≤ col T s + w → Going w d T a s e
      joins-cut h =
          record {
            from = g.from;
            some = omega (arith, g.some, c.from);
            within = c.within;
            fits = h;
            stop = c.stop;
            so_far = g.so_far ∙ next_joins w d pos T s m e g.some more (g.stop more) c free h;
          }

      pub tight-cut : col T s + w < col T e → col T s + w ≤ col T (suc m) + 2 → LineIs w d T a s m (suc m)
      tight-cut h k = wrapped more (next-tight w d pos T s m e g.some more (g.stop more) c free h k)

      pub wrap-cut : col T s + w < col T e → col T (suc m) + 2 < col T s + w → col T e ≤ col T (suc m) + w → LineIs w d T a s m (suc m)
      wrap-cut h k l = wrapped more (next_wraps w d pos T s m e g.some more (g.stop more) c free h k l)

      pub fill-cut : {z : ℕ} → Reach T s w z → col T (suc m) + 2 < col T s + w → col T (suc m) + w < col T e → LineIs w d T a s z z
      fill-cut {z} r k l =
          record {
            after = g.from;
            some = reach-after T pos r;
            fits = omega (arith, col_slice T s z r.from, r.columns);
            onward = omega arith;
            within = r.within;
            whole = r.whole;
            wraps = rw (split_is, split_is) (g.so_far ∙ next_fills w d pos T s m e g.some more (g.stop more) c free z r k l);
          }
