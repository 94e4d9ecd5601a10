-- The rules of wrapping, one equation for each. Assumes nothing.
use Prim.Native.Nat.{ℕ, ◌-◌, ◌≤◌, ◌<◌}
use mathlib.Core.Path.{◌≡◌, refl, sym, ap, ◌∙◌}
use mathlib.Core.List.{List, [], ◌∷◌}
use mathlib.Core.Bool.{Bool, true, false}
use lib.Dec.{ltb}
use borrow.Author.Tests.{ltb-true, ltb-false, lt-ltb, le-ltb}
use Rattle.rules.specs.Text.{text_width}
use Rattle.rules.specs.Wrap.{pieces, split, glue, tight, full}
use Rattle.laws.proofs.Fuel as fuel
use Rattle.laws.proofs.Fuel.{run, split-run}

-- the lines that a text is split into, without steps to count
unfoldable pub wrapping : ℕ → ℕ → List ℕ → List (List ℕ)
wrapping w d t = run w d [] (pieces d t)

pub split_is : (w d : ℕ) (t : List ℕ) → split w d t ≡ wrapping w d t
unfolding wrapping
split_is w d t = split-run w d t

-- a line after a piece joined or began it: flushed if it is longer than width less 2
unfoldable pub settled : ℕ → ℕ → List ℕ → List (List ℕ) → List (List ℕ)
settled w d m ps = elim (full w m) [ true ↦ m ∷ run w d [] ps | false ↦ run w d m ps ]

pub settled-full : (w d : ℕ) (m : List ℕ) (ps : List (List ℕ)) → w - 2 < text_width m → settled w d m ps ≡ m ∷ run w d [] ps
unfolding settled full
settled-full w d m ps h = rw (lt-ltb (w - 2) (text_width m) h, settled)

pub settled_open : (w d : ℕ) (m : List ℕ) (ps : List (List ℕ)) → text_width m ≤ w - 2 → settled w d m ps ≡ run w d m ps
unfolding settled full
settled_open w d m ps h = rw (le-ltb (w - 2) (text_width m) h, settled)

module _ (w d : ℕ) (some : 0 < w) where
  pub run_join : (l p : List ℕ) (ps : List (List ℕ)) → text_width (glue d l p) ≤ w → run w d l (p ∷ ps) ≡ settled w d (glue d l p) ps
  run_join l p ps h = go (ltb (w - 2) (text_width (glue d l p))) refl
    where
      go : (b : Bool) → ltb (w - 2) (text_width (glue d l p)) ≡ b → run w d l (p ∷ ps) ≡ settled w d (glue d l p) ps
      go true f =
          let k = ltb-true (w - 2) (text_width (glue d l p)) f in
          fuel.run_join-full w d some l p ps h k ∙ sym (settled-full w d (glue d l p) ps k)
      go false f =
          let k = ltb-false (w - 2) (text_width (glue d l p)) f in
          fuel.run_join w d some l p ps h k ∙ sym (settled_open w d (glue d l p) ps k)

  pub run_begin : (l p : List ℕ) (ps : List (List ℕ)) → w < text_width (glue d l p) → tight w d l ≡ false → text_width p ≤ w
      → run w d l (p ∷ ps) ≡ l ∷ settled w d p ps
  run_begin l p ps h t k = go (ltb (w - 2) (text_width p)) refl
    where
      go : (b : Bool) → ltb (w - 2) (text_width p) ≡ b → run w d l (p ∷ ps) ≡ l ∷ settled w d p ps
      go true f =
          let i = ltb-true (w - 2) (text_width p) f in
          fuel.run_begin-full w d some l p ps h t k i ∙ ap (λ (x : List (List ℕ)). l ∷ x) (sym (settled-full w d p ps i))
      go false f =
          let i = ltb-false (w - 2) (text_width p) f in
          fuel.run_begin w d some l p ps h t k i ∙ ap (λ (x : List (List ℕ)). l ∷ x) (sym (settled_open w d p ps i))
