-- The lines between the borders: what every one of them satisfies, and how rows and header are told from them. Assumes nothing.
use Prim.Native.Nat.{ℕ, ◌<◌}
use mathlib.Core.Path.{◌≡◌, refl, sym, ◌∙◌}
use mathlib.Core.Logic.{◌≢◌}
use mathlib.Core.List.{List, [], ◌∷◌, ◌++◌, map, append_assoc, tail-eq_of_cons-eq}
use native.Mathlib.Nat.{not-suc-le-zero}
use native.Mathlib.Omega.{arith}
use lib.ListN.{length}
use Rattle.rules.specs.Text.{All}
use Rattle.rules.specs.Sheet.{Row}
use Rattle.rules.specs.Page.{headed, ruled_more, ruled_rows}
use Rattle.laws.proofs.Lists.{all_append, all_map}
use Rattle.laws.proofs.Cancel.{Stops, at-stop}

-- a property of every line, from that of the rows' lines and of the rule
module _ (Q : List ℕ → Type 0) (text : Row → List (List ℕ)) (rule : List (List ℕ)) (ruled : All Q rule) where
  pub all-headed : (rs : List Row) → All (λ r. All Q (text r)) rs → All Q (headed text rule rs)
  unfolding headed
  all-headed [] h = tt
  all-headed (r ∷ rs) h = all_append Q (text r) (rule ++ headed text rule rs) h.0
      (all_append Q rule (headed text rule rs) ruled (all-headed rs h.1))

  all-ruled_more : (rs : List Row) → All (λ r. All Q (text r)) rs → All Q (ruled_more text rule rs)
  unfolding ruled_more
  all-ruled_more [] h = tt
  all-ruled_more (r ∷ rs) h = all_append Q rule (text r ++ ruled_more text rule rs) ruled
      (all_append Q (text r) (ruled_more text rule rs) h.0 (all-ruled_more rs h.1))

  -- of the rows with rules between them
  pub all-ruled_rows : (rs : List Row) → All (λ r. All Q (text r)) rs → All Q (ruled_rows text rule rs)
  unfolding ruled_rows
  all-ruled_rows [] h = tt
  all-ruled_rows (r ∷ rs) h = all_append Q (text r) (ruled_more text rule rs) h.0 (all-ruled_more rs h.1)

-- rows of equal areas give equal lines. a and b: what two tables show in each line of a row; draw: a line of them
module _ {X : Type 0} (a b : Row → List X) (draw : X → List ℕ) (rule : List (List ℕ)) where
  pub headed-same : (rs qs : List Row) → map a rs ≡ map b qs → headed (λ r. map draw (a r)) rule rs ≡ headed (λ q. map draw (b q)) rule qs
  unfolding headed
  headed-same [] [] e = refl
  headed-same [] (q ∷ qs) e = cc
  headed-same (r ∷ rs) [] e = cc
  headed-same (r ∷ rs) (q ∷ qs) e =
      let h : a r ≡ b q = cc in
      let i = headed-same rs qs cc in
      cc

  more_same : (rs qs : List Row) → map a rs ≡ map b qs → ruled_more (λ r. map draw (a r)) rule rs ≡ ruled_more (λ q. map draw (b q)) rule qs
  unfolding ruled_more
  more_same [] [] e = refl
  more_same [] (q ∷ qs) e = cc
  more_same (r ∷ rs) [] e = cc
  more_same (r ∷ rs) (q ∷ qs) e =
      let h : a r ≡ b q = cc in
      let i = more_same rs qs cc in
      cc

  pub rows_same : (rs qs : List Row) → map a rs ≡ map b qs → ruled_rows (λ r. map draw (a r)) rule rs ≡ ruled_rows (λ q. map draw (b q)) rule qs
  unfolding ruled_rows
  rows_same [] [] e = refl
  rows_same [] (q ∷ qs) e = cc
  rows_same (r ∷ rs) [] e = cc
  rows_same (r ∷ rs) (q ∷ qs) e =
      let h : a r ≡ b q = cc in
      let i = more_same rs qs cc in
      cc

-- a drawn line tells what it shows
abbrev pub Tells : {X : Type 0} → (X → Type 0) → (X → List ℕ) → Type 0
Tells {X} Fits draw = (x y : X) → Fits x → Fits y → draw x ≡ draw y → x ≡ y

map_tells : {X : Type 0} (Fits : X → Type 0) (draw : X → List ℕ) → Tells Fits draw → (xs ys : List X) → All Fits xs → All Fits ys → map draw xs ≡ map
    draw ys → xs ≡ ys
map_tells Fits draw tells [] [] h k e = refl
map_tells Fits draw tells [] (y ∷ ys) h k e = cc
map_tells Fits draw tells (x ∷ xs) [] h k e = cc
map_tells Fits draw tells (x ∷ xs) (y ∷ ys) h k e =
    let q : x ≡ y = tells x y h.0 k.0 cc in
    let s : xs ≡ ys = map_tells Fits draw tells xs ys h.1 k.1 cc in
    cc

-- head, text: a header's and a row's line of what it shows; hr, rr: the two rules. No text line is a rule, both rules are, and they differ
module _ {X : Type 0} (Fits : X → Type 0) (Rule : List ℕ → Type 0) (head text : X → List ℕ) (hr rr : List ℕ) (head-tells : Tells Fits head)
    (text_tells : Tells Fits text)
    (head-text : (x : X) → ¬ Rule (head x)) (row-text : (x : X) → ¬ Rule (text x)) (hr-rule : Rule hr) (rr-rule : Rule rr) (differ : hr ≢ rr)
    (a b : Row → List X) where
  -- what rows show fits
  abbrev pub Fitting : (Row → List X) → List Row → Type 0
  Fitting c rs = All (λ r. All Fits (c r)) rs

  stops : (c : Row → List X) (rs : List Row) → Stops Rule (ruled_more (λ r. map text (c r)) (rr ∷ []) rs)
  unfolding ruled_more
  stops c [] = tt
  stops c (r ∷ rs) = rr-rule

  -- a row and what follows it
  row_apart : (r q : Row) → All Fits (a r) → All Fits (b q) → (us vs : List (List ℕ)) → Stops Rule us → Stops Rule vs
      → map text (a r) ++ us ≡ map text (b q) ++ vs → (a r ≡ b q) × (us ≡ vs)
  row_apart r q f g us vs s t e =
      let c = at-stop Rule (map text (a r)) (map text (b q)) us vs (all_map (λ x. ¬ Rule x) text row-text (a r))
      (all_map (λ x. ¬ Rule x) text row-text (b q)) s t e in
      (map_tells Fits text text_tells (a r) (b q) f g c.0, c.1)

  more_apart : (rs qs : List Row) → Fitting a rs → Fitting b qs
      → ruled_more (λ r. map text (a r)) (rr ∷ []) rs ≡ ruled_more (λ q. map text (b q)) (rr ∷ []) qs → map a rs ≡ map b qs
  unfolding ruled_more
  more_apart [] [] f g e = refl
  more_apart [] (q ∷ qs) f g e = cc
  more_apart (r ∷ rs) [] f g e = cc
  more_apart (r ∷ rs) (q ∷ qs) f g e =
      let c = row_apart r q f.0 g.0 (ruled_more (λ r. map text (a r)) (rr ∷ []) rs) (ruled_more (λ q. map text (b q)) (rr ∷ []) qs)
      (stops a rs) (stops b qs) cc in
      let i = more_apart rs qs f.1 g.1 c.1 in
      cc

  -- no row with a line is no row
  some-row : (c : Row → List X) (r : Row) (us : List (List ℕ)) → 0 < length (c r) → ◌≡◌ {A = List (List ℕ)} (map text (c r) ++ us) [] → ⊥
  some-row c r us h e = go (c r) h e
    where
      go : (xs : List X) → 0 < length xs → ◌≡◌ {A = List (List ℕ)} (map text xs ++ us) [] → ⊥
      go [] h e = not-suc-le-zero h
      go (x ∷ xs) h e = let z : ◌≡◌ {A = ℕ} 0 1 = cc in omega arith

  rows_apart : (rs qs : List Row) → Fitting a rs → Fitting b qs → All (λ r. 0 < length (a r)) rs → All (λ q. 0 < length (b q)) qs
      → ruled_rows (λ r. map text (a r)) (rr ∷ []) rs ≡ ruled_rows (λ q. map text (b q)) (rr ∷ []) qs → map a rs ≡ map b qs
  unfolding ruled_rows
  rows_apart [] [] f g h k e = refl
  rows_apart [] (q ∷ qs) f g h k e = absurd (some-row b q (ruled_more (λ q. map text (b q)) (rr ∷ []) qs) k.0 cc)
  rows_apart (r ∷ rs) [] f g h k e = absurd (some-row a r (ruled_more (λ q. map text (a q)) (rr ∷ []) rs) h.0 e)
  rows_apart (r ∷ rs) (q ∷ qs) f g h k e =
      let c = row_apart r q f.0 g.0 (ruled_more (λ r. map text (a r)) (rr ∷ []) rs) (ruled_more (λ q. map text (b q)) (rr ∷ []) qs)
      (stops a rs) (stops b qs) e in
      let i = more_apart rs qs f.1 g.1 c.1 in
      cc

  -- the header rule tells that there is a header
  headless : (c d : Row → List X) (h : Row) (us : List (List ℕ)) (qs : List Row) → map head (c h) ++ (hr ∷ us) ≡ ruled_rows (λ q. map text (d q))
      (rr ∷ []) qs → ⊥
  unfolding ruled_rows
  headless c d h us [] e = go (c h) e
    where
      go : (xs : List X) → ◌≡◌ {A = List (List ℕ)} (map head xs ++ (hr ∷ us)) [] → ⊥
      go [] e = let z : ◌≡◌ {A = ℕ} 0 1 = cc in omega arith
      go (x ∷ xs) e = let z : ◌≡◌ {A = ℕ} 0 1 = cc in omega arith
  headless c d h us (q ∷ qs) e = next qs (at-stop Rule (map head (c h)) (map text (d q)) (hr ∷ us) (ruled_more (λ q. map text (d q)) (rr ∷ []) qs)
      (all_map (λ x. ¬ Rule x) head head-text (c h)) (all_map (λ x. ¬ Rule x) text row-text (d q)) hr-rule (stops d qs) e).1
    where
      next : (qs : List Row) → hr ∷ us ≡ ruled_more (λ q. map text (d q)) (rr ∷ []) qs → ⊥
      next [] e = unfold ruled_more in let z : ◌≡◌ {A = ℕ} 0 1 = cc in omega arith
      next (q ∷ qs) e = unfold ruled_more in differ cc

  -- the lines between the borders tell what every row shows, and which of the rows are the header
  pub apart : (hs is rs qs : List Row) → Fitting a hs → Fitting b is → Fitting a rs → Fitting b qs
      → All (λ r. 0 < length (a r)) rs → All (λ q. 0 < length (b q)) qs
      → headed (λ r. map head (a r)) (hr ∷ []) hs ++ ruled_rows (λ r. map text (a r)) (rr ∷ []) rs
      ≡ headed (λ q. map head (b q)) (hr ∷ []) is ++ ruled_rows (λ q. map text (b q)) (rr ∷ []) qs
      → (map a hs ≡ map b is) × (map a rs ≡ map b qs)
  unfolding headed
  apart [] [] rs qs fh fi fr fq h k e = (refl, rows_apart rs qs fr fq h k e)
  apart [] (i ∷ is) rs qs fh fi fr fq h k e =
      let us = headed (λ q. map head (b q)) (hr ∷ []) is in
      let vs = ruled_rows (λ q. map text (b q)) (rr ∷ []) qs in
      absurd (headless b a i (us ++ vs) rs (sym (e ∙ append_assoc (map head (b i)) (hr ∷ us) vs)))
  apart (j ∷ hs) [] rs qs fh fi fr fq h k e =
      let us = headed (λ r. map head (a r)) (hr ∷ []) hs in
      let vs = ruled_rows (λ r. map text (a r)) (rr ∷ []) rs in
      absurd (headless a b j (us ++ vs) qs (sym (append_assoc (map head (a j)) (hr ∷ us) vs) ∙ e))
  apart (j ∷ hs) (i ∷ is) rs qs fh fi fr fq h k e =
      let us = headed (λ r. map head (a r)) (hr ∷ []) hs in
      let vs = ruled_rows (λ r. map text (a r)) (rr ∷ []) rs in
      let ys = headed (λ q. map head (b q)) (hr ∷ []) is in
      let zs = ruled_rows (λ q. map text (b q)) (rr ∷ []) qs in
      let c = at-stop Rule (map head (a j)) (map head (b i)) (hr ∷ (us ++ vs)) (hr ∷ (ys ++ zs)) (all_map (λ x. ¬ Rule x) head head-text (a j))
      (all_map (λ x. ¬ Rule x) head head-text (b i))
      hr-rule hr-rule (sym (append_assoc (map head (a j)) (hr ∷ us) vs) ∙ e ∙ append_assoc (map head (b i)) (hr ∷ ys) zs) in
      let m : a j ≡ b i = map_tells Fits head head-tells (a j) (b i) fh.0 fi.0 c.0 in
      let n : us ++ vs ≡ ys ++ zs = tail-eq_of_cons-eq c.1 in
      let f = apart hs is rs qs fh.1 fi.1 fr fq h k n in
      let g : map a hs ≡ map b is = f.0 in
      (cc, f.1)
