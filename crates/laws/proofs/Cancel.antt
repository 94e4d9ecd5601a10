-- Lists that are put together can be taken apart: at a first stop, at a known length or width, at a closing byte, at junctions. Assumes nothing.
use Prim.Native.Nat.{ℕ, ◌<◌}
use mathlib.Core.Path.{◌≡◌, refl, ap}
use mathlib.Core.Logic.{◌≢◌}
use mathlib.Core.List.{List, [], ◌∷◌, ◌++◌, map, append_cancel_left, append_cancel_right}
use native.Mathlib.Nat.{suc_inj, not-suc-le-zero}
use native.Mathlib.Omega.{arith}
use lib.ListN.{length, replicate, length-replicate}
use Rattle.rules.specs.Text.{text_width, All}
use Rattle.rules.specs.Limits.{IsText}
use Rattle.rules.specs.Page.{joined_more, joined, line_of, closed}
use Rattle.laws.proofs.Lists.{all_replicate}
use Rattle.laws.proofs.Texts.{at_width}

-- a list that is empty or begins with a stop
abbrev pub Stops : {A : Type 0} → (A → Type 0) → List A → Type 0
Stops P [] = Unit {0}
Stops P (x ∷ xs) = P x

-- two equal lists, each taken apart at its first stop
pub at-stop : {A : Type 0} (P : A → Type 0) (xs ys us vs : List A) → All (λ x. ¬ P x) xs → All (λ x. ¬ P x) ys → Stops P us → Stops P vs
    → xs ++ us ≡ ys ++ vs → (xs ≡ ys) × (us ≡ vs)
at-stop P [] [] us vs h k s t e = (refl, e)
at-stop P [] (y ∷ ys) [] vs h k s t e = let z : ◌≡◌ {A = ℕ} 0 1 = cc in absurd (omega arith)
at-stop P [] (y ∷ ys) (u ∷ us) vs h k s t e = let q : u ≡ y = cc in absurd (k.0 (rw q at s))
at-stop P (x ∷ xs) [] us [] h k s t e = let z : ◌≡◌ {A = ℕ} 0 1 = cc in absurd (omega arith)
at-stop P (x ∷ xs) [] us (v ∷ vs) h k s t e = let q : v ≡ x = cc in absurd (h.0 (rw q at t))
at-stop P (x ∷ xs) (y ∷ ys) us vs h k s t e =
    let q : x ≡ y = cc in
    let r : (xs ≡ ys) × (us ≡ vs) = at-stop P xs ys us vs h.1 k.1 s t cc in
    (cc, r.1)

-- two equal lists, taken apart at one length
pub at_length : {A : Type 0} (xs ys us vs : List A) → length xs ≡ length ys → xs ++ us ≡ ys ++ vs → (xs ≡ ys) × (us ≡ vs)
at_length [] [] us vs l e = (refl, e)
at_length [] (y ∷ ys) us vs l e = absurd (omega arith)
at_length (x ∷ xs) [] us vs l e = absurd (omega arith)
at_length (x ∷ xs) (y ∷ ys) us vs l e =
    let r : (xs ≡ ys) × (us ≡ vs) = at_length xs ys us vs (suc_inj l) cc in
    (cc, r.1)

-- lines closed by byte 0A, which stands in none of them
pub closed_cancel : (ls ms : List (List ℕ)) → All (All (λ c. c ≢ 10)) ls → All (All (λ c. c ≢ 10)) ms → closed ls ≡ closed ms → ls ≡ ms
unfolding closed
closed_cancel [] [] h k e = refl
closed_cancel [] ([] ∷ ms) h k e = cc
closed_cancel [] ((c ∷ m) ∷ ms) h k e = cc
closed_cancel ([] ∷ ls) [] h k e = cc
closed_cancel ((c ∷ l) ∷ ls) [] h k e = cc
closed_cancel (l ∷ ls) (m ∷ ms) h k e =
    let r : (l ≡ m) × (10 ∷ closed ls ≡ 10 ∷ closed ms) = at-stop (λ c. c ≡ 10) l m (10 ∷ closed ls) (10 ∷ closed ms) h.0 k.0 refl refl e in
    let q : ls ≡ ms = closed_cancel ls ms h.1 k.1 cc in
    cc

-- a line's left and right taken off
line-joined : (l j r : List ℕ) (ps qs : List (List ℕ)) → line_of l j r ps ≡ line_of l j r qs → joined j ps ≡ joined j qs
unfolding line_of
line-joined l j r ps qs e = append_cancel_right (joined j ps) (joined j qs) r (append_cancel_left l _ _ e)

-- texts of known widths
more_cancel : (j : List ℕ) (ps qs : List (List ℕ)) → All IsText ps → All IsText qs → map text_width ps ≡ map text_width qs
    → joined_more j ps ≡ joined_more j qs → ps ≡ qs
unfolding joined_more
more_cancel j [] [] h k n e = refl
more_cancel j [] (q ∷ qs) h k n e = cc
more_cancel j (p ∷ ps) [] h k n e = cc
more_cancel j (p ∷ ps) (q ∷ qs) h k n e =
    let r : (p ≡ q) × (joined_more j ps ≡ joined_more j qs) = at_width (joined_more j ps) (joined_more j qs) h.0 k.0
    (cc) (append_cancel_left j _ _ e) in
    let s : ps ≡ qs = more_cancel j ps qs h.1 k.1 (cc) r.1 in
    cc

joined_cancel : (j : List ℕ) (ps qs : List (List ℕ)) → All IsText ps → All IsText qs → map text_width ps ≡ map text_width qs
    → joined j ps ≡ joined j qs → ps ≡ qs
unfolding joined
joined_cancel j [] [] h k n e = refl
joined_cancel j [] (q ∷ qs) h k n e = cc
joined_cancel j (p ∷ ps) [] h k n e = cc
joined_cancel j (p ∷ ps) (q ∷ qs) h k n e =
    let r : (p ≡ q) × (joined_more j ps ≡ joined_more j qs) = at_width (joined_more j ps) (joined_more j qs) h.0 k.0 (cc) e in
    let s : ps ≡ qs = more_cancel j ps qs h.1 k.1 (cc) r.1 in
    cc

-- a line whose parts are texts of known widths tells them
pub line_cancel : (l j r : List ℕ) (ps qs : List (List ℕ)) → All IsText ps → All IsText qs → map text_width ps ≡ map text_width qs
    → line_of l j r ps ≡ line_of l j r qs → ps ≡ qs
line_cancel l j r ps qs h k n e = joined_cancel j ps qs h k n (line-joined l j r ps qs e)

-- runs of one fill
abbrev pub runs : ℕ → List ℕ → List (List ℕ)
runs f vs = map (λ v. replicate v f) vs

stops_more : (j : ℕ) (ps : List (List ℕ)) → Stops (λ c. c ≡ j) (joined_more (j ∷ []) ps)
unfolding joined_more
stops_more j [] = tt
stops_more j (p ∷ ps) = refl

-- one run, up to the next junction or the end
run_cancel : (j f : ℕ) → j ≢ f → (v w : ℕ) (ps qs : List (List ℕ)) → replicate v f ++ joined_more (j ∷ []) ps ≡ replicate w f ++ joined_more (j ∷ []) qs
    → (v ≡ w) × (joined_more (j ∷ []) ps ≡ joined_more (j ∷ []) qs)
run_cancel j f d v w ps qs e =
    let r = at-stop (λ c. c ≡ j) (replicate v f) (replicate w f) (joined_more (j ∷ []) ps) (joined_more (j ∷ []) qs)
    (all_replicate (λ c. c ≢ j) f v (λ i. d (cc))) (all_replicate (λ c. c ≢ j) f w (λ i. d (cc))) (stops_more j ps) (stops_more j qs) e in
    (omega (arith, length-replicate v f, length-replicate w f, ap length r.0), r.1)

runs_more : (j f : ℕ) → j ≢ f → (vs ws : List ℕ) → joined_more (j ∷ []) (runs f vs) ≡ joined_more (j ∷ []) (runs f ws) → vs ≡ ws
unfolding joined_more
runs_more j f d [] [] e = refl
runs_more j f d [] (w ∷ ws) e = cc
runs_more j f d (v ∷ vs) [] e = cc
runs_more j f d (v ∷ vs) (w ∷ ws) e =
    let r = run_cancel j f d v w (runs f vs) (runs f ws) cc in
    let s : vs ≡ ws = runs_more j f d vs ws r.1 in
    cc

-- a border whose junction is unlike its fill tells the widths
pub border_cancel : (l r : List ℕ) (j f : ℕ) → j ≢ f → (vs ws : List ℕ) → 0 < length vs → 0 < length ws
    → line_of l (j ∷ []) r (runs f vs) ≡ line_of l (j ∷ []) r (runs f ws) → vs ≡ ws
unfolding joined
border_cancel l r j f d [] ws h k e = absurd (not-suc-le-zero h)
border_cancel l r j f d (v ∷ vs) [] h k e = absurd (not-suc-le-zero k)
border_cancel l r j f d (v ∷ vs) (w ∷ ws) h k e =
    let c = run_cancel j f d v w (runs f vs) (runs f ws) (line-joined l (j ∷ []) r (runs f (v ∷ vs)) (runs f (w ∷ ws)) e) in
    let s : vs ≡ ws = runs_more j f d vs ws c.1 in
    cc
