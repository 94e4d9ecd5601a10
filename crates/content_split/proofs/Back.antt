-- The next line found backwards from the width: each end that the code finds is one that the pieces come to. Assumes nothing.
use Prim.Native.Nat.{ℕ, zero, suc, ◌+◌, ◌-◌, ◌≤◌, ◌<◌}
use mathlib.Core.Path.{◌≡◌, ap, sym, ◌∙◌}
use mathlib.Core.List.{List}
use mathlib.Core.Bool.{Bool, true, false}
use mathlib.Core.Logic.{⊎_elim}
use native.Mathlib.Omega.{arith}
use native.Mathlib.Nat.{eq-or-lt_of_le}
use native.Mathlib.Numerals.{add-one}
use lib.ListN.{length, get_or}
use lib.Seq.{slice}
use lib.Dec.{ltb}
use borrow.Author.Tests.{ltb-true, ltb-false, lt-ltb, le-ltb}
use Rattle.rules.specs.Text.{is_second, text_width}
use Rattle.text_width.specs.Measure.{col, Reach, Reached}
use Rattle.content_split.specs.Cut.{Cut, Near, Start, Back, AtWidth, Straddle, Sound, Long}
use Rattle.content_split.specs.Parts.{LineIs}
use Rattle.content_split.proofs.Rules.{split_is}
use Rattle.text_width.proofs.Measure.{le-or-lt, col_slice, col-le, col-first, col_bytes, reach-past, reach-after}
use Rattle.content_split.proofs.Steps.{Going, skipped, piece, ends, fills-cut, begins-cut, joins-cut, ends_text, ends-full, tight-cut, wrap-cut, fill-cut}

-- a line starts with a character
pub start_first : (d : ℕ) (T : List ℕ) (a s : ℕ) → Sound d T a → Start d T a s → is_second (get_or T s 0) ≡ false
start_first d T a zero sound b = let q : a ≡ 0 = omega (arith, b.from) in rw q at sound.begins
start_first d T a (suc s) sound b =
    ⊎_elim (λ q. rw q at sound.begins) (λ q. sound.after s (omega arith) (b.skipped s (omega arith) (omega arith))) (eq-or-lt_of_le b.from)

-- what is sound from a on is so from there on
pub start_sound : (d : ℕ) (T : List ℕ) {a s : ℕ} → Sound d T a → Start d T a s → Sound d T s
start_sound d T {a} {s} sound b =
    record { first = sound.first; begins = start_first d T a s sound b; after = λ k l e. sound.after k (omega (arith, b.from)) e }

-- a delimiter is one column
delimiter-column : (d : ℕ) (T : List ℕ) {a : ℕ} → Sound d T a → (k : ℕ) → k < length T → get_or T k 0 ≡ d → col T (suc k) ≡ suc (col T k)
delimiter-column d T sound k h e = col-first T k h (ap is_second e ∙ sound.first)

module _ (w d : ℕ) (pos : 0 < w) (T : List ℕ) where
  -- a piece that begins no later than e ends no later, if e ends a piece
  ends_by : {p x e : ℕ} → Cut d T p x → p ≤ e → e ≤ length T → (e < length T → get_or T e 0 ≡ d) → x ≤ e
  ends_by {p} {x} {e} c h l q = ⊎_elim (λ y. y) (λ y. absurd (c.clear e h y (q (omega (arith, c.within))))) (le-or-lt x e)

  module _ {a s e : ℕ} (sound : Sound d T a) (within : e ≤ length T) (stop : e < length T → get_or T e 0 ≡ d) (fits : col T e ≤ col T s + w)
      (free : (k : ℕ) → s < k → k < e → get_or T k 0 ≡ d → col T k ≤ col T s + (w - 2)) where
    -- the line goes on up to e, piece by piece
    goes_on : (n m : ℕ) → Going w d T a s m → m ≤ e → e ≤ m + n → Going w d T a s e
    goes_on zero m g h l = let q : m ≡ e = omega arith in rw q at g
    goes_on (suc n) m g h l = ⊎_elim (λ q. rw q at g) (further (λ x i j k. goes_on n x i j k)) (eq-or-lt_of_le h)
      where
        further : ((x : ℕ) → Going w d T a s x → x ≤ e → e ≤ x + n → Going w d T a s e) → m < e → Going w d T a s e
        further again y =
            let f = free m g.some y (g.stop (omega arith)) in
            let x = piece d T (suc m) (omega arith) in
            let z = ends_by x.1 (omega arith) within stop in
            again x.0 (joins-cut w d pos T sound g (omega arith) f x.1 (omega (arith, col-le T x.0 e z))) z (omega (arith, x.1.from))

    -- so every end of a piece is come to
    reaches : Start d T a s → s < e → Going w d T a s e
    reaches b l =
        let x = piece d T s (omega arith) in
        let z = ends_by x.1 (omega arith) within stop in
        goes_on (e - x.0) x.0 (begins-cut w d pos T b (omega arith) x.1 (omega (arith, col-le T x.0 e z))) z (omega arith)

  -- a delimiter before a place that isn't just before it leaves a column between
  module _ {a s z : ℕ} (sound : Sound d T a) (b : a ≤ s) (r : Reach T s w z) where
    pub open_still : (get_or T (z - 1) 0 ≡ d → ⊥) → (k : ℕ) → s < k → k < z → get_or T k 0 ≡ d → col T k ≤ col T s + (w - 2)
    open_still f k x y e =
        let i : suc k ≤ z = y in
        ⊎_elim (λ q. absurd (f (let p : z - 1 ≡ k = omega arith in rw p e))) between (eq-or-lt_of_le i)
      where
        between : suc k < z → col T k ≤ col T s + (w - 2)
        between j =
            let m = r.within in
            omega (
              arith,
              delimiter-column d T sound k (omega arith) e,
              col-first T (suc k) (omega arith) (sound.after k (omega arith) e),
              col-le T (suc (suc k)) z j,
              col-le T s k (omega arith),
              r.columns,
            )

  module _ {a s : ℕ} (sound : Sound d T a) (b : Start d T a s) where
    -- the rest of the text has fewer columns than the width
    pub ends_short : s < length T → col T (length T) < col T s + w → LineIs w d T a s (length T) (length T)
    ends_short l h =
        ends_text w d pos T sound (reaches sound (omega arith) (λ y. absurd (omega arith)) (omega arith)
        (λ k x y e. omega (arith, delimiter-column d T sound k y e, col-le T (suc k) (length T) y, col-le T s k (omega arith))) b l) (omega arith)

    -- it has fewer bytes
    pub ends_few : s < length T → length T - s < w → LineIs w d T a s (length T) (length T)
    ends_few l h = ends_short l (omega (arith, col_bytes T s (length T) (omega arith) (omega arith)))

    -- it lacks some columns
    pub ends-lacking : {z n : ℕ} → s < length T → Reached T s w z n → 0 < n → LineIs w d T a s (length T) (length T)
    ends-lacking {z} {n} l r h = let e = r.end h in let c = rw e at r.columns in ends_short l (omega arith)

  -- what is split from the line's start on is what is split from before the delimiters that it skips
  pub from_start : {a s x e n : ℕ} → Start d T a s → LineIs w d T s x e n → LineIs w d T a x e n
  from_start b l =
      record {
        after = omega (arith, b.from, l.after);
        some = l.some;
        fits = l.fits;
        onward = l.onward;
        within = l.within;
        whole = l.whole;
        wraps = rw split_is (skipped w d pos T b ∙ rw split_is at l.wraps);
      }

-- the line starts where it is looked for, and the width is reached
pub width_reached : (w d : ℕ) → 0 < w → (T : List ℕ) {a s z : ℕ} → Start d T a s → s < length T → Reach T s w z → AtWidth w d T s z
width_reached w d pos T b l r = record { some = pos; inside = l; reach = r; begun = b.stop l }

module _ (w d : ℕ) (T : List ℕ) {s z : ℕ} (g : AtWidth w d T s z) where
  begins : Start d T s s
  begins = record { from = omega arith; within = omega (arith, g.inside); skipped = λ k x y. absurd (omega arith); stop = λ l. g.begun }

  pub after-start : s < z
  after-start = reach-after T g.some g.reach

  module _ (sound : Sound d T s) where
    -- a piece ends just before the width
    pub ends-before : get_or T (z - 1) 0 ≡ d → LineIs w d T s s (z - 1) z
    ends-before e =
        let r = g.reach in
        let m = r.within in
        let n = after-start in
        let f : s ≤ z - 1 = omega arith in
        let i : s < z - 1 = ⊎_elim (λ t. absurd (g.begun (rw t e))) (λ t. t) (eq-or-lt_of_le f) in
        let q : suc (z - 1) ≡ z = omega arith in
        let u : col T z ≡ suc (col T (z - 1)) = rw q at (delimiter-column d T sound (z - 1) (omega arith) e) in
        let v = col-first T s g.inside sound.begins in
        let free : (k : ℕ) → s < k → k < z - 1 → get_or T k 0 ≡ d → col T k ≤ col T s + (w - 2) =
        λ k x y h.
        omega (arith, delimiter-column d T sound k (omega arith) h, col-le T (suc k) (z - 1) y, col-le T s k (omega arith), r.columns) in
        rw q at (ends-full w d g.some T sound (reaches w d g.some T sound (omega arith) (λ y. e) (omega (arith, r.columns)) free begins i)
        (omega arith) (omega (arith, r.columns, col-le T (suc s) (z - 1) i)))

    module _ (f : get_or T (z - 1) 0 ≡ d → ⊥) where
      -- the line goes on up to the width, where a piece ends or the text does
      up_to : (z < length T → get_or T z 0 ≡ d) → Going w d T s s z
      up_to e =
          let r = g.reach in
          let free = open_still w d g.some T sound (omega arith) r f in
          reaches w d g.some T sound r.within e (omega (arith, r.columns)) free begins after-start

      -- the text ends at the width
      pub ends_exact : length T ≡ z → LineIs w d T s s (length T) (length T)
      ends_exact q = rw q (ends_text w d g.some T sound (up_to (λ y. absurd (omega arith))) (omega arith))

      -- the text goes on past the width
      module _ (n : (length T ≡ z) → ⊥) where
        goes-past : z < length T
        goes-past = ⊎_elim (λ t. absurd (n (sym t))) (λ t. t) (eq-or-lt_of_le g.reach.within)

        -- a piece ends at the width
        pub ends_at : get_or T z 0 ≡ d → LineIs w d T s s z (z + 1)
        ends_at e = rw (add-one z) (ends-full w d g.some T sound (up_to (λ y. e)) goes-past (omega (arith, g.reach.columns)))

-- a piece goes on past the width, and the last delimiter before that is at r, or none is
module _ (w d : ℕ) (T : List ℕ) {s z r : ℕ} (sound : Sound d T s) (g : Straddle w d T s z) (b : Back d T s z r) where
  begun : Start d T s s
  begun = begins w d T g.width

  -- a piece that ends after that ends past the width
  past : {p x : ℕ} → Cut d T p x → r < x → z < x
  past {p} {x} c h = ⊎_elim (λ q. absurd (early q)) (λ q. q) (le-or-lt x z)
    where
      early : x ≤ z → ⊥
      early q =
          let e = c.stop (omega (arith, g.more)) in
          ⊎_elim (λ t. g.past (rw t at e)) (λ t. b.clear x h t e) (eq-or-lt_of_le q)

  -- no delimiter: the first piece is longer than the width
  pub fills_whole : r ≡ s → LineIs w d T s s z z
  fills_whole q =
      let m = g.more in
      let i = g.width.inside in
      let x = piece d T s (omega arith) in
      let y : s < x.0 = ⊎_elim (λ t. absurd (g.width.begun (rw t (x.1.stop (omega arith))))) (λ t. t) (eq-or-lt_of_le x.1.from) in
      fills-cut w d g.width.some T begun x.1 g.width.reach (past x.1 (omega arith))

  module _ (some : (r ≡ s) → ⊥) where
    later : s < r
    later = ⊎_elim (λ t. absurd (some (sym t))) (λ t. t) (eq-or-lt_of_le b.from)

    -- the delimiter isn't just before the width
    free : col T r ≤ col T s + (w - 2)
    free = open_still w d g.width.some T sound (omega arith) g.width.reach g.last r later b.before (b.found later)

    going : Going w d T s s r
    going =
        let m = g.more in
        let l = b.before in
        reaches w d g.width.some T sound (omega arith) (λ y. b.found later) (omega (arith, free))
        (λ k x y e. omega (arith, free, col-le T k r (omega arith))) begun later

    -- the piece after the delimiter
    next : (x : ℕ) × Cut d T (suc r) x
    next = let l = b.before in piece d T (suc r) (omega (arith, g.more))

    next_past : col T s + w < col T next.0
    next_past = reach-past T g.width.reach next.0 (past next.1 next.1.from) next.1.within

    room-left : col T (suc r) + text_width (slice (suc r) z T) ≡ col T s + w
    room-left = col_slice T (suc r) z b.before ∙ g.width.reach.columns

    -- at most 2 columns are free after the delimiter
    pub ends-tight : {f : ℕ} → f ≡ text_width (slice (r + 1) z T) → f ≤ 2 → LineIs w d T s s r (r + 1)
    ends-tight {f} e h =
        let m = g.more in
        let l = b.before in
        let k : f ≡ text_width (slice (suc r) z T) = rw add-one at e in
        rw (add-one r) (tight-cut w d g.width.some T sound going (omega arith) free next.1 next_past (omega (arith, room-left)))

    module _ {f : ℕ} {long : Bool} (count : f ≡ text_width (slice (r + 1) z T)) (loose : 2 < f) (c : Long w d T (r + 1) long) where
      roomy : col T (suc r) + 2 < col T s + w
      roomy = let k : f ≡ text_width (slice (suc r) z T) = rw add-one at count in omega (arith, room-left)

      told : long ≡ ltb w (text_width (slice (suc r) next.0 T))
      told = let k : Long w d T (suc r) long = rw add-one at c in k next.0 next.1

      piece_columns : col T (suc r) + text_width (slice (suc r) next.0 T) ≡ col T next.0
      piece_columns = col_slice T (suc r) next.0 next.1.from

      -- the next piece fits a line of its own
      pub ends_wrap : long ≡ false → LineIs w d T s s r (r + 1)
      ends_wrap h =
          let m = g.more in
          let l = b.before in
          let k = ltb-false w (text_width (slice (suc r) next.0 T)) (sym told ∙ h) in
          rw (add-one r) (wrap-cut w d g.width.some T sound going (omega arith) free next.1 next_past roomy (omega (arith, piece_columns)))

      -- the next piece is longer than the width
      pub ends_fill : long ≡ true → LineIs w d T s s z z
      ends_fill h =
          let m = g.more in
          let l = b.before in
          let k = ltb-true w (text_width (slice (suc r) next.0 T)) (sym told ∙ h) in
          fill-cut w d g.width.some T sound going (omega arith) free next.1 g.width.reach roomy (omega (arith, piece_columns))

-- ---- whether a piece is longer than the width

cut_once : (d : ℕ) (T : List ℕ) {p x y : ℕ} → Cut d T p x → Cut d T p y → x ≤ y
cut_once d T {p} {x} {y} c e = ⊎_elim (λ k. k) (λ k. absurd (c.clear y e.from k (e.stop (omega (arith, c.within))))) (le-or-lt x y)

module _ (w d : ℕ) (T : List ℕ) (p : ℕ) where
  not_long : ((x : ℕ) → Cut d T p x → col T x ≤ col T p + w) → Long w d T p false
  not_long f x c = sym (le-ltb w (text_width (slice p x T)) (omega (arith, f x c, col_slice T p x c.from)))

  -- there are too few bytes, or columns
  pub few_bytes : length T - p < w → Long w d T p false
  few_bytes h = not_long (λ x c. omega (arith, c.from, c.within, col_bytes T p x c.from c.within))

  pub few_columns : {z n : ℕ} → Reached T p w z n → 0 < n → Long w d T p false
  few_columns {z} {n} r h =
      let e = r.end h in
      let k = rw e at r.columns in
      not_long (λ x c. omega (arith, col-le T x (length T) c.within))

  module _ {z e : ℕ} (r : Reach T p w z) (c : Near d T p (z - p) e) where
    -- it was followed past the width
    pub past-width : z < e → Long w d T p true
    past-width h x k =
        let i = ends d T p (z - p) e c in
        let j = reach-past T r x (omega (arith, i.past, cut_once d T i.cut k)) k.within in
        sym (lt-ltb w (text_width (slice p x T)) (omega (arith, col_slice T p x k.from)))

    -- it ends before
    pub within-width : e ≤ z → Long w d T p false
    within-width h =
        let i = ends d T p (z - p) e c in
        let q = i.same (omega (arith, r.from)) in
        not_long (λ x k. omega (arith, r.columns, col-le T x z (omega (arith, cut_once d T k i.cut))))
