-- Where a piece of a text ends. Assumes nothing.
use Rattle.std.specs.Prelude.{ℕ, suc, ◌-◌, ◌≤◌, ◌<◌, ◌≡◌, ◌⊎◌, List, Bool, false, length, get_or, ltb}
use Rattle.std.proofs.Math.Seq.{slice}
use Rattle.rules.specs.Text.{is_second, text_width}
use Rattle.text_width.specs.Measure.{Reach}

-- the piece of t that holds position s ends at e: e is the first delimiter at or after s, or the end of t
pub record Cut (d : ℕ) (t : List ℕ) (s e : ℕ) : Type 0 where
  pub from : s ≤ e
  pub within : e ≤ length t
  pub clear : (k : ℕ) → s ≤ k → k < e → get_or t k 0 ≡ d → ⊥
  pub stop : e < length t → get_or t e 0 ≡ d

-- the same, but a piece longer than m is followed only just past m bytes
pub record Near (d : ℕ) (t : List ℕ) (s m e : ℕ) : Type 0 where
  pub from : s ≤ e
  pub within : e ≤ length t
  pub clear : (k : ℕ) → s ≤ k → k < e → get_or t k 0 ≡ d → ⊥
  pub stop : e < length t → (get_or t e 0 ≡ d) ⊎ (m < e - s)

-- the first byte of t at or after s that is no delimiter is at r, or r is the end of t
pub record Start (d : ℕ) (t : List ℕ) (s r : ℕ) : Type 0 where
  pub from : s ≤ r
  pub within : r ≤ length t
  pub skipped : (k : ℕ) → s ≤ k → k < r → get_or t k 0 ≡ d
  pub stop : r < length t → get_or t r 0 ≡ d → ⊥

-- the last delimiter of t after s and before z is at r, or r is s and there is none
pub record Back (d : ℕ) (t : List ℕ) (s z r : ℕ) : Type 0 where
  pub from : s ≤ r
  pub before : r < z
  pub clear : (k : ℕ) → r < k → k < z → get_or t k 0 ≡ d → ⊥
  pub found : s < r → get_or t r 0 ≡ d

-- w columns of t, from s on, are reached at z, and no delimiter is at s
pub record AtWidth (w d : ℕ) (t : List ℕ) (s z : ℕ) : Type 0 where
  pub some : 0 < w
  pub inside : s < length t
  pub reach : Reach t s w z
  pub begun : get_or t s 0 ≡ d → ⊥

-- t goes on past that place, and no delimiter is on either side of it
pub record Straddle (w d : ℕ) (t : List ℕ) (s z : ℕ) : Type 0 where
  pub width : AtWidth w d t s z
  pub more : z < length t
  pub last : get_or t (z - 1) 0 ≡ d → ⊥
  pub past : get_or t z 0 ≡ d → ⊥

-- a delimiter is a character, and characters begin at a and after each delimiter
pub record Sound (d : ℕ) (t : List ℕ) (a : ℕ) : Type 0 where
  pub first : is_second d ≡ false
  pub begins : is_second (get_or t a 0) ≡ false
  pub after : (k : ℕ) → a ≤ k → get_or t k 0 ≡ d → is_second (get_or t (suc k) 0) ≡ false

-- whether the piece from s on has more columns than w
abbrev pub Long : ℕ → ℕ → List ℕ → ℕ → Bool → Type 0
Long w d t s b = (x : ℕ) → Cut d t s x → b ≡ ltb w (text_width (slice s x t))
