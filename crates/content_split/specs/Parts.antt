-- The next wrapped line of a text, by positions. Assumes nothing.
use Rattle.std.specs.Prelude.{ℕ, ◌≤◌, ◌<◌, ◌≡◌, List, [], ◌∷◌, length, drop, get_or, false, Option, Some, None}
use Rattle.std.proofs.Math.Seq.{slice}
use Rattle.rules.specs.Text.{is_second, text_width}
use Rattle.rules.specs.Wrap.{split}
use Rattle.content_split.specs.declared.Part.{Part}

-- the text t wraps, from position a on, into the line of its bytes s to e, and the lines that it wraps into from n on, where a character begins
pub record LineIs (w d : ℕ) (t : List ℕ) (a s e n : ℕ) : Type 0 where
  pub after : a ≤ s
  pub some : s < e
  pub fits : text_width (slice s e t) ≤ w
  pub onward : e ≤ n
  pub within : n ≤ length t
  pub whole : is_second (get_or t n 0) ≡ false
  pub wraps : split w d (drop a t) ≡ slice s e t ∷ split w d (drop n t)

-- the next of its lines from position a on, if there is one
abbrev pub PartIs : ℕ → ℕ → List ℕ → ℕ → Option Part → Type 0
PartIs w d t a (Some p) = LineIs w d t a p.start p.end p.next
PartIs w d t a None = split w d (drop a t) ≡ []
