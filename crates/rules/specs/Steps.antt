-- Where a reading leaves off, without its values: what code that goes by positions computes. Assumes nothing.
use Rattle.std.specs.Prelude.{ℕ, zero, suc, List, [], Result, Ok, Err}
use Rattle.rules.specs.Field.{Read, got, refused, Reader, byte_at}
use Rattle.rules.specs.Description.{Format, byte, word, only, zero_word, text, cell_text, listed, give, next, text_length, character, characters, reads, here}
use Rattle.rules.specs.Refusals.{number_of}
use Rattle.rules.specs.declared.Refusal.{Refusal}

-- the next field's position; or a refusal's number and place
pub data Step : Type 0 where
  At : ℕ → Step
  Refused : ℕ → ℕ → Step

-- a refusal as the code tells it
abbrev pub refused_as : Refusal → Step
refused_as r = Refused (number_of r.reason) r.place

-- what the code's reading comes to: where it ended, or its refusal
abbrev pub read_to : Result ℕ Refusal → Step
read_to (Ok p) = At p
read_to (Err r) = refused_as r

abbrev pub step_of : {A : Type 0} → Read A → Step
step_of (got a p) = At p
step_of (refused n p) = Refused n p

-- a reader from a step: a refusal stays
unfoldable pub read_from : {A : Type 0} → Reader A → List ℕ → Step → Step
read_from f s (At p) = step_of (f s p)
read_from f s (Refused n p) = Refused n p

-- what stands where a step does; after a refusal, what stands in no sheet: the byte 0
abbrev sheet_of : List ℕ → Step → List ℕ
sheet_of s (At p) = s
sheet_of s (Refused n p) = []

abbrev place_of : Step → ℕ
place_of (At p) = p
place_of (Refused n p) = 0

unfoldable pub here_of : {A : Type 0} → Format A → List ℕ → Step → A
here_of x s y = here x (sheet_of s y) (place_of y)

unfoldable pub byte_of : List ℕ → Step → ℕ
byte_of s y = byte_at (sheet_of s y) (place_of y)

-- the same n times
unfoldable pub times : ℕ → (Step → Step) → Step → Step
times zero f y = y
times (suc n) f y = times n f (f y)

-- from one step to the next
unfoldable pub after : {A : Type 0} → Format A → List ℕ → Step → Step
after byte s y = read_from (reads byte) s y
after word s y = read_from (reads word) s y
after (only good fault x) s y = read_from (reads (only good fault x)) s y
after zero_word s y = read_from (reads zero_word) s y
after (text low high good) s y = times (byte_of s y) (read_from (character good) s) (read_from (text_length low high) s y)
after (cell_text low high) s y = read_from (characters (byte_of s y)) s (read_from (text_length low high) s y)
after (listed count x) s y = times (here_of count s y) (λ z. after x s z) (after count s y)
after (give a) s y = y
after (next of x g) s y = after (g (here_of x s y)) s (after x s y)
