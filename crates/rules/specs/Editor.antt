-- The editor's table: two slices, numbers and text, in the sheet's order. What table they describe, and the slices of a table. Assumes nothing.
use Rattle.std.specs.Prelude.{ℕ, zero, suc, ◌+◌, List, [], ◌∷◌, ◌++◌, map, Bool, true, false, not, ◌&&◌, length, get_or, take, drop, ltb, leb}
use Rattle.rules.specs.Text.{flat}
use Rattle.rules.specs.Description.{Format, byte, word, only, zero_word, text, cell_text, listed, give, next}

-- how many numbers and how many bytes of text are taken; and whether something was missing
pub record Cursor : Type 0 where
  pub numbers : ℕ
  pub text : ℕ
  pub missing : Bool

abbrev pub start : Cursor
start = record { numbers = 0; text = 0; missing = false }

-- once something was missing nothing more is taken
abbrev pub lacking : Cursor → Cursor
lacking c = record { numbers = c.numbers; text = c.text; missing = true }

-- what was taken, and the cursor behind it
pub record Taken (A : Type 0) : Type 0 where
  pub value : A
  pub after : Cursor

-- the next number; 0 where it is missing
unfoldable pub number_at : List ℕ → Cursor → Taken ℕ
number_at ns c =
    elim (not c.missing && ltb c.numbers (length ns)) [
      | true ↦ record { value = get_or ns c.numbers 0; after = record { numbers = c.numbers + 1; text = c.text; missing = false } }
      | false ↦ record { value = 0; after = lacking c }
    ]

-- the next n bytes of the text; none where some are missing
unfoldable pub bytes_at : ℕ → List ℕ → Cursor → Taken (List ℕ)
bytes_at n ts c =
    elim (not c.missing && leb (c.text + n) (length ts)) [
      | true ↦ record { value = take n (drop c.text ts); after = record { numbers = c.numbers; text = c.text + n; missing = false } }
      | false ↦ record { value = []; after = lacking c }
    ]

-- a text: its length is a number
unfoldable pub text_taken : List ℕ → List ℕ → Cursor → Taken (List ℕ)
text_taken ns ts c = let n = number_at ns c in bytes_at n.value ts n.after

-- n items
unfoldable pub several_taken : {A : Type 0} → ℕ → (Cursor → Taken A) → Cursor → Taken (List A)
several_taken zero f c = record { value = []; after = c }
several_taken (suc n) f c =
    let a = f c in
    let as' = several_taken n f a.after in
    record { value = a.value ∷ as'.value; after = as'.after }

-- the description's reading of the slices: one number a field, whether its value suits it or not
unfoldable pub takes : {A : Type 0} → Format A → List ℕ → List ℕ → Cursor → Taken A
takes byte ns ts c = number_at ns c
takes word ns ts c = number_at ns c
takes (only good fault x) ns ts c = takes x ns ts c
takes zero_word ns ts c = number_at ns c
takes (text low high good) ns ts c = text_taken ns ts c
takes (cell_text low high) ns ts c = text_taken ns ts c
takes (listed count x) ns ts c = let n = takes count ns ts c in several_taken n.value (λ d. takes x ns ts d) n.after
takes (give a) ns ts c = record { value = a; after = c }
takes (next of x g) ns ts c = let a = takes x ns ts c in takes (g a.value) ns ts a.after

-- the numbers of a value, and its text
unfoldable pub numbers_of : {A : Type 0} → Format A → A → List ℕ
numbers_of byte v = v ∷ []
numbers_of word v = v ∷ []
numbers_of (only good fault x) v = numbers_of x v
numbers_of zero_word v = v ∷ []
numbers_of (text low high good) l = length l ∷ []
numbers_of (cell_text low high) l = length l ∷ []
numbers_of (listed count x) as' = numbers_of count (length as') ++ flat (map (λ a. numbers_of x a) as')
numbers_of (give a) u = []
numbers_of (next of x g) u = numbers_of x (of u) ++ numbers_of (g (of u)) u

unfoldable pub text_of : {A : Type 0} → Format A → A → List ℕ
text_of byte v = []
text_of word v = []
text_of (only good fault x) v = []
text_of zero_word v = []
text_of (text low high good) l = l
text_of (cell_text low high) l = l
text_of (listed count x) as' = flat (map (λ a. text_of x a) as')
text_of (give a) u = []
text_of (next of x g) u = text_of x (of u) ++ text_of (g (of u)) u
