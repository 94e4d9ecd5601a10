-- One description of fields in a row. Its readings: `reads`, a value or a refusal; `writes`, a value's bytes; `stands`, what is where, untested; `after` (Steps).
-- Assumes nothing.
use Rattle.std.specs.Prelude.{ℕ, zero, suc, ◌+◌, ◌*◌, ◌/◌, ◌%◌, ◌≡◌, List, [], ◌∷◌, ◌++◌, map, Bool, true, false, length, take, drop, eqb}
use Rattle.rules.specs.Text.{flat}
use Rattle.rules.specs.Field as field
use Rattle.rules.specs.Field.{Reader, got, onward, byte_at, word_at, between, printable, printable_or_zero, several}

-- why a field's value is refused
pub data Fault : Type 0 where
  wrong_edition unknown_code beyond_limits bad_character too_many_cells not_zero : Fault

-- 3: edition; 4: unknown code; 5: count, length or value beyond its limits; 6: byte neither printable nor an allowed 0;
-- 7: more cells than columns; 8: unused width byte not zero
abbrev pub number_of : Fault → ℕ
number_of wrong_edition = 3
number_of unknown_code = 4
number_of beyond_limits = 5
number_of bad_character = 6
number_of too_many_cells = 7
number_of not_zero = 8

-- fields in a row that hold an A
pub data Format : Type 0 → Type 1 where
  -- a number of one byte; one of two bytes, low byte first
  byte : Format ℕ
  word : Format ℕ
  -- the same, where the test lets only some values pass
  only : (ℕ → Bool) → Fault → Format ℕ → Format ℕ
  -- the value of an unused width, which is 0
  zero_word : Format ℕ
  -- a text: its length from a lowest to a highest, and as many characters that pass the test
  text : ℕ → ℕ → (ℕ → Bool) → Format (List ℕ)
  -- a cell's text: its length in bytes, from a lowest to a highest, and as many bytes of printable characters and pairs
  cell_text : ℕ → ℕ → Format (List ℕ)
  -- a count, and as many items
  listed : {A : Type 0} → Format ℕ → Format A → Format (List A)
  -- nothing more: the value is made of its parts
  give : {A : Type 0} → A → Format A
  -- a part of a value, by which the fields behind it may go
  next : {U A : Type 0} → (U → A) → Format A → (A → Format U) → Format U

abbrev pub code : ℕ → Format ℕ
code most = only (between 0 most) unknown_code byte

abbrev pub within : ℕ → ℕ → Format ℕ
within low high = only (between low high) beyond_limits byte

abbrev pub word_to : ℕ → Format ℕ
word_to most = only (between 0 most) beyond_limits word

abbrev pub optional : Format ℕ
optional = only printable_or_zero bad_character byte

abbrev pub zero_byte : Format ℕ
zero_byte = only (between 0 0) not_zero byte

-- a section after its count byte
abbrev pub counted : {A : Type 0} → ℕ → ℕ → Format A → Format (List A)
counted low high x = listed (within low high) x

-- a text's length and one of its characters, as fields
abbrev pub text_length : ℕ → ℕ → Reader ℕ
text_length low high = field.only (between low high) (number_of beyond_limits) field.byte

abbrev pub character : (ℕ → Bool) → Reader ℕ
character good = field.only good (number_of bad_character) field.byte

-- "a pair is one field": a number of two bytes, the degree sign's C2 and B0
abbrev pub degree : Reader ℕ
degree = field.only (eqb (194 + 176 * 256)) (number_of bad_character) field.word

-- n bytes of a cell's text, character by character: C2 begins a pair, unless it is the last byte, where no B0 can follow in the line
unfoldable pub characters : ℕ → Reader (List ℕ)
characters zero s p = got [] p
characters (suc zero) s p = onward (character printable s p) (λ b q. got (b ∷ []) q)
characters (suc (suc n)) s p =
    elim (eqb (byte_at s p) 194) [
      | true ↦ onward (degree s p) (λ v q. onward (characters n s q) (λ l r. got (194 ∷ 176 ∷ l) r))
      | false ↦ onward (character printable s p) (λ b q. onward (characters (suc n) s q) (λ l r. got (b ∷ l) r))
    ]

-- the reader
unfoldable pub reads : {A : Type 0} → Format A → Reader A
reads byte = field.byte
reads word = field.word
reads (only good fault x) = field.only good (number_of fault) (reads x)
reads zero_word = field.zero_word
reads (text low high good) = λ s p. onward (text_length low high s p) (λ n q. several n (character good) s q)
reads (cell_text low high) = λ s p. onward (text_length low high s p) (λ n q. characters n s q)
reads (listed count x) = λ s p. onward (reads count s p) (λ n q. several n (reads x) s q)
reads (give a) = λ s p. got a p
reads (next of x g) = λ s p. onward (reads x s p) (λ a q. reads (g a) s q)

-- a value's bytes, field by field; nothing is tested
unfoldable pub writes : {A : Type 0} → Format A → A → List ℕ
writes byte v = v ∷ []
writes word v = v % 256 ∷ v / 256 ∷ []
writes (only good fault x) v = writes x v
writes zero_word v = v % 256 ∷ v / 256 ∷ []
writes (text low high good) l = length l ∷ l
writes (cell_text low high) l = length l ∷ l
writes (listed count x) as' = writes count (length as') ++ flat (map (λ a. writes x a) as')
writes (give a) u = []
writes (next of x g) u = writes x (of u) ++ writes (g (of u)) u

-- the position after n parts, each of which ends where `stop` says
unfoldable pub past : ℕ → (ℕ → ℕ) → ℕ → ℕ
past zero stop p = p
past (suc n) stop p = past n stop (stop p)

-- n parts one after another
unfoldable pub parts : {A : Type 0} → ℕ → (ℕ → A) → (ℕ → ℕ) → ℕ → List A
parts zero here stop p = []
parts (suc n) here stop p = here p ∷ parts n here stop (stop p)

-- a text: its length in bytes, its bytes
unfoldable pub text_at : List ℕ → ℕ → List ℕ
text_at s p = take (byte_at s p) (drop (p + 1) s)

unfoldable pub line_stop : List ℕ → ℕ → ℕ
line_stop s p = p + 1 + byte_at s p

-- what stands at a place, and where it ends, from the bytes alone: nothing is tested
pub record Extent (A : Type 0) : Type 0 where
  pub value : A
  pub end : ℕ

unfoldable pub stands : {A : Type 0} → Format A → List ℕ → ℕ → Extent A
stands byte s p = record { value = byte_at s p; end = p + 1 }
stands word s p = record { value = word_at s p; end = p + 2 }
stands (only good fault x) s p = stands x s p
stands zero_word s p = record { value = word_at s p; end = p + 2 }
stands (text low high good) s p = record { value = text_at s p; end = line_stop s p }
stands (cell_text low high) s p = record { value = text_at s p; end = line_stop s p }
stands (listed count x) s p =
    let n = stands count s p in
    record { value = parts n.value (λ q. (stands x s q).value) (λ q. (stands x s q).end) n.end; end = past n.value (λ q. (stands x s q).end) n.end }
stands (give a) s p = record { value = a; end = p }
stands (next of x g) s p = let a = stands x s p in stands (g a.value) s a.end

abbrev pub here : {A : Type 0} → Format A → List ℕ → ℕ → A
here x s p = (stands x s p).value

abbrev pub stop : {A : Type 0} → Format A → List ℕ → ℕ → ℕ
stop x s p = (stands x s p).end

-- where part k of a value begins
unfoldable pub part_at : {A : Type 0} → ℕ → Format A → List ℕ → ℕ → ℕ
part_at zero x s p = p
part_at (suc k) byte s p = p
part_at (suc k) word s p = p
part_at (suc k) (only good fault x) s p = p
part_at (suc k) zero_word s p = p
part_at (suc k) (text low high good) s p = p
part_at (suc k) (cell_text low high) s p = p
part_at (suc k) (listed count x) s p = p
part_at (suc k) (give a) s p = p
part_at (suc k) (next of x g) s p = let a = stands x s p in part_at k (g a.value) s a.end

-- a value that was read has the property P, and each of its parts is the one that was read
unfoldable pub Faithful : {A : Type 0} → Format A → (A → Type 0) → Type 0
Faithful byte P = (v : ℕ) → P v
Faithful word P = (v : ℕ) → P v
Faithful (only good fault x) P = Faithful x P
Faithful zero_word P = (v : ℕ) → P v
Faithful (text low high good) P = (l : List ℕ) → P l
Faithful (cell_text low high) P = (l : List ℕ) → P l
Faithful (listed {A} count x) P = Faithful count (λ n. Unit {0}) × (Faithful x (λ a. Unit {0}) × ((as' : List A) → P as'))
Faithful (give a) P = P a
Faithful (next {A = A} of x g) P = Faithful x (λ a. Unit {0}) × ((a : A) → Faithful (g a) (λ u. (of u ≡ a) × P u))
