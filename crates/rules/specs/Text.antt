-- Text and small lists. A text is a list of bytes: a character is one printable ASCII byte, or the pair C2 B0, the degree sign. Assumes nothing.
use Rattle.std.specs.Prelude.{ℕ, zero, suc, ◌+◌, max, List, [], ◌∷◌, ◌++◌, Bool, true, false, not, length, take, drop, replicate, eqb}

-- those that pass a test
unfoldable pub keep : {A : Type 0} → (A → Bool) → List A → List A
keep p [] = []
keep p (x ∷ xs) = elim (p x) [ true ↦ x ∷ keep p xs | false ↦ keep p xs ]

-- B0 is the second byte of a pair, and belongs to the byte before it
abbrev pub is_second : ℕ → Bool
is_second b = eqb b 176

-- a text's characters, each by its first byte: C2 stands for the degree sign
unfoldable pub characters_in : List ℕ → List ℕ
characters_in l = keep (λ b. not (is_second b)) l

-- a character is one column, a pair too: the columns that a text takes. Every measure of a text goes through this one definition
unfoldable pub text_width : List ℕ → ℕ
text_width l = length (characters_in l)

-- the bytes of a text's first n characters, of all where it has fewer: "no cut falls inside a pair"
unfoldable pub bytes_of : ℕ → List ℕ → ℕ
bytes_of n [] = 0
bytes_of zero (b ∷ l) = elim (is_second b) [ true ↦ suc (bytes_of zero l) | false ↦ 0 ]
bytes_of (suc n) (b ∷ l) = suc (elim (is_second b) [ true ↦ bytes_of (suc n) l | false ↦ bytes_of n l ])

-- a text's first n columns, and what follows them: every cut of a text goes through these two
unfoldable pub first_of : ℕ → List ℕ → List ℕ
first_of n l = take (bytes_of n l) l

unfoldable pub rest_of : ℕ → List ℕ → List ℕ
rest_of n l = drop (bytes_of n l) l

-- n spaces
abbrev pub blank : ℕ → List ℕ
blank n = replicate n 32

-- a code or a character, or what stands for it where it is 0, which is none
abbrev pub or_else : ℕ → ℕ → ℕ
or_else zero b = b
or_else (suc a) b = suc a

-- 1 for a yes, to be counted
abbrev pub one_if : Bool → ℕ
one_if true = 1
one_if false = 0

-- the greatest of some numbers, 0 of none
unfoldable pub greatest : List ℕ → ℕ
greatest [] = 0
greatest (x ∷ xs) = max x (greatest xs)

unfoldable pub sum : List ℕ → ℕ
sum [] = 0
sum (x ∷ xs) = x + sum xs

-- i, i + 1, .., i + n - 1
unfoldable pub up_from : ℕ → ℕ → List ℕ
up_from i zero = []
up_from i (suc n) = i ∷ up_from (suc i) n

-- one after another
unfoldable pub flat : {A : Type 0} → List (List A) → List A
flat [] = []
flat (l ∷ ls) = l ++ flat ls

-- every entry of a list has a property
abbrev pub All : {A : Type 0} → (A → Type 0) → List A → Type 0
All P [] = Unit {0}
All P (x ∷ xs) = P x × All P xs
