-- The writer: document 02, order 4. What it refuses of a table, the sheet that it writes, and the call that takes the editor's slices. Assumes nothing.
use Rattle.std.specs.Prelude.{ℕ, ◌+◌, ◌/◌, ◌%◌, List, [], ◌∷◌, Bool, true, false, ◌||◌, length, ltb, eqb}
use Rattle.rules.specs.Sheet.{Table}
use Rattle.rules.specs.Field.{between, printable}
use Rattle.rules.specs.Description.{Format, byte, word, only, zero_word, text, cell_text, listed, give, next}
use Rattle.rules.specs.Description.{number_of, beyond_limits, bad_character, not_zero}
use Rattle.rules.specs.Format.{table, written}
use Rattle.rules.specs.Steps.{Step, At, Refused}
use Rattle.rules.specs.Calls.{Written, not_printed, put_or}
use Rattle.rules.specs.Editor.{Taken, start, takes}

-- fields left to right: the first fault stays
unfoldable pub thence : Step → (ℕ → Step) → Step
thence (At p) f = f p
thence (Refused n p) f = Refused n p

-- a field at p whose value is good ends at q; else its fault has the place that the field would have had
unfoldable pub passes : Bool → ℕ → ℕ → ℕ → Step
passes true number p q = At q
passes false number p q = Refused number p

-- items one after another
unfoldable pub in_turn : {A : Type 0} → (A → ℕ → Step) → List A → ℕ → Step
in_turn f [] p = At p
in_turn f (a ∷ as') p = thence (f a p) (in_turn f as')

-- a text's length and one of its characters
abbrev pub length_judged : ℕ → ℕ → List ℕ → ℕ → Step
length_judged low high l p = passes (between low high (length l)) (number_of beyond_limits) p (p + 1)

abbrev pub character_judged : (ℕ → Bool) → ℕ → ℕ → Step
character_judged good c p = passes (good c) (number_of bad_character) p (p + 1)

-- a cell's text: a pair is one field, and C2 is half of one where no B0 follows it in the line
unfoldable pub characters_judged : List ℕ → ℕ → Step
characters_judged [] p = At p
characters_judged (b ∷ []) p = character_judged printable b p
characters_judged (b ∷ c ∷ l) p =
    elim (eqb b 194) [
      | true ↦ thence (passes (eqb c 176) (number_of bad_character) p (p + 2)) (characters_judged l)
      | false ↦ thence (character_judged printable b p) (characters_judged (c ∷ l))
    ]

-- a byte of an unused width, of which the low one comes first
abbrev pub zero_judged : ℕ → ℕ → Step
zero_judged b p = passes (eqb b 0) (number_of not_zero) p (p + 1)

-- the description's reading of a value that is to be written from p on: where its fields end, or the first fault
unfoldable pub judges : {A : Type 0} → Format A → A → ℕ → Step
judges byte v p = At (p + 1)
judges word v p = At (p + 2)
judges (only good fault x) v p = thence (judges x v p) (passes (good v) (number_of fault) p)
judges zero_word v p = thence (zero_judged (v % 256) p) (zero_judged (v / 256))
judges (text low high good) l p = thence (length_judged low high l p) (in_turn (character_judged good) l)
judges (cell_text low high) l p = thence (length_judged low high l p) (characters_judged l)
judges (listed count x) as' p = thence (judges count (length as') p) (in_turn (λ a q. judges x a q) as')
judges (give a) u p = At p
judges (next of x g) u p = thence (judges x (of u) p) (λ q. judges (g (of u)) u q)

-- "one that needs over 32,768 bytes gets 2 first"; "a table that no sheet describes gets the reader's number, with the place that the field would have had"
unfoldable pub judged : Table → Step
judged t = elim (ltb 32768 (length (written t))) [ true ↦ Refused 2 32768 | false ↦ judges table t 0 ]

-- "22 when the table is in order but its sheet doesn't fit the buffer, place the bytes needed, tested last"
unfoldable pub save_of : Step → Table → List ℕ → Written
save_of (At p) t b = put_or 22 (written t) b
save_of (Refused n p) t b = not_printed n p b

-- the writer: the table's sheet over the buffer's start
unfoldable pub save : Table → List ℕ → Written
save t b = save_of (judged t) t b

-- slices that contradict themselves describe no table: 1 where something is missing, 9 where something is left over (place: the count of numbers taken)
unfoldable pub save_taken : List ℕ → List ℕ → Taken Table → List ℕ → Written
save_taken ns ts g b =
    elim g.after.missing [
      | true ↦ not_printed 1 g.after.numbers b
      | false ↦ elim (ltb g.after.numbers (length ns) || ltb g.after.text (length ts)) [
        | true ↦ not_printed 9 g.after.numbers b
        | false ↦ save g.value b
      ]
    ]

-- the call: the table that the slices describe, saved
unfoldable pub write_sheet : List ℕ → List ℕ → List ℕ → Written
write_sheet ns ts b = save_taken ns ts (takes table ns ts start) b
