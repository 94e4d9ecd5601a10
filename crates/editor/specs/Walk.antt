-- A walk over the fields of the editor's table in the sheet's order: what the code's one walk finds, and what it puts where there is room. Assumes nothing.
use Rattle.std.specs.Prelude.{Option, Some, None, Result, Ok, Err, ℕ, zero, suc, ◌+◌, ◌%◌, ◌≤◌, ◌<◌, min, ◌≡◌, List, [], ◌∷◌, map, Bool, true, false, length, drop, leb, eqb}
use Rattle.rules.specs.Text.{or_else}
use Rattle.rules.specs.Style.{style_characters}
use Rattle.rules.specs.Field.{printable, printable_or_zero}
use Rattle.rules.specs.Description.{Format, byte, word, only, zero_word, text, cell_text, listed, give, next, writes}
use Rattle.rules.specs.Format.{line}
use Rattle.rules.specs.Editor.{Cursor, number_at, takes}
use Rattle.rules.specs.Writer.{passes, in_turn, character_judged, characters_judged, judges}
use Rattle.rules.specs.Steps.{Step, At, Refused}
use Rattle.buffer.specs.Put.{put_at}
use Rattle.rules.specs.Refusals.{number_of}
use Rattle.rules.specs.Steps.{refused_as}
use Rattle.rules.specs.declared.Refusal.{Refusal}
use Rattle.editor.specs.declared.walk.Walk.{Walk as Going}
use Rattle.editor.specs.declared.walk.Missing.{Missing}
use Rattle.editor.specs.declared.walk.Taken.{Taken}
use Rattle.editor.specs.declared.field.Field.{Field}
use Rattle.editor.specs.declared.text.Kind.{Kind}
use Rattle.editor.specs.declared.text.Kind.TheVariants.{Indicator, Style, Line}

-- places are exact up to the longest sheet, and one number stands for all above it
unfoldable pub cap : ℕ → ℕ
cap n = min n 32769

-- a walk: how much of the slices it has taken, and whether something was missing; where the next field starts; the first fault's number, 0 for none, and place
pub record Walk : Type 0 where
  pub numbers : ℕ
  pub text : ℕ
  pub missing : Bool
  pub place : ℕ
  pub fault : ℕ
  pub at : ℕ

-- what the code tells of a fault, and of a walk on which nothing was missing
abbrev pub number_in : Option Refusal → ℕ
number_in None = 0
number_in (Some r) = number_of r.reason

abbrev pub place_in : Option Refusal → ℕ
place_in None = 0
place_in (Some r) = r.place

abbrev pub walk_of : Going → Walk
walk_of w = record { numbers = w.numbers; text = w.text; missing = false; place = w.place; fault = number_in w.fault; at = place_in w.fault }

-- the same, where something was missing behind it
abbrev pub lacking_of : Missing → Walk
lacking_of m = record {
  numbers = m.walk.numbers;
  text = m.walk.text;
  missing = true;
  place = m.walk.place;
  fault = number_in m.walk.fault;
  at = place_in m.walk.fault;
}

-- what a function of the code comes to, whatever it gives beside the walk
abbrev pub walked_to : Result Going Missing → Walk
walked_to (Ok w) = walk_of w
walked_to (Err m) = lacking_of m

abbrev pub taken_to : Result Taken Missing → Walk
taken_to (Ok t) = walk_of t.next
taken_to (Err m) = lacking_of m

abbrev pub field_to : Result Field Missing → Walk
field_to (Ok f) = walk_of f.walk
field_to (Err m) = lacking_of m

-- a judgement as the code tells it; where a field without a fault ends isn't looked at
abbrev pub judged_as : Option Refusal → Step
judged_as None = At 0
judged_as (Some r) = refused_as r

-- how much of the slices a walk has taken; the same walk with another cursor
abbrev pub cursor_of : Walk → Cursor
cursor_of w = record { numbers = w.numbers; text = w.text; missing = w.missing }

abbrev pub moved : Cursor → Walk → Walk
moved c w = record { numbers = c.numbers; text = c.text; missing = c.missing; place = w.place; fault = w.fault; at = w.at }

-- a walk and the buffer that it was lent
pub record State : Type 0 where
  pub walk : Walk
  pub sheet : List ℕ

abbrev pub state : Walk → List ℕ → State
state w d = record { walk = w; sheet = d }

-- a judgement's number, 0 where there is no fault
abbrev pub fault_of : Step → ℕ
fault_of (At p) = 0
fault_of (Refused n p) = n

-- the place of the first fault: the one before, where there was one
unfoldable pub first_place : ℕ → ℕ → ℕ → ℕ
first_place zero before now = now
first_place (suc n) before now = before

abbrev pub place_of : Step → ℕ → ℕ → ℕ
place_of (At p) fault at = at
place_of (Refused n p) fault at = first_place fault at (cap p)

-- the first fault is kept
unfoldable pub noted : Step → Walk → Walk
noted y w = record {
  numbers = w.numbers;
  text = w.text;
  missing = w.missing;
  place = w.place;
  fault = or_else w.fault (fault_of y);
  at = place_of y w.fault w.at;
}

-- the next field starts n bytes further on
unfoldable pub advanced : ℕ → Walk → Walk
advanced n w = record { numbers = w.numbers; text = w.text; missing = w.missing; place = cap (w.place + n); fault = w.fault; at = w.at }

-- bytes put from p on where the buffer has room for all of them, else none
unfoldable pub stamped : List ℕ → ℕ → List ℕ → List ℕ
stamped d p l = elim (leb (p + length l) (length d)) [ true ↦ put_at d p l | false ↦ d ]

-- a number as the byte that is put for it
abbrev pub low : ℕ → ℕ
low v = v % 256

-- a field that was taken, with its judgement and its bytes; nothing where it was missing
unfoldable pub entered : Step → List ℕ → State → State
entered y l s =
    elim s.walk.missing [
      | true ↦ s
      | false ↦ record { walk = advanced (length l) (noted y s.walk); sheet = stamped s.sheet s.walk.place l }
    ]

-- one field, or a text with its length: taken, judged, put
unfoldable pub field_entered : {A : Type 0} → Format A → List ℕ → List ℕ → State → State
field_entered x ns ts s =
    let g = takes x ns ts (cursor_of s.walk) in
    entered (judges x g.value s.walk.place) (map low (writes x g.value)) (state (moved g.after s.walk) s.sheet)

-- a field of one byte, whose values pass the test or are refused with the number
unfoldable pub byte_entered : (ℕ → Bool) → ℕ → List ℕ → State → State
byte_entered good number ns s =
    let g = number_at ns (cursor_of s.walk) in
    entered (passes (good g.value) number s.walk.place 0) (low g.value ∷ []) (state (moved g.after s.walk) s.sheet)

-- the same n times
unfoldable pub again : ℕ → (State → State) → State → State
again zero f s = s
again (suc n) f s = again n f (f s)

-- what stands in the slices where a walk does
unfoldable pub value_at : {A : Type 0} → Format A → List ℕ → List ℕ → State → A
value_at x ns ts s = (takes x ns ts (cursor_of s.walk)).value

-- from field to field, by the description
unfoldable pub walked : {A : Type 0} → Format A → List ℕ → List ℕ → State → State
walked byte ns ts s = field_entered byte ns ts s
walked word ns ts s = field_entered word ns ts s
walked (only good fault x) ns ts s = field_entered (only good fault x) ns ts s
walked zero_word ns ts s = field_entered zero_word ns ts s
walked (text low high good) ns ts s = field_entered (text low high good) ns ts s
walked (cell_text low high) ns ts s = field_entered (cell_text low high) ns ts s
walked (listed count x) ns ts s = again (value_at count ns ts s) (λ u. walked x ns ts u) (walked count ns ts s)
walked (give a) ns ts s = s
walked (next of x g) ns ts s = walked (g (value_at x ns ts s)) ns ts (walked x ns ts s)

-- the place of an unused width's fault, by its value
abbrev pub unused_place : ℕ → ℕ → ℕ
unused_place p v = elim (eqb (v % 256) 0) [ true ↦ cap (p + 1) | false ↦ p ]

-- 5 where a cell count is above the limit, else 7
abbrev pub count_fault : Bool → ℕ
count_fault true = 7
count_fault false = 5

-- the texts of a table, and whether a character of one may be 0
abbrev pub text_format : Kind → Format (List ℕ)
text_format Indicator = text 0 8 printable
text_format Style = text style_characters style_characters printable_or_zero
text_format Line = line

abbrev pub letter : Bool → ℕ → Bool
letter true v = printable_or_zero v
letter false v = printable v

-- the characters of a text, judged from p on
abbrev pub characters_of : Kind → List ℕ → ℕ → Step
characters_of Indicator l p = in_turn (character_judged (letter false)) l p
characters_of Style l p = in_turn (character_judged (letter true)) l p
characters_of Line l p = characters_judged l p

-- what the character at p of a line comes to: the line's refusal, or the place where the others begin
abbrev pub CharacterIs : List ℕ → ℕ → Step → Type 0
CharacterIs l p (At q) = (p < q) × ((q ≤ length l) × (characters_judged (drop p l) p ≡ characters_judged (drop q l) q))
CharacterIs l p (Refused n q) = Refused n q ≡ characters_judged (drop p l) p

-- the shortest and the longest of them
abbrev pub least : Kind → ℕ
least Indicator = 0
least Style = style_characters
least Line = 0

abbrev pub most : Kind → ℕ
most Indicator = 8
most Style = style_characters
most Line = 200
