-- The walk's sections, and what is answered by it. Assumes nothing.
use Rattle.std.specs.Prelude.{Result, Ok, Err, ℕ, zero, suc, List, true, false, ◌||◌, leb, ltb, eqb}
use Rattle.rules.specs.Sheet.{most_columns}
use Rattle.rules.specs.Style.{style_characters}
use Rattle.rules.specs.Field.{between, printable, printable_or_zero}
use Rattle.rules.specs.Description.{byte, only, text, code, word_to, optional, counted, wrong_edition}
use Rattle.rules.specs.Format.{width, column, row}
use Rattle.rules.specs.Editor.{number_at}
use Rattle.editor.specs.Walk.{Walk}
use Rattle.editor.specs.Walk.{cursor_of, State, walked}
use Rattle.rules.specs.Refusals.{number_of}
use Rattle.rules.specs.declared.Refusal.{Refusal}

-- a constraint: its code; the first width is used from 3 on, the second by 6
unfoldable pub constraint_walked : List ℕ → List ℕ → State → State
constraint_walked ns ts s =
    let k = (number_at ns (cursor_of s.walk)).value in
    walked (width (eqb k 6)) ns ts (walked (width (leb 3 k)) ns ts (walked (code 6) ns ts s))

-- the table up to its style; then its columns, header and rows
unfoldable pub head_walked : List ℕ → List ℕ → State → State
head_walked ns ts s =
    walked (text style_characters style_characters printable_or_zero) ns ts (walked (text 0 8 printable) ns ts (walked optional ns ts
    (walked (word_to 400) ns ts (walked (code 2) ns ts (walked (only (between 1 1) wrong_edition byte) ns ts s)))))

unfoldable pub body_walked : List ℕ → List ℕ → State → State
body_walked ns ts s =
    let n = (number_at ns (cursor_of s.walk)).value in
    walked (counted 0 100 (row n)) ns ts (walked (counted 0 1 (row n)) ns ts (walked (counted 0 most_columns column) ns ts s))

-- before the first field
abbrev pub begun : Walk
begun = record { numbers = 0; text = 0; missing = false; place = 0; fault = 0; at = 0 }

-- number and place, both 0 where the sheet is to be written
pub record Decided : Type 0 where
  pub number : ℕ
  pub place : ℕ

-- what the code's decision comes to
abbrev pub decided_to : Result (Unit {0}) Refusal → Decided
decided_to (Ok u) = record { number = 0; place = 0 }
decided_to (Err r) = record { number = number_of r.reason; place = r.place }

-- what is answered by the walk over the whole table, and by how much room there is: 1, 9, 2, the first fault, 22
unfoldable pub fitting : ℕ → ℕ → ℕ → ℕ → Decided
fitting zero at place room = elim (leb place room) [ true ↦ record { number = 0; place = 0 } | false ↦ record { number = 22; place = place } ]
fitting (suc n) at place room = record { number = suc n; place = at }

unfoldable pub decided : Walk → ℕ → ℕ → ℕ → Decided
decided w numbers bytes room =
    elim w.missing [
      | true ↦ record { number = 1; place = w.numbers }
      | false ↦ elim (ltb w.numbers numbers || ltb w.text bytes) [
        | true ↦ record { number = 9; place = w.numbers }
        | false ↦ elim (ltb 32768 w.place) [ true ↦ record { number = 2; place = 32768 } | false ↦ fitting w.fault w.at w.place room ]
      ]
    ]
