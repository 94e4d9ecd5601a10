-- Lines of a page from line k on, as many whole ones as a buffer holds. Assumes nothing.
use Rattle.std.specs.Prelude.{Result, Ok, Err, ℕ, ◌+◌, List, true, false, length, drop, leb, ltb}
use Rattle.rules.specs.Field.{Read, got, refused}
use Rattle.rules.specs.Sheet.{Table}
use Rattle.rules.specs.Format.{sheet}
use Rattle.rules.specs.Page.{page_lines, line_at, line_count, closed, whole_lines}
use Rattle.rules.specs.Calls.{over}
use Rattle.rules.specs.Refusals.{number_of}
use Rattle.rules.specs.declared.Refusal.{Refusal}
use Rattle.lines.specs.declared.Totals.{Totals}
use Rattle.page.specs.declared.PrintedLines.{PrintedLines}

-- an answer and the buffer afterwards
pub record Several : Type 0 where
  pub answer : PrintedLines
  pub buffer : List ℕ

-- a refused call: nothing written, no next line, and the buffer keeps every byte
abbrev pub refused_lines : ℕ → ℕ → PrintedLines
refused_lines n p = record { number = n; place = p; written = 0; next = 0 }

abbrev pub no_lines : ℕ → ℕ → List ℕ → Several
no_lines n p b = record { answer = refused_lines n p; buffer = b }

-- what the code did, from line k on: how many lines and bytes it wrote, or its refusal
abbrev pub printed_lines : ℕ → Result Totals Refusal → PrintedLines
printed_lines k (Ok t) = record { number = 0; place = 0; written = t.bytes; next = k + t.lines }
printed_lines k (Err r) = refused_lines (number_of r.reason) r.place

-- these lines, the first of them line k, over the buffer's start
abbrev pub lines_given : ℕ → List (List ℕ) → List ℕ → Several
lines_given k ls b = record { answer = record { number = 0; place = 0; written = length (closed ls); next = k + length ls }; buffer = over (closed ls) b }

-- 20 where not even line k fits (place: the bytes that it needs)
unfoldable pub put_lines : Table → ℕ → List ℕ → Several
put_lines t k b = elim (leb (length (line_at t k)) (length b)) [ true ↦ lines_given k (whole_lines (length b) (drop k (page_lines t))) b | false ↦ no_lines 20 (length (line_at t k)) b ]

-- print lines from line k on; 21: position at or past the line count (place: that count), before 20
unfoldable pub print_lines_of : Read Table → ℕ → List ℕ → Several
print_lines_of (got t p) k b = elim (ltb k (line_count t)) [ true ↦ put_lines t k b | false ↦ no_lines 21 (line_count t) b ]
print_lines_of (refused n p) k b = no_lines n p b

unfoldable pub print_lines : List ℕ → ℕ → List ℕ → Several
print_lines s k b = print_lines_of (sheet s) k b
