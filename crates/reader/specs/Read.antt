-- A line read through a page reader. Assumes nothing.
use Rattle.std.specs.Prelude.{ℕ, ◌+◌, ◌≡◌, List, Result, Ok, Err}
use Rattle.rules.specs.declared.Refusal.{Refusal}
use Rattle.rules.specs.Calls.{print_line, printed_of}

-- the line to come: the next one after a line that was printed, the same one after a refusal, so that the host can come again with a larger buffer
abbrev pub line_after : ℕ → Result ℕ Refusal → ℕ
line_after k (Ok n) = k + 1
line_after k (Err r) = k

-- line k of the sheet `s` was asked for with the buffer `b`, which is now `a`: the answer, every byte of the buffer, and the line to come
pub record ReadIs (s : List ℕ) (k : ℕ) (b a : List ℕ) (r : Result ℕ Refusal) (l : ℕ) : Type 0 where
  pub answered : printed_of r ≡ (print_line s k b).answer
  pub buffer : a ≡ (print_line s k b).buffer
  pub line : l ≡ line_after k r
