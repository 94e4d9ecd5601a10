-- What is taken of the slices, one law for each way out of the code. Assumes nothing.
use Prim.Native.Nat.{ℕ, ◌+◌, ◌-◌, ◌≤◌, ◌<◌}
use mathlib.Core.Path.{◌≡◌, refl, sym, ap}
use mathlib.Core.List.{List}
use mathlib.Core.Bool.{Bool, true, false, not, ◌&&◌}
use native.Mathlib.Omega.{arith}
use lib.ListN.{length, get_or}
use borrow.Author.Tests.{lt-ltb, le-ltb, le-leb, lt-leb}
use Rattle.rules.specs.Editor.{Cursor, Taken, lacking, number_at, bytes_at}
use Rattle.editor.specs.Walk.{Walk}
use Rattle.editor.specs.Walk.{cursor_of, moved}

-- nothing more is taken where a test fails, whatever the other one says
and-false : (b : Bool) → (b && false) ≡ false
and-false true = refl
and-false false = refl

-- ---- a number

abbrev pub behind : Walk → Cursor
behind w = record { numbers = w.numbers + 1; text = w.text; missing = false }

there : (ns : List ℕ) (w : Walk) → w.missing ≡ false → w.numbers < length ns → number_at ns (cursor_of w) ≡ record { value = get_or ns w.numbers 0; after = behind w }
unfolding number_at
there ns w m h = rw (m, lt-ltb w.numbers (length ns) h, number_at)

none : (ns : List ℕ) (w : Walk) → length ns ≤ w.numbers → number_at ns (cursor_of w) ≡ record { value = 0; after = lacking (cursor_of w) }
unfolding number_at
none ns w h = rw (le-ltb w.numbers (length ns) h, and-false (not w.missing), number_at)

pub number_none : (ns : List ℕ) (w : Walk) → length ns ≤ w.numbers → moved (lacking (cursor_of w)) w ≡ moved (number_at ns (cursor_of w)).after w
number_none ns w h = sym (ap (λ (g : Taken ℕ). moved g.after w) (none ns w h))

pub number_value : (ns : List ℕ) (w : Walk) → w.missing ≡ false → w.numbers < length ns → get_or ns w.numbers 0 ≡ (number_at ns (cursor_of w)).value
number_value ns w m h = sym (ap (λ (g : Taken ℕ). g.value) (there ns w m h))

pub number_next : (ns : List ℕ) (w : Walk) → w.missing ≡ false → w.numbers < length ns → moved (behind w) w ≡ moved (number_at ns (cursor_of w)).after w
number_next ns w m h = sym (ap (λ (g : Taken ℕ). moved g.after w) (there ns w m h))

-- ---- bytes of the text

module _ (n : ℕ) (ts : List ℕ) (w : Walk) where
  pub bytes_missing : w.missing ≡ true → w ≡ moved (bytes_at n ts (cursor_of w)).after w
  unfolding bytes_at
  bytes_missing m = rw (m, bytes_at)

  pub bytes_past : length ts < w.text → moved (lacking (cursor_of w)) w ≡ moved (bytes_at n ts (cursor_of w)).after w
  unfolding bytes_at
  bytes_past h = rw (lt-leb (w.text + n) (length ts) (omega arith), and-false (not w.missing), bytes_at)

  pub bytes_short : w.text ≤ length ts → length ts - w.text < n → moved (lacking (cursor_of w)) w ≡ moved (bytes_at n ts (cursor_of w)).after w
  unfolding bytes_at
  bytes_short h k = rw (lt-leb (w.text + n) (length ts) (omega arith), and-false (not w.missing), bytes_at)

  pub bytes_there : w.missing ≡ false → w.text ≤ length ts → n ≤ length ts - w.text
      → record { numbers = w.numbers; text = w.text + n; missing = false; place = w.place; fault = w.fault; at = w.at } ≡ moved (bytes_at n ts (cursor_of w)).after w
  unfolding bytes_at
  bytes_there m h k = rw (m, le-leb (w.text + n) (length ts) (omega arith), bytes_at)
