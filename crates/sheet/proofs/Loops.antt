-- A loop that reads n items: what is left to read from here is what there was to read from its start. Assumes nothing.
use Prim.Native.Nat.{ℕ, zero, suc, ◌+◌, ◌-◌, ◌<◌, ◌≤◌}
use mathlib.Core.Bool.{true, ◌&&◌}
use mathlib.Core.Path.{◌≡◌, refl, sym, ◌∙◌}
use mathlib.Core.List.{List}
use native.Mathlib.Omega.{arith}
use lib.ListN.{get_or, take, drop}
use Rattle.rules.specs.Field.{printable}
use Rattle.rules.specs.Steps.{times}
use Rattle.rules.specs.Steps.{Step, Refused}
use Rattle.laws.proofs.Reading.{times_off}
use Rattle.sheet.specs.Steps.{printables}
use Rattle.sheet.proofs.Fields.{part_at}

next : (f : Step → Step) (m : ℕ) (x : Step) → times (suc m) f x ≡ times m f (f x)
unfolding times
next f m x = refl

-- with i of n items read and standing at x, what is left comes to w
pub record Items (f : Step → Step) (n i : ℕ) (x w : Step) : Type 0 where
  pub rest : times (n - i) f x ≡ w

pub items-again : (f : Step → Step) (n i : ℕ) (x y w : Step) → i < n → Items f n i x w → y ≡ f x → Items f n (i + 1) y w
items-again f n i x y w h e g =
    let z : n - i ≡ suc (n - (i + 1)) = omega arith in
    record { rest = rw g (sym (next f (n - (i + 1)) x) ∙ rw (← z) e.rest) }

pub items_done : (f : Step → Step) (n i : ℕ) (x w : Step) → n ≤ i → Items f n i x w → x ≡ w
unfolding times
items_done f n i x w h e = let z : n - i ≡ 0 = omega arith in rw z at e.rest

pub items_stopped : (f : Step → Step) → ((k q : ℕ) → f (Refused k q) ≡ Refused k q) → (n i : ℕ) (x w : Step) (k q : ℕ) → i < n → Items f n i x w
    → Refused k q ≡ f x → Refused k q ≡ w
items_stopped f off n i x w k q h e g =
    let z : n - i ≡ suc (n - (i + 1)) = omega arith in
    sym (times_off (n - (i + 1)) f off k q) ∙ rw g (sym (next f (n - (i + 1)) x) ∙ rw (← z) e.rest)

-- ---- bytes tested at once

pub printables_none : (s : List ℕ) (start : ℕ) → true ≡ printables s start 0
unfolding printables
printables_none s start = refl

pub printables_more : (s : List ℕ) (start n : ℕ) → printables s start (n + 1) ≡ (printables s start n && printable (get_or s (start + n) 0))
unfolding printables
printables_more s start n = let z : n + 1 ≡ suc n = omega arith in rw z

pub printables_next : (s : List ℕ) (start i : ℕ) → start ≤ i → printables s start (i - start) ≡ true → printable (get_or s i 0) ≡ true
    → printables s start (i + 1 - start) ≡ true
printables_next s start i h p q =
    let z : i + 1 - start ≡ i - start + 1 = omega arith in
    let y : start + (i - start) ≡ i = omega arith in
    rw (z, printables_more s start (i - start), y, p, q)

-- of a part of the sheet
part_printables : (s : List ℕ) (start n m : ℕ) → m ≤ n → printables (take n (drop start s)) 0 m ≡ printables s start m
unfolding printables
part_printables s start n zero h = refl
part_printables s start n (suc m) h =
    let z : get_or (take n (drop start s)) (0 + m) 0 ≡ get_or s (start + m) 0 = let y : 0 + m ≡ m = omega arith in rw y (part_at s start n m (omega arith)) in
    rw (part_printables s start n m (omega arith), z)

pub printables_part : (s : List ℕ) (start end : ℕ)
    → printables (take (end - start) (drop start s)) 0 (end - start) ≡ printables s start (end - start)
printables_part s start end = part_printables s start (end - start) (end - start) (omega arith)
