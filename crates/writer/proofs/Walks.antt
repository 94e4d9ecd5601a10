-- Laws of the walk: once something was missing it stands still, and the buffer keeps its length; sections as the code walks them; loops. Assumes nothing.
use Prim.Native.Nat.{ℕ, zero, suc, ◌+◌, ◌-◌, ◌≤◌, ◌<◌}
use mathlib.Core.Path.{◌≡◌, refl, sym, ap, ◌∙◌}
use mathlib.Core.List.{List, [], ◌∷◌, map}
use mathlib.Core.Bool.{Bool, true, false, cond}
use native.Mathlib.Omega.{arith}
use lib.ListN.{length}
use lib.Dec.{leb, eqb}
use Rattle.rules.specs.Sheet.{most_columns}
use Rattle.rules.specs.Style.{style_characters}
use Rattle.rules.specs.Field.{between, printable, printable_or_zero}
use Rattle.rules.specs.Description.{Format, byte, word, only, zero_word, text, cell_text, listed, give, next, writes}
use Rattle.rules.specs.Description.{code, word_to, optional, counted, unknown_code, beyond_limits, bad_character, not_zero, wrong_edition}
use Rattle.rules.specs.Format.{width, column, line, cell_by, cell, cell_count, row_by, row, table_by, table}
use Rattle.rules.specs.Editor.{Cursor, Taken, number_at, bytes_at, text_taken, several_taken, takes}
use Rattle.rules.specs.Writer.{passes, judges}
use Rattle.editor.specs.Walk.{cursor_of, moved, State, state, low, entered, field_entered, byte_entered, again, value_at, walked}
use Rattle.writer.specs.Answer.{constraint_walked, head_walked, body_walked}
use Rattle.editor.proofs.Entering.{missing_entered}
use Rattle.editor.proofs.Fields.{byte-walked}

-- ---- once something was missing

number_stays : (ns : List ℕ) (c : Cursor) → c.missing ≡ true → (number_at ns c).after ≡ c
unfolding number_at
number_stays ns c m = rw (m, number_at)

bytes_stays : (n : ℕ) (ts : List ℕ) (c : Cursor) → c.missing ≡ true → (bytes_at n ts c).after ≡ c
unfolding bytes_at
bytes_stays n ts c m = rw (m, bytes_at)

text_stays : (ns ts : List ℕ) (c : Cursor) → c.missing ≡ true → (text_taken ns ts c).after ≡ c
unfolding text_taken
text_stays ns ts c m =
    let n = number_stays ns c m in
    rw n (bytes_stays (number_at ns c).value ts c m)

pub several_stays : {A : Type 0} (f : Cursor → Taken A) (c : Cursor) → (f c).after ≡ c → (n : ℕ) → (several_taken n f c).after ≡ c
unfolding several_taken
several_stays f c e zero = refl
several_stays f c e (suc n) = ap (λ (d : Cursor). (several_taken n f d).after) e ∙ several_stays f c e n

-- nothing more is taken
pub takes_stays : {A : Type 0} (x : Format A) (ns ts : List ℕ) (c : Cursor) → c.missing ≡ true → (takes x ns ts c).after ≡ c
unfolding takes
takes_stays byte ns ts c m = number_stays ns c m
takes_stays word ns ts c m = number_stays ns c m
takes_stays (only good fault x) ns ts c m = takes_stays x ns ts c m
takes_stays zero_word ns ts c m = number_stays ns c m
takes_stays (text low high good) ns ts c m = text_stays ns ts c m
takes_stays (cell_text low high) ns ts c m = text_stays ns ts c m
takes_stays (listed count x) ns ts c m =
    let n = (takes count ns ts c).value in
    ap (λ (d : Cursor). (several_taken n (λ e. takes x ns ts e) d).after) (takes_stays count ns ts c m)
    ∙ several_stays (λ d. takes x ns ts d) c (takes_stays x ns ts c m) n
takes_stays (give a) ns ts c m = refl
takes_stays (next of x g) ns ts c m =
    let v = (takes x ns ts c).value in
    ap (λ (d : Cursor). (takes (g v) ns ts d).after) (takes_stays x ns ts c m) ∙ takes_stays (g v) ns ts c m

field_stays : {A : Type 0} (x : Format A) (ns ts : List ℕ) (s : State) → s.walk.missing ≡ true → field_entered x ns ts s ≡ s
unfolding field_entered
field_stays x ns ts s m =
    let v = (takes x ns ts (cursor_of s.walk)).value in
    let y = judges x v s.walk.place in
    let l = map low (writes x v) in
    ap (λ (c : Cursor). entered y l (state (moved c s.walk) s.sheet)) (takes_stays x ns ts (cursor_of s.walk) m)
    ∙ sym (missing_entered y l s.walk s.sheet m)

again_stays : (f : State → State) (s : State) → f s ≡ s → (n : ℕ) → again n f s ≡ s
unfolding again
again_stays f s e zero = refl
again_stays f s e (suc n) = rw e (again_stays f s e n)

-- and the walk stands still
pub walked_stays : {A : Type 0} (x : Format A) (ns ts : List ℕ) (s : State) → s.walk.missing ≡ true → walked x ns ts s ≡ s
unfolding walked
walked_stays byte ns ts s m = field_stays byte ns ts s m
walked_stays word ns ts s m = field_stays word ns ts s m
walked_stays (only good fault x) ns ts s m = field_stays (only good fault x) ns ts s m
walked_stays zero_word ns ts s m = field_stays zero_word ns ts s m
walked_stays (text low high good) ns ts s m = field_stays (text low high good) ns ts s m
walked_stays (cell_text low high) ns ts s m = field_stays (cell_text low high) ns ts s m
walked_stays (listed count x) ns ts s m =
    rw (walked_stays count ns ts s m) (again_stays (λ u. walked x ns ts u) s (walked_stays x ns ts s m) (value_at count ns ts s))
walked_stays (give a) ns ts s m = refl
walked_stays (next of x g) ns ts s m =
    rw (walked_stays x ns ts s m) (walked_stays (g (value_at x ns ts s)) ns ts s m)

pub byte_stays : (good : ℕ → Bool) (n : ℕ) (ns : List ℕ) (s : State) → s.walk.missing ≡ true → byte_entered good n ns s ≡ s
unfolding byte_entered
byte_stays good n ns s m =
    let v = (number_at ns (cursor_of s.walk)).value in
    ap (λ (c : Cursor). entered (passes (good v) n s.walk.place 0) (low v ∷ []) (state (moved c s.walk) s.sheet)) (number_stays ns (cursor_of s.walk) m)
    ∙ sym (missing_entered (passes (good v) n s.walk.place 0) (low v ∷ []) s.walk s.sheet m)

-- ---- columns

module _ (ns ts : List ℕ) where
  pub width_used : (used : Bool) (s t u : State) (n most : ℕ) → used ≡ true → t ≡ byte_entered (between 0 1) 4 ns s
      → n ≡ (number_at ns (cursor_of s.walk)).value → most ≡ cond (eqb n 0) 400 65535 → u ≡ walked (word_to most) ns ts t
      → u ≡ walked (width used) ns ts s
  unfolding walked width value_at takes
  width_used used s t u n most h e f g k =
      k ∙ rw (h, g, f, e) (ap (λ v. walked (word_to (cond (eqb (number_at ns (cursor_of s.walk)).value 0) 400 65535)) ns ts v)
      (byte-walked (between 0 1) unknown_code ns ts s))

  pub width_unused : (used : Bool) (s t u : State) → used ≡ false → t ≡ byte_entered (between 0 0) 8 ns s → u ≡ walked zero_word ns ts t
      → u ≡ walked (width used) ns ts s
  unfolding walked width
  width_unused used s t u h e k = k ∙ rw (h, e) (ap (λ v. walked zero_word ns ts v) (byte-walked (between 0 0) not_zero ns ts s))

  pub constraint-walked : (s t u v : State) (k : ℕ) → t ≡ byte_entered (between 0 6) 4 ns s → k ≡ (number_at ns (cursor_of s.walk)).value
      → u ≡ walked (width (leb 3 k)) ns ts t → v ≡ walked (width (eqb k 6)) ns ts u → v ≡ constraint_walked ns ts s
  unfolding constraint_walked
  constraint-walked s t u v k e f g h =
      h ∙ rw (g, e, f, byte-walked (between 0 6) unknown_code ns ts s)

  pub column-walked : (s t u v w x : State) → t ≡ byte_entered (between 0 20) 5 ns s → u ≡ byte_entered (between 0 20) 5 ns t
      → v ≡ byte_entered printable_or_zero 6 ns u → w ≡ byte_entered (between 0 3) 4 ns v → x ≡ constraint_walked ns ts w → x ≡ walked column ns ts s
  unfolding walked column value_at takes constraint_walked
  column-walked s t u v w x e f g h k =
      let t' = e ∙ byte-walked (between 0 20) beyond_limits ns ts s in
      let u' = f ∙ byte-walked (between 0 20) beyond_limits ns ts t in
      let v' = g ∙ byte-walked printable_or_zero bad_character ns ts u in
      let w' = h ∙ byte-walked (between 0 3) unknown_code ns ts v in
      k ∙ rw (w', v', u', t')

-- ---- loops

-- none, and one more, of what is left
pub again-begin : (f : State → State) (n : ℕ) (s : State) → again (n - 0) f s ≡ again n f s
again-begin f n s = let z : n - 0 ≡ n = omega arith in rw z

pub again_more : (f : State → State) (n i : ℕ) (s : State) → i < n → again (n - i) f s ≡ again (n - (i + 1)) f (f s)
unfolding again
again_more f n i s h = let z : n - i ≡ suc (n - (i + 1)) = omega arith in rw z

pub again_done : (f : State → State) (n i : ℕ) (s : State) → n ≤ i → again (n - i) f s ≡ s
unfolding again
again_done f n i s h = let z : n - i ≡ 0 = omega arith in rw z

-- items of a format
module _ {A : Type 0} (x : Format A) (ns ts : List ℕ) where
  abbrev turn : State → State
  turn u = walked x ns ts u

  -- a count and its items
  pub counted-walked : (low high : ℕ) (s t u : State) (n : ℕ) → t ≡ byte_entered (between low high) 5 ns s
      → n ≡ (number_at ns (cursor_of s.walk)).value → u ≡ again n turn t → u ≡ walked (counted low high x) ns ts s
  unfolding walked value_at takes
  counted-walked low high s t u n e f g = g ∙ rw (f, e) (ap (λ v. again (number_at ns (cursor_of s.walk)).value turn v)
      (byte-walked (between low high) beyond_limits ns ts s))

-- a section has as many items as its count says
pub several-count : {A : Type 0} (f : Cursor → Taken A) (n : ℕ) (c : Cursor) → length (several_taken n f c).value ≡ n
unfolding several_taken
several-count f zero c = refl
several-count f (suc n) c = ap suc (several-count f n (f c).after)

-- ---- rows

module _ (ns ts : List ℕ) where
  pub cell-walked : (s t u v : State) → t ≡ byte_entered printable_or_zero 6 ns s → u ≡ byte_entered (between 0 3) 4 ns t
      → v ≡ walked (counted 1 8 line) ns ts u → v ≡ walked cell ns ts s
  unfolding walked cell_by
  cell-walked s t u v e f g =
      let t' = e ∙ byte-walked printable_or_zero bad_character ns ts s in
      let u' = f ∙ byte-walked (between 0 3) unknown_code ns ts t in
      g ∙ ap (λ x. walked (counted 1 8 line) ns ts x) (u' ∙ ap (λ x. walked (code 3) ns ts x) t')

  pub cells-walked : (columns : ℕ) (s t u : State) (n : ℕ) → t ≡ walked (cell_count columns) ns ts s → n ≡ (number_at ns (cursor_of s.walk)).value
      → u ≡ again n (λ v. walked cell ns ts v) t → u ≡ walked (listed (cell_count columns) cell) ns ts s
  unfolding walked value_at takes field_entered
  cells-walked columns s t u n e f g = g ∙ rw (f, e)

  pub row_walked : (columns : ℕ) (s t u : State) → t ≡ byte_entered (between 0 255) 5 ns s → u ≡ walked (listed (cell_count columns) cell) ns ts t
      → u ≡ walked (row columns) ns ts s
  unfolding walked row_by
  row_walked columns s t u e f =
      f ∙ ap (λ x. walked (listed (cell_count columns) cell) ns ts x) (e ∙ byte-walked (between 0 255) beyond_limits ns ts s)

  -- ---- the table

  pub head-walked : (s t u v w x y : State) → t ≡ byte_entered (between 1 1) 3 ns s → u ≡ byte_entered (between 0 2) 4 ns t
      → v ≡ walked (word_to 400) ns ts u → w ≡ byte_entered printable_or_zero 6 ns v → x ≡ walked (text 0 8 printable) ns ts w
      → y ≡ walked (text style_characters style_characters printable_or_zero) ns ts x → y ≡ head_walked ns ts s
  unfolding head_walked walked takes field_entered
  head-walked s t u v w x y e f g h i j =
      let t' = e ∙ byte-walked (between 1 1) wrong_edition ns ts s in
      let u' = f ∙ byte-walked (between 0 2) unknown_code ns ts t in
      let w' = h ∙ byte-walked printable_or_zero bad_character ns ts v in
      j ∙ ap (λ z. walked (text style_characters style_characters printable_or_zero) ns ts z) (i ∙ ap (λ z. walked (text 0 8 printable) ns ts z)
      (w' ∙ ap (λ z. walked optional ns ts z) (g ∙ ap (λ z. walked (word_to 400) ns ts z) (u' ∙ ap (λ z. walked (code 2) ns ts z) t'))))

  pub body-walked : (s t u v : State) (n : ℕ) → t ≡ walked (counted 0 most_columns column) ns ts s → n ≡ (number_at ns (cursor_of s.walk)).value
      → u ≡ walked (counted 0 1 (row n)) ns ts t → v ≡ walked (counted 0 100 (row n)) ns ts u → v ≡ body_walked ns ts s
  unfolding body_walked
  body-walked s t u v n e f g h = h ∙ rw (g, e, f)

  pub table-walked : (s t u : State) → t ≡ head_walked ns ts s → u ≡ body_walked ns ts t → u ≡ walked table ns ts s
  unfolding head_walked body_walked walked table_by value_at takes
  table-walked s t u e f =
      let h = head_walked ns ts s in
      let c = number_at ns (cursor_of h.walk) in
      let n = several-count (λ d. takes column ns ts d) c.value c.after in
      f ∙ rw (e, n)

-- ---- sections as the code walks them: equations, and what stays where something was missing

pub width_with : (ns ts : List ℕ) (used : Bool) (s : State) → used ≡ true
    → walked (width used) ns ts s ≡ walked (word_to (cond (eqb (number_at ns (cursor_of s.walk)).value 0) 400 65535)) ns ts (byte_entered (between 0 1) 4 ns s)
width_with ns ts used s e = sym (width_used ns ts used s _ _ _ _ e refl refl refl refl)

pub width_without : (ns ts : List ℕ) (used : Bool) (s : State) → used ≡ false
    → walked (width used) ns ts s ≡ walked zero_word ns ts (byte_entered (between 0 0) 8 ns s)
width_without ns ts used s e = sym (width_unused ns ts used s _ _ e refl refl)

pub constraint_steps : (ns ts : List ℕ) (s : State)
    → constraint_walked ns ts s ≡ walked (width (eqb (number_at ns (cursor_of s.walk)).value 6)) ns ts
    (walked (width (leb 3 (number_at ns (cursor_of s.walk)).value)) ns ts (byte_entered (between 0 6) 4 ns s))
constraint_steps ns ts s = sym (constraint-walked ns ts s _ _ _ _ refl refl refl refl)

pub constraint_stays : (ns ts : List ℕ) (s : State) → s.walk.missing ≡ true → constraint_walked ns ts s ≡ s
unfolding constraint_walked
constraint_stays ns ts s m =
    let k = (number_at ns (cursor_of s.walk)).value in
    rw (walked_stays (code 6) ns ts s m, walked_stays (width (leb 3 k)) ns ts s m) (walked_stays (width (eqb k 6)) ns ts s m)

pub column_steps : (ns ts : List ℕ) (s : State)
    → walked column ns ts s ≡ constraint_walked ns ts (byte_entered (between 0 3) 4 ns (byte_entered printable_or_zero 6 ns
    (byte_entered (between 0 20) 5 ns (byte_entered (between 0 20) 5 ns s))))
column_steps ns ts s = sym (column-walked ns ts s _ _ _ _ _ refl refl refl refl refl)

module _ (ns ts : List ℕ) where
  pub counted_steps : {A : Type 0} (x : Format A) (low high : ℕ) (s : State)
      → walked (counted low high x) ns ts s ≡ again (number_at ns (cursor_of s.walk)).value (λ u. walked x ns ts u) (byte_entered (between low high) 5 ns s)
  counted_steps x low high s = sym (counted-walked x ns ts low high s _ _ _ refl refl refl)

  pub items_stay : {A : Type 0} (x : Format A) (n : ℕ) (s : State) → s.walk.missing ≡ true → again n (λ u. walked x ns ts u) s ≡ s
  items_stay x n s m = again_stays (λ u. walked x ns ts u) s (walked_stays x ns ts s m) n

  pub cell_steps : (s : State) → walked cell ns ts s ≡ walked (counted 1 8 line) ns ts (byte_entered (between 0 3) 4 ns (byte_entered printable_or_zero 6 ns s))
  cell_steps s = sym (cell-walked ns ts s _ _ _ refl refl refl)

  pub cells_steps : (columns : ℕ) (s : State)
      → walked (listed (cell_count columns) cell) ns ts s
      ≡ again (number_at ns (cursor_of s.walk)).value (λ u. walked cell ns ts u) (walked (cell_count columns) ns ts s)
  cells_steps columns s = sym (cells-walked ns ts columns s _ _ _ refl refl refl)

  pub row_steps : (columns : ℕ) (s : State)
      → walked (row columns) ns ts s ≡ walked (listed (cell_count columns) cell) ns ts (byte_entered (between 0 255) 5 ns s)
  row_steps columns s = sym (row_walked ns ts columns s _ _ refl refl)

  pub head_steps : (s : State)
      → head_walked ns ts s ≡ walked (text style_characters style_characters printable_or_zero) ns ts (walked (text 0 8 printable) ns ts
      (byte_entered printable_or_zero 6 ns (walked (word_to 400) ns ts (byte_entered (between 0 2) 4 ns (byte_entered (between 1 1) 3 ns s)))))
  head_steps s = sym (head-walked ns ts s _ _ _ _ _ _ refl refl refl refl refl refl)

  pub body_steps : (s : State)
      → body_walked ns ts s ≡ walked (counted 0 100 (row (number_at ns (cursor_of s.walk)).value)) ns ts
      (walked (counted 0 1 (row (number_at ns (cursor_of s.walk)).value)) ns ts (walked (counted 0 most_columns column) ns ts s))
  body_steps s = sym (body-walked ns ts s _ _ _ _ refl refl refl refl)

  pub body_stays : (s : State) → s.walk.missing ≡ true → body_walked ns ts s ≡ s
  body_stays s m =
      let n = (number_at ns (cursor_of s.walk)).value in
      body_steps s ∙ rw (walked_stays (counted 0 most_columns column) ns ts s m, walked_stays (counted 0 1 (row n)) ns ts s m)
      (walked_stays (counted 0 100 (row n)) ns ts s m)

  pub table_steps : (s : State) → walked table ns ts s ≡ body_walked ns ts (head_walked ns ts s)
  table_steps s = sym (table-walked ns ts s _ _ refl refl)
