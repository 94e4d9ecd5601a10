-- A page written part after part: each part leaves less. Assumes nothing.
use Prim.Native.Nat.{ℕ, ◌+◌, ◌≤◌, ◌<◌}
use mathlib.Core.Path.{◌≡◌, refl, ap, ◌∙◌}
use mathlib.Core.List.{List, [], ◌∷◌}
use mathlib.Core.Bool.{Bool, true, false}
use native.Mathlib.Omega.{arith}
use lib.ListN.{length, drop, length-drop}
use lib.Seq.{drop-drop}
use Rattle.rules.specs.Text.{All}
use Rattle.rules.specs.Page.{whole_lines}
use Rattle.laws.proofs.Counts.{framed-line-bound}
use Rattle.laws.proofs.Fitting.{fitting_more, fitted}
use Rattle.laws.proofs.Lists.{all_drop}
use Rattle.table.specs.Held.{table_of}
use Rattle.table.specs.Walk.{rows_in}
use Rattle.display_info.specs.Opened.{Opened}
use Rattle.parts.specs.Ahead.{is_end, At, ahead, lines_of, first_cursor}
use Rattle.rules.specs.Limits.{longest_line, most_lines}
use Rattle.lines.specs.Walk.{WroteIs}
use Rattle.display_info.specs.declared.DisplayInfo.{DisplayInfo}
use Rattle.parts.specs.declared.cursor.Cursor.{Cursor}
use Rattle.lines.specs.declared.Written.{Written}
use Rattle.display_info.proofs.Opening.{limits_of}
use Rattle.parts.proofs.Parts.{first-at, first-ahead, end-ahead}
use Rattle.parts.proofs.Bands.{total-lines}

-- what is still to be written: the lines before the cursor, and one round more before its end is seen
abbrev one_more : Bool → ℕ
one_more true = 0
one_more false = 1

unfoldable pub left : List ℕ → DisplayInfo → Cursor → ℕ
left s p c = length (ahead s p c) + one_more (is_end c.stage)

-- the cursor stands before the page's lines from one on
pub record Standing (s : List ℕ) (p : DisplayInfo) (c : Cursor) : Type 0 where
  pub at : At s p c
  pub passed : ℕ
  pub lines : ahead s p c ≡ drop passed (lines_of s p)

pub standing-first : (s : List ℕ) (p : DisplayInfo) → Opened s p → (c : Cursor) → c ≡ first_cursor p.rows → Standing s p c
standing-first s p O c e = rw e (record { at = first-at s p O; passed = 0; lines = first-ahead s p O })

pub standing_few : (s : List ℕ) (p : DisplayInfo) → Opened s p → (c : Cursor) → Standing s p c → length (ahead s p c) ≤ most_lines
standing_few s p O c S = omega (arith, ap length S.lines, length-drop S.passed (lines_of s p), total-lines s p O)

module _ (s : List ℕ) (p : DisplayInfo) (O : Opened s p) (c : Cursor) (S : Standing s p c) (b a : List ℕ) (r : Written)
    (W : WroteIs s p c b a r) where
  pub round_bytes : r.bytes ≤ length b
  round_bytes = omega (arith, W.bytes, fitted (length b) (ahead s p c))

  pub round-on : Standing s p r.next
  round-on = record {
    at = W.at;
    passed = S.passed + r.lines;
    lines = W.next ∙ ap (drop r.lines) S.lines ∙ drop-drop r.lines S.passed
        (lines_of s p);
  }

  -- the space holds any line, so that a part that leaves some has some
  some : longest_line + 1 ≤ length b → 0 < length (ahead s p c) → 0 < length (whole_lines (length b) (ahead s p c))
  unfolding lines_of
  some h k = go (ahead s p c) k (rw S.lines (all_drop (λ l. length l ≤ longest_line) S.passed (lines_of s p)
      (framed-line-bound (table_of s) (limits_of s O.passes) (rows_in s p.rows) O.rows_at.sound)))
    where
      go : (ls : List (List ℕ)) → 0 < length ls → All (λ l. length l ≤ longest_line) ls → 0 < length (whole_lines (length b) ls)
      go [] f g = absurd (omega arith)
      go (l ∷ ls) f g = rw (fitting_more (length b) l ls (omega (arith, g.0))) (omega arith)

  pub round_less : is_end c.stage ≡ false → longest_line + 1 ≤ length b → left s p r.next < left s p c
  unfolding left
  round_less e h = rw e (go (is_end r.next.stage) refl)
    where
      go : (x : Bool) → is_end r.next.stage ≡ x → length (ahead s p r.next) + one_more x < length (ahead s p c) + 1
      go true f = omega (arith, ap length (end-ahead s p r.next f))
      go false f =
          let l = W.left f in
          omega (arith, some h (omega arith), W.lines, ap length W.next, length-drop r.lines (ahead s p c))
