-- The longest of a page's lines, from the borders that are visible and the lines that there are. Assumes nothing.
use Prim.Native.Nat.{ℕ}
use mathlib.Core.Path.{◌≡◌, sym, ap, ◌∙◌}
use mathlib.Core.List.{List}
use mathlib.Core.Bool.{true, false}
use native.Mathlib.Omega.{arith}
use Rattle.std.specs.Prelude.{is_some}
use Rattle.rules.specs.Text.{All}
use Rattle.rules.specs.Limits.{Optional}
use Rattle.rules.specs.Style.{top_border, bottom_border, is_visible}
use Rattle.laws.proofs.Printed.{longest_top, longest_bottom, longest-line, longest-none}
use Rattle.table.specs.Held.{table_of}
use Rattle.table.specs.Walk.{rows_in}
use Rattle.display_info.specs.declared.LineStyles.{LineStyles}
use Rattle.display_info.specs.declared.DisplayInfo.{DisplayInfo}
use Rattle.display_info.specs.Opened.{Opened, widths_in, styles_of}
use Rattle.display_info.proofs.Opening.{limits_of}
use Rattle.display_info.proofs.Measures.{some-drawn}
use Rattle.parts.specs.Ahead.{is_end, lines_of}
use Rattle.lines.specs.declared.Sought.{Sought}
use Rattle.lines.specs.Walk.{SoughtIs, LongestIs}
use Rattle.lines.proofs.Walks.{all_passed, before}

module _ (s : List ℕ) (p : DisplayInfo) (O : Opened s p) where
  optional : All Optional (table_of s).style
  optional = (limits_of s O.passes).style_characters_fit

  top_as : is_some p.styles.top ≡ is_visible (table_of s).style top_border
  unfolding styles_of
  top_as = ap (λ (x : LineStyles). is_some x.top) O.styles ∙ some-drawn _ _

  bottom_as : is_some p.styles.bottom ≡ is_visible (table_of s).style bottom_border
  unfolding styles_of
  bottom_as = ap (λ (x : LineStyles). is_some x.bottom) O.styles ∙ some-drawn _ _

  pub by_top : is_some p.styles.top ≡ true → LongestIs s p p.lengths.border
  unfolding lines_of
  by_top e =
      record {
        longest = O.lengths.border ∙ sym (longest_top (table_of s) optional (widths_in s) (rows_in s p.rows) (sym top_as ∙ e));
        small = O.lengths.border_small;
      }

  pub by_bottom : is_some p.styles.bottom ≡ true → LongestIs s p p.lengths.border
  unfolding lines_of
  by_bottom e =
      record {
        longest = O.lengths.border ∙ sym (longest_bottom (table_of s) optional (widths_in s) (rows_in s p.rows) (sym bottom_as ∙ e));
        small = O.lengths.border_small;
      }

  -- line 0 sought: the end is reached exactly if there is none
  module _ (r : Sought) (S : SoughtIs s p 0 r) where
    pub no_lines : is_end r.cursor.stage ≡ true → LongestIs s p 0
    unfolding lines_of
    no_lines e = record {
      longest = sym (longest-none (table_of s) optional (widths_in s) (rows_in s p.rows) (omega (arith, S.within, all_passed s p 0 r S e)));
      small = omega arith;
    }

    pub by_line : is_some p.styles.top ≡ false → is_some p.styles.bottom ≡ false → is_end r.cursor.stage ≡ false → LongestIs s p p.lengths.line
    unfolding lines_of
    by_line a b e = record {
      longest = O.lengths.line ∙ sym (longest-line (table_of s) optional (widths_in s) (rows_in s p.rows) (sym top_as ∙ a) (sym bottom_as ∙ b) (omega (arith, before s p 0 r S e)));
      small = O.lengths.line_small;
    }
