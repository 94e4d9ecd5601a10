-- Every definition by which a sheet and a page are computed, behind one name: what is shown by computing unfolds it. Assumes nothing.
use Rattle.rules.specs.Text.{greatest, sum, up_from, keep, flat, characters_in, text_width, bytes_of, first_of, rest_of}
use Rattle.rules.specs.Field.{onward, byte, word, only, zero_word, several, ended}
use Rattle.rules.specs.Description.{characters, reads, writes}
use Rattle.rules.specs.Format.{width, column, line, cell_by, row_by, table_by, sheet_by, written}
use Rattle.rules.specs.Style.{borders_of}
use Rattle.rules.specs.Wrap.{onto, pieces, glue, room, tight, full, act, last, place, weight, split, wrap_line, wrap_lines, exceeds, shown_indicator, cut_line, cut}
use Rattle.rules.specs.Widths.{cells_of, cell_longest, longest, numbers, visible, borders, percent_of, width_of, value_of, lower_width, upper_width}
use Rattle.rules.specs.Widths.{absolute_width, lower, upper, absolute, covering, evaluate, noted, first, below_longest, untargeted, zeros, taken, start, fix}
use Rattle.rules.specs.Widths.{fix_at, visit, pass, run, above_average, within_average, at_upper, fitting_average, trial_parts, cell_parts, longest_part}
use Rattle.rules.specs.Widths.{shorter_by3, split_at_average, run1, run2, run3, step1, step2, step3, share, shared, widened, step4, contents}
use Rattle.rules.specs.Page.{area, visible_widths, wrapped, cell_lines, height, area_at, areas, joined_more, joined, line_of, ruled, text_line}
use Rattle.rules.specs.Page.{shown, headed, ruled_more, ruled_rows, row_text, framed, page_lines, closed, page, line_at, line_count, byte_count}
use Rattle.rules.specs.Reasons.{step_number, untargeted_step, fitted_step, targeted_step, step_of, is_widened, longest_printed, difference, reasons_of, reasons}
use Rattle.rules.specs.Calls.{as_array, count_of, count, put_or, print_of, print_page, print_line_of, print_line}

unfoldable texts : Unit {0}
unfolding greatest sum up_from keep flat characters_in text_width bytes_of first_of rest_of
texts = tt

unfoldable reading : Unit {0}
unfolding onward byte word only zero_word several characters reads writes ended width column line cell_by row_by table_by sheet_by written
reading = tt

unfoldable wrapping : Unit {0}
unfolding onto pieces glue room tight full act last place weight split wrap_line wrap_lines exceeds shown_indicator cut_line cut borders_of
wrapping = tt

unfoldable constraining : Unit {0}
unfolding cells_of cell_longest longest numbers visible borders percent_of width_of value_of lower_width upper_width absolute_width lower upper absolute covering
constraining = tt

unfoldable passing : Unit {0}
unfolding evaluate noted first below_longest untargeted zeros taken start fix fix_at visit pass run above_average within_average at_upper fitting_average
passing = tt

unfoldable stepping : Unit {0}
unfolding trial_parts cell_parts longest_part shorter_by3 split_at_average run1 run2 run3 step1 step2 step3 share shared widened step4 contents
stepping = tt

unfoldable drawing : Unit {0}
unfolding area visible_widths wrapped cell_lines height area_at areas joined_more joined line_of ruled text_line shown headed ruled_more ruled_rows row_text
drawing = tt

unfoldable framing : Unit {0}
unfolding framed page_lines closed page line_at line_count byte_count
framing = tt

unfoldable calls : Unit {0}
unfolding count_of count put_or print_of print_page print_line_of print_line
calls = tt

unfoldable reporting : Unit {0}
unfolding as_array step_number untargeted_step fitted_step targeted_step step_of is_widened longest_printed difference reasons_of reasons
reporting = tt

unfoldable pub rules : Unit {0}
unfolding texts reading wrapping constraining passing stepping drawing framing calls reporting
rules = tt
