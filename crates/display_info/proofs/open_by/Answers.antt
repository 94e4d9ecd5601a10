use mathlib.Core.Path.{ap, ◌∙◌}
use Rattle.display_info.specs.Opened.{styles_of}
use Rattle.display_info.proofs.Measures.{lengths_are}
use Rattle.display_info.proofs.Opening.{limits_of, header_at, header_one, rows_at, rows_few, body_edges}
use Rattle.display_info.proofs.open_by.Goals as goal

pub invariant_of-result : goal.invariant_of-result
invariant_of-result c =
    let passes = c.args.sheet.now.accepted in
    let v = c.show_columns.ensures in
    let y = c.styles-styles.ensures ∙ ap styles_of c.style.ensures in
    let h = c.header-header.ensures in
    let r = c.rows-rows.ensures in
    record {
      opened = record {
        passes = passes;
        views = v.0;
        rising = v.1.0;
        usable = v.1.1.0;
        plain = c.requires.plain_table;
        narrow = v.1.1.1;
        styles = y;
        lengths = rw (c.measure-lengths.ensures, c.as_slice.ensures.value) (lengths_are _ _ _ _ (limits_of _ passes) v.0 (body_edges _ _ y));
        header = h.0;
        header_at = header_at _ passes _ h.0 h.1;
        header_one = header_one _ passes _ h.0;
        rows_at = rows_at _ passes _ r.0 r.1;
        rows_few = rows_few _ passes _ r.0;
      };
    }
