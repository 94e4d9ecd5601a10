-- A style record as the sheet's 22 characters. Assumes nothing.
use Rattle.std.specs.Prelude.{ℕ, List, [], ◌∷◌, ◌++◌}
use Rattle.style.specs.declared.table_style.LineStyle.{LineStyle}
use Rattle.style.specs.declared.table_style.ContentLineStyle.{ContentLineStyle}
use Rattle.style.specs.declared.table_style.TableStyle.{TableStyle}

-- left, fill, junction, right
abbrev pub line_bytes : LineStyle → List ℕ
line_bytes l = l.left ∷ l.fill ∷ l.junction ∷ l.right ∷ []

abbrev pub content_bytes : ContentLineStyle → List ℕ
content_bytes l = l.left ∷ l.junction ∷ l.right ∷ []

-- the fields in source order
abbrev pub bytes_of : TableStyle → List ℕ
bytes_of s =
    line_bytes s.top_border ++ (content_bytes s.header_lines ++ (line_bytes s.header_separator
    ++ (content_bytes s.content_lines ++ (line_bytes s.row_separator ++ line_bytes s.bottom_border))))
