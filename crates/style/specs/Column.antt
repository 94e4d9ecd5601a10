-- Constraints by the sheet's codes, and the conversion between the two kinds of width. Assumes nothing.
use Rattle.std.specs.Prelude.{true, false, Option, Some, None, eqb}
use Rattle.rules.specs.declared.Column.{Column}
use Rattle.rules.specs.declared.Width as sheet
use Rattle.rules.specs.Widths.{content_of}
use Rattle.style.specs.declared.column.Width.{Width}
use Rattle.style.specs.declared.column.Width.TheVariants.{Fixed, Percentage}
use Rattle.style.specs.declared.column.ColumnConstraint.{ColumnConstraint}
use Rattle.style.specs.declared.column.ColumnConstraint.TheVariants as constraint
use Rattle.style.specs.declared.column.ContentWidth.{ContentWidth}
use Rattle.style.specs.declared.column.ConstraintWidth.{ConstraintWidth}

-- unit 0 is fixed, another is percent
unfoldable pub width_of : sheet.Width → Width
width_of w = elim (eqb w.unit 0) [ true ↦ Fixed w.value | false ↦ Percentage w.value ]

-- 1 `Hidden`, 2 `ContentWidth`, 3 `Absolute`, 4 `LowerBoundary`, 5 `UpperBoundary`, 6 `Boundaries`; another code is none
unfoldable pub constraint_of : Column → Option ColumnConstraint
constraint_of c =
    elim (eqb c.constraint 1) [
      | true ↦ Some constraint.Hidden
      | false ↦
          elim (eqb c.constraint 2) [
            | true ↦ Some constraint.ContentWidth
            | false ↦
                elim (eqb c.constraint 3) [
                  | true ↦ Some (constraint.Absolute (width_of c.first))
                  | false ↦
                      elim (eqb c.constraint 4) [
                        | true ↦ Some (constraint.LowerBoundary (width_of c.first))
                        | false ↦
                            elim (eqb c.constraint 5) [
                              | true ↦ Some (constraint.UpperBoundary (width_of c.first))
                              | false ↦
                                  elim (eqb c.constraint 6) [ true ↦ Some (constraint.Boundaries (width_of c.first) (width_of c.second)) | false ↦ None ]
                            ]
                      ]
                ]
          ]
    ]

-- from constraint to content
abbrev pub content : Column → ConstraintWidth → ContentWidth
content c w = record { 0 = content_of c w.0 }
