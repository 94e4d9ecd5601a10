use borrow.Author.Rules.{rules}
use native.Mathlib.Omega.{arith}
use Rattle.text_width.proofs.Measure.{reached-all}
use Rattle.content_split.proofs.Steps.{none}
use Rattle.content_split.proofs.Back.{start_sound, ends_few, ends-lacking, width_reached, from_start}
use Rattle.content_split.proofs.split_line.Goals as goal

pub returns-then-bytes-start : goal.returns-then-bytes-start
returns-then-bytes-start g c = search (rules, none)

pub returns-then-bytes-start-2 : goal.returns-then-bytes-start-2
returns-then-bytes-start-2 g c = ends_few _ _ c.requires.1.0 _ c.requires.1.1.0 c.line_start-start.ensures (omega arith) c.if-bytes-start-2.true

pub returns-then-place-gt0 : goal.returns-then-place-gt0
returns-then-place-gt0 g c = ends-lacking _ _ c.requires.1.0 _ c.requires.1.1.0 c.line_start-start.ensures (omega arith) c.reach-place.ensures c.if-place-gt0.true

pub at_width-requires : goal.at_width-requires
at_width-requires g c = search (rules, width_reached, start_sound, reached-all)

pub returns : goal.returns
returns g c = from_start _ _ c.requires.1.0 _ c.line_start-start.ensures c.at_width.ensures
