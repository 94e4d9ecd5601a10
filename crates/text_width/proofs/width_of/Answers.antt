use Rattle.text_width.proofs.Measure.{byte-first, byte-second}
use native.Mathlib.Omega.{arith}
use mathlib.Core.Path.{sym}
use Rattle.text_width.proofs.width_of.Goals as goal

pub returns-then-b-eq176 : goal.returns-then-b-eq176
returns-then-b-eq176 c = (sym (byte-second _ c.if-b-eq176.true), omega arith)

pub returns : goal.returns
returns c = (sym (byte-first _ c.if-b-eq176.false), omega arith)
