use Rattle.content_split.proofs.Back.{ends-before, ends_exact, ends_at}
use Rattle.content_split.proofs.SplitText.at_width.Goals as goal

pub returns-then-text-stop : goal.returns-then-text-stop
returns-then-text-stop c = ends-before _ _ _ c.requires.0 c.requires.1 c.if-text-stop.true

pub returns-then-text-stop-2 : goal.returns-then-text-stop-2
returns-then-text-stop-2 c = ends_exact _ _ _ c.requires.0 c.requires.1 c.if-text-stop.false c.if-text-stop-2.true

pub returns-then-text-stop-3 : goal.returns-then-text-stop-3
returns-then-text-stop-3 c = ends_at _ _ _ c.requires.0 c.requires.1 c.if-text-stop.false c.if-text-stop-2.false c.if-text-stop-3.true
