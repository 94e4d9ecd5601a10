use Rattle.parts.proofs.Bands.{border_bytes}
use Rattle.parts.proofs.part.PagePart.bytes.Goals as goal

pub returns-in-Border : goal.returns-in-Border
returns-in-Border c = rw c.in-Border.is (border_bytes _ _ _ _ (rw c.in-Border.is at c.requires.known) (rw c.in-Border.is at c.requires.counted))
