-- Lines written over a buffer's start, as many as it has room for. Assumes nothing.
use Rattle.std.specs.Prelude.{ℕ, ◌≡◌, List, length, leb}
use Rattle.rules.specs.Page.{closed, whole_lines}
use Rattle.buffer.specs.Put.{over}
use Rattle.formatting.specs.declared.content_format.Part.{Part}

-- of the lines ls as many as fit are written over b, which is then a; r counts them and their bytes, and says whether they are all of ls
pub record PartIs (ls : List (List ℕ)) (b a : List ℕ) (r : Part) : Type 0 where
  pub lines : r.lines ≡ length (whole_lines (length b) ls)
  pub bytes : r.bytes ≡ length (closed (whole_lines (length b) ls))
  pub page : a ≡ over (closed (whole_lines (length b) ls)) b
  pub whole : r.whole ≡ leb (length ls) r.lines
