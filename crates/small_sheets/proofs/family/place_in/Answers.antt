use mathlib.Core.Path.{refl}
use Rattle.small_sheets.proofs.Numbers.{place_is}
use Rattle.small_sheets.proofs.family.place_in.Goals as goal

pub returns : goal.returns
returns c = place_is _ _ _ c.requires.rows_counted c.requires.rows_nonzero.0 c.requires.m_bound _ refl refl refl
