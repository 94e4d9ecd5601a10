use Rattle.std.proofs.Common.{◌≡◌, length}
use Rattle.print.proofs.Rounds.{left, Standing}
use Rattle.print.proofs.print.Given as goal

abbrev pub invariant-loop-p : goal.invariant-loop-p
invariant-loop-p g l = Standing l.p.sheet.now l.p.info l.c × (length l.space ≡ length l.initial.space)

abbrev pub decreases-loop-p : goal.decreases-loop-p
decreases-loop-p g l = left l.p.sheet.now l.p.info l.c
