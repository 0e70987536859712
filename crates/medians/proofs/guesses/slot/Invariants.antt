-- `guesses::slot` meets its contract: after c bytes the sum is that of the first c.
use Rattle.medians.proofs.guesses.Mixed.{Mixed}
use Rattle.medians.proofs.guesses.slot.Given as goal

abbrev pub invariant-loop-c : goal.invariant-loop-c
invariant-loop-c l = Mixed l.row l.c l.sum
