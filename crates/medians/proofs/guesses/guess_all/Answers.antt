-- `guesses::guess_all` meets its contract: after i rows, the guesses are those of the first i.
use Rattle.medians.proofs.guesses.Guesses.{guesses_none, guesses_more}
use Rattle.medians.proofs.guesses.guess_all.Goals as goal

pub loop-i-init : goal.loop-i-init
loop-i-init c = guesses_none _

pub loop-i-preserved : goal.loop-i-preserved
loop-i-preserved c = rw (c.slot.ensures.0, c.row_at-row.ensures, c.loop-i.invariant) (guesses_more _ c.loop-i.i)
