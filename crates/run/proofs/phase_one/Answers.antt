-- `run::phase_one` meets its contract: turn after turn, each of which makes a type that was never made, until there is no candidate.
use Rattle.run.proofs.Turning.{going_next, going_over, going_crowded}
use Rattle.run.proofs.phase_one.Goals as goal

pub returns-in_err-next : goal.returns-in_err-next
returns-in_err-next c =
    going_crowded c.loop-next.invariant c.purge.ensures c.from_residual.result c.from_residual.ensures.0 c.in_err-next.ensures

pub loop-next-preserved : goal.loop-next-preserved
loop-next-preserved c = going_next c.loop-next.invariant c.purge.ensures (rw c.in-Some.is at c.in_ok-next.ensures)

pub returns-in-None : goal.returns-in-None
returns-in-None c = going_over c.loop-next.invariant c.purge.ensures (rw c.in-None.is at c.in_ok-next.ensures)
