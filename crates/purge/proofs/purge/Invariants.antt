-- `purge::purge` meets its contract: whenever links were found, memory holds a run that purges to what the run at entry purges to.
use Rattle.purge.proofs.Purging.{Purging}
use Rattle.purge.proofs.purge.Given as goal

abbrev pub invariant-loop-stay : goal.invariant-loop-stay
invariant-loop-stay l = Purging l.initial.states l.initial.area l.initial.now l.states l.area l.now l.stay

abbrev pub decreases-loop-stay : goal.decreases-loop-stay
decreases-loop-stay l = l.now.state.types
