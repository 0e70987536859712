-- `distances::distance` meets its contract: after c characters the sum is that of the first c.
use Rattle.distances.proofs.Summed.{Summed}
use Rattle.distances.proofs.distance.Given as goal

abbrev pub invariant-loop-c : goal.invariant-loop-c
invariant-loop-c l = Summed l.weights l.states l.i l.j l.c l.sum
