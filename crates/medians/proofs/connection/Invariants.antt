-- `medians::connection` meets its contract: after c characters the cost is that of the first c.
use Rattle.medians.proofs.Costed.{Costed}
use Rattle.medians.proofs.connection.Given as goal

abbrev pub invariant-loop-c : goal.invariant-loop-c
invariant-loop-c l = Costed l.weights l.states l.u l.v l.w l.c l.cost
