-- `medians::median` meets its contract: after c characters the first c states stand in the row.
use Rattle.medians.proofs.Taken.{Taken}
use Rattle.medians.proofs.median.Given as goal

abbrev pub invariant-loop-c : goal.invariant-loop-c
invariant-loop-c l = Taken l.states l.x l.y l.z l.c l.row
