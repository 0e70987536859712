-- `sample::collapse` meets its contract: after k rows memory holds their types.
use Rattle.types.proofs.sample.Entering.{Holds}
use Rattle.types.proofs.sample.collapse.Given as goal

abbrev pub invariant-loop-k : goal.invariant-loop-k
invariant-loop-k l = Holds l.job l.initial.states l.states l.kinds l.types l.k
