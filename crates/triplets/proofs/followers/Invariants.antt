-- `triplets::followers` meets its contract: the lines of the types passed are filled.
use Rattle.triplets.proofs.Filling.{Lines}
use Rattle.triplets.proofs.followers.Given as goal

abbrev pub invariant-loop-c : goal.invariant-loop-c
invariant-loop-c l = Lines l.area l.n l.c l.next
