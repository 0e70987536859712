-- `triplets::follow_below` meets its contract: the line is filled from place i on.
use Rattle.triplets.proofs.Filling.{Filling}
use Rattle.triplets.proofs.follow_below.Given as goal

abbrev pub invariant-loop-i : goal.invariant-loop-i
invariant-loop-i l = Filling l.area l.n l.c l.i l.follower l.fn.next l.next
