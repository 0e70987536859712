-- `triplets::follow_above` meets its contract: the line is filled from place i on.
use Prim.Native.Nat.{◌+◌, ◌≤◌}
use Rattle.triplets.proofs.Filling.{Filling}
use Rattle.triplets.proofs.follow_above.Given as goal

abbrev pub invariant-loop-i : goal.invariant-loop-i
invariant-loop-i l = (l.c + 1 ≤ l.i) × Filling l.area l.n l.c l.i l.follower l.initial.next l.next
