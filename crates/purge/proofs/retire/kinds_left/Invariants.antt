-- `retire::kinds_left` meets its contract: so many kinds are stored.
use Rattle.purge.specs.Left.{KindsLeft}
use Rattle.purge.proofs.retire.kinds_left.Given as goal

abbrev pub invariant-loop-a : goal.invariant-loop-a
invariant-loop-a l = KindsLeft l.kinds l.kept l.a l.left
