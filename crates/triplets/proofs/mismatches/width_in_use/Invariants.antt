-- `mismatches::width_in_use` meets its contract: from character c on no row made holds a state.
use Rattle.triplets.specs.Mismatches.{Narrow}
use Rattle.triplets.proofs.mismatches.width_in_use.Given as goal

abbrev pub invariant-loop-c : goal.invariant-loop-c
invariant-loop-c l = Narrow l.states l.made l.c
