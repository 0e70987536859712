-- `sweep::at_centre` meets its contract: what the triplets with the lower types passed give is swept.
use Prim.Native.Nat.{◌-◌}
use Rattle.sweep.specs.Candidate.{AtCentre}
use Rattle.sweep.specs.Floors.{Passed}
use Rattle.sweep.proofs.Walk.{Walk}
use Rattle.sweep.proofs.at_centre.Given as goal

abbrev pub invariant-loop-a : goal.invariant-loop-a
invariant-loop-a l =
    Walk l.known.area.now l.n l.c 0 l.a
    × Passed l.known.weights.now l.known.states.now l.known.area.now l.size l.initial.met (AtCentre l.known.weights.now l.known.states.now l.known.area.now l.n l.initial.met.search.made l.c l.a) l.initial.mismatches l.initial.gathered l.mismatches l.gathered l.guesses l.met

abbrev pub decreases-loop-a : goal.decreases-loop-a
decreases-loop-a l = l.n - l.a
