-- `sweep::sweep` meets its contract: what is met at the types passed is swept, and each floor found anew is one.
use Rattle.medians.specs.Swept.{Swept}
use Rattle.sweep.specs.Candidate.{Candidate, Everywhere, TablesKept}
use Rattle.sweep.specs.Floors.{Floors}
use Rattle.sweep.proofs.sweep.Given as goal

abbrev pub invariant-loop-c : goal.invariant-loop-c
invariant-loop-c l =
    TablesKept l.known.states.now l.size.width l.initial.search.made l.initial.mismatches l.mismatches l.guesses
    × Swept (Everywhere l.known.weights.now l.known.states.now l.known.area.now l.size.types l.initial.search.made l.c) (Candidate l.known.weights.now l.known.states.now l.known.area.now l.size.types l.initial.search.made) l.initial.gathered l.initial.search l.gathered l.search
    × Floors l.known.weights.now l.known.states.now l.known.area.now l.size.types l.initial.search.made l.floors
