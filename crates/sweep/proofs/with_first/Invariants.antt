-- `sweep::with_first` meets its contract: what the triplets with the types passed give is swept. Each next type's triplet is met
-- elsewhere, cannot matter, is settled, or is visited.
use Prim.Native.Nat.{◌+◌, ◌-◌}
use Rattle.sweep.specs.Floors.{met, Passed}
use Rattle.sweep.specs.Candidate.{WithFirst}
use Rattle.sweep.proofs.Walk.{Walk}
use Rattle.sweep.proofs.with_first.Given as goal

abbrev pub invariant-loop-b : goal.invariant-loop-b
invariant-loop-b l =
    Walk l.area l.n l.c (l.a + 1) l.b
    × Passed l.weights l.states l.area (record { width = l.m; types = l.n }) (met l.initial.now l.initial.low) (WithFirst l.weights l.states l.area l.n l.initial.now.made l.c l.a l.b) l.initial.mismatches l.initial.gathered l.mismatches l.gathered l.guesses (met l.now l.low)

abbrev pub decreases-loop-b : goal.decreases-loop-b
decreases-loop-b l = l.n - l.b
