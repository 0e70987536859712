-- `spans::find` meets its contract: of the types passed the last one that fits is found.
use Rattle.spans.specs.Growth.{NearestFound}
use Rattle.spans.proofs.find.Given as goal

abbrev pub invariant-loop-u : goal.invariant-loop-u
invariant-loop-u l = NearestFound l.u l.near l.inside l.x l.found
