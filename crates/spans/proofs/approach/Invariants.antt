-- `spans::approach` meets its contract: the types passed are as near as v or the tree, and the least of those outside is known.
use Prim.Native.Nat.{max}
use lib.ListN.{get_or}
use Rattle.spans.specs.Growth.{nearer, Filled, Least}
use Rattle.spans.proofs.approach.Given as goal

abbrev pub invariant-loop-u : goal.invariant-loop-u
invariant-loop-u l =
    Filled l.u (nearer l.v l.area l.initial.near) l.initial.near l.near
    × Least l.u (λ x. max (nearer l.v l.area l.initial.near x) (get_or l.inside x 0)) l.least
