-- `spans::grow_tree` meets its contract: the nearest type outside joins until all are in the tree.
use Rattle.spans.proofs.TreeGrown.{Growing}
use Rattle.spans.proofs.grow_tree.Given as goal

abbrev pub invariant-loop-size : goal.invariant-loop-size
invariant-loop-size l = Growing l.n l.size l.v l.step l.area l.spans l.order l.steps l.near l.inside l.reach
