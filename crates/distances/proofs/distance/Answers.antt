-- `distances::distance` meets its contract: after c characters the sum is that of the first c.
use native.Mathlib.Omega.{arith}
use Rattle.distances.proofs.Summed.{none_summed, all_summed, one_more}
use Rattle.distances.proofs.distance.Goals as goal

pub loop-c-init : goal.loop-c-init
loop-c-init c = none_summed _ _ _ _

pub loop-c-preserved : goal.loop-c-preserved
loop-c-preserved c = rw c.counted-sum.ensures (one_more _ _ _ _ (omega arith) c.loop-c.invariant c.requires.0)

pub returns : goal.returns
returns c = all_summed _ _ _ _ c.requires.0 (omega arith) c.loop-c.invariant
