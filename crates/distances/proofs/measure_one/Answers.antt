-- `distances::measure_one` meets its contract: the cells of type j are passed line by line.
use native.Mathlib.Omega.{arith}
use Rattle.distances.proofs.Area.{cell-passed, all-passed}
use Rattle.distances.proofs.measure_one.Goals as goal

pub loop-i-preserved : goal.loop-i-preserved
loop-i-preserved c = cell-passed c.loop-i.invariant (omega arith) (omega arith) c.distance.ensures

pub returns : goal.returns
returns c = all-passed c.loop-i.invariant (omega arith)
