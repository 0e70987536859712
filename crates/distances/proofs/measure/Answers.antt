-- `distances::measure` meets its contract: the new pairs are passed column by column.
use native.Mathlib.Omega.{arith}
use mathlib.Core.Path.{refl}
use Rattle.distances.proofs.Area.{part-passed, all-passed}
use Rattle.distances.proofs.measure.Goals as goal

pub loop-j-preserved : goal.loop-j-preserved
loop-j-preserved c = part-passed c.loop-j.invariant (omega arith) c.measure_one.ensures (λ a b t. refl)

pub returns : goal.returns
returns c = all-passed c.loop-j.invariant (omega arith)
