-- `medians::median` meets its contract: after c characters the first c states stand in the row.
use native.Mathlib.Omega.{arith}
use Rattle.medians.proofs.Taken.{all-taken}
use Rattle.medians.proofs.median.Goals as goal

pub returns : goal.returns
returns c = all-taken _ _ _ _ c.loop-c.c _ c.requires.0 (omega arith) c.loop-c.invariant
