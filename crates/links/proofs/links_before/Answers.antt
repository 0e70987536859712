-- `links::links_before` meets its contract: the marks of the types passed are counted.
use native.Mathlib.Omega.{arith}
use Rattle.links.proofs.Marks.{counted_none, counted-more}
use Rattle.links.proofs.links_before.Goals as goal

pub loop-j-init : goal.loop-j-init
loop-j-init c = counted_none

pub loop-j-preserved : goal.loop-j-preserved
loop-j-preserved c = counted-more _ c.loop-j.invariant (omega arith) c.from-links.ensures
