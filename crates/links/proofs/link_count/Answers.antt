-- `links::link_count` meets its contract: the marks of the types passed are counted, before type i and behind it.
use native.Mathlib.Omega.{arith}
use Rattle.links.proofs.Marks.{counted-at, counted-more, counted_self}
use Rattle.links.proofs.link_count.Goals as goal

pub loop-j-init : goal.loop-j-init
loop-j-init c = counted_self (counted-at (rw c.min.ensures at c.links_before-links.ensures))

pub loop-j-preserved : goal.loop-j-preserved
loop-j-preserved c = counted-more _ c.loop-j.invariant (omega arith) c.from-links.ensures
