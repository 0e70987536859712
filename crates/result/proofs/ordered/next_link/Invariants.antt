-- `ordered::next_link` meets its contract: as many links stand before the pair i, j as before the pair that follows the last link, so i, j is the next.
use Prim.Native.Nat.{◌-◌, ◌<◌}
use Rattle.result.specs.Lines.{links_before, Reached}
use Rattle.result.proofs.ordered.next_link.Given as goal

abbrev pub invariant-loop-j : goal.invariant-loop-j
invariant-loop-j l = (l.i < l.t) × Reached l.area l.t (links_before l.area l.t l.initial.i l.initial.j) l.i l.j

abbrev pub decreases-loop-j : goal.decreases-loop-j
decreases-loop-j l = l.t - l.i
