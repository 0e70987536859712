-- `links::links_before` meets its contract: the marks of the types passed are counted.
use Rattle.links.proofs.Marks.{Counted}
use Rattle.links.proofs.links_before.Given as goal

abbrev pub invariant-loop-j : goal.invariant-loop-j
invariant-loop-j l = Counted l.area l.i l.n l.j l.links
