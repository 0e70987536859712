-- `links::link_count` meets its contract: the marks of the types passed are counted, before type i and behind it.
use Rattle.links.proofs.Marks.{Counted}
use Rattle.links.proofs.link_count.Given as goal

abbrev pub invariant-loop-j : goal.invariant-loop-j
invariant-loop-j l = Counted l.area l.i l.n l.j l.links
