-- `links::mark` meets its contract: the mirror cells are passed line by line. Each is read before it is written.
use Rattle.distances.specs.Area.{CellsWritten}
use Rattle.distances.proofs.Area.{Passed, by_line}
use Rattle.spans.specs.Tree.{Mirror}
use Rattle.links.specs.Marks.{mark}
use Rattle.links.proofs.mark.Given as goal

abbrev pub invariant-loop-j : goal.invariant-loop-j
invariant-loop-j l = CellsWritten (Passed by_line (Mirror l.n) l.j) (mark l.epsilon l.spans l.initial.area) l.initial.area l.area
