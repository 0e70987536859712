-- `spans::mirror` meets its contract: the mirror cells are passed line by line.
use Rattle.distances.specs.Area.{CellsWritten}
use Rattle.distances.proofs.Area.{Passed, by_line}
use Rattle.spans.specs.Tree.{Mirror, opposite}
use Rattle.spans.proofs.mirror.Given as goal

abbrev pub invariant-loop-j : goal.invariant-loop-j
invariant-loop-j l = CellsWritten (Passed by_line (Mirror l.n) l.j) (opposite l.initial.area) l.initial.area l.area
