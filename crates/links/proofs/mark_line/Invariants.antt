-- `links::mark_line` meets its contract: the cells of the line are passed column by column. Each is read before it is written.
use Rattle.distances.specs.Area.{CellsWritten, Line}
use Rattle.distances.proofs.Area.{Passed, by_column}
use Rattle.links.specs.Marks.{mark}
use Rattle.links.proofs.mark_line.Given as goal

abbrev pub invariant-loop-i : goal.invariant-loop-i
invariant-loop-i l = CellsWritten (Passed by_column (Line l.j l.j) l.i) (mark l.epsilon l.spans l.initial.area) l.initial.area l.area
