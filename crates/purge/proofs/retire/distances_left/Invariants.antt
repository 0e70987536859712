-- `retire::distances_left` meets its contract: the cells are passed line by line.
use Rattle.distances.specs.Area.{CellsWritten}
use Rattle.distances.proofs.Area.{Passed, by_line}
use Rattle.purge.specs.Left.{Among, squeezed}
use Rattle.purge.proofs.retire.distances_left.Given as goal

abbrev pub invariant-loop-a : goal.invariant-loop-a
invariant-loop-a l = CellsWritten (Passed by_line (Among l.t) l.a) (squeezed l.kept l.count l.initial.area) l.initial.area l.area
