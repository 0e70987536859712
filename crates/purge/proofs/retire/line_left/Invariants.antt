-- `retire::line_left` meets its contract: the cells of the line are passed column by column.
use Rattle.distances.specs.Area.{CellsWritten, Line}
use Rattle.distances.proofs.Area.{Passed, by_column}
use Rattle.purge.specs.Left.{squeezed}
use Rattle.purge.proofs.retire.line_left.Given as goal

abbrev pub invariant-loop-b : goal.invariant-loop-b
invariant-loop-b l = CellsWritten (Passed by_column (Line l.a l.t) l.b) (squeezed l.kept l.count l.initial.area) l.initial.area l.area
