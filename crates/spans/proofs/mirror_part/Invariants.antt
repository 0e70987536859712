-- `spans::mirror_part` meets its contract: the cells are passed column by column. What stands opposite is in no line of theirs.
use Rattle.distances.specs.Area.{CellsWritten}
use Rattle.distances.proofs.Area.{Passed, by_column}
use Rattle.spans.specs.Tree.{opposite}
use Rattle.spans.specs.Growth.{LinePart}
use Rattle.spans.proofs.mirror_part.Given as goal

abbrev pub invariant-loop-i : goal.invariant-loop-i
invariant-loop-i l = CellsWritten (Passed by_column (LinePart l.j l.from l.to) l.i) (opposite l.initial.area) l.initial.area l.area
