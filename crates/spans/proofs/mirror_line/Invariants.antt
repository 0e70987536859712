-- `spans::mirror_line` meets its contract: the line is passed part by part.
use Prim.Native.Nat.{◌*◌}
use Rattle.distances.specs.Area.{CellsWritten, Line}
use Rattle.distances.proofs.Area.{Passed, by_column}
use Rattle.spans.specs.Tree.{opposite}
use Rattle.spans.proofs.mirror_line.Given as goal

abbrev pub invariant-loop-k : goal.invariant-loop-k
invariant-loop-k l = CellsWritten (Passed by_column (Line l.j l.j) (8 * l.k)) (opposite l.initial.area) l.initial.area l.area
