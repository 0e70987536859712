-- `distances::measure_one` meets its contract: the cells of type j are passed line by line.
use Prim.Native.Nat.{◌+◌}
use Rattle.distances.specs.Area.{CellsWritten, New, stored_apart}
use Rattle.distances.proofs.Area.{Passed, by_line}
use Rattle.distances.proofs.measure_one.Given as goal

abbrev pub invariant-loop-i : goal.invariant-loop-i
invariant-loop-i l = CellsWritten (Passed by_line (New l.j (l.j + 1)) l.i) (stored_apart l.weights l.states) l.initial.area l.area
