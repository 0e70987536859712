-- `distances::measure` meets its contract: the new pairs are passed column by column.
use Rattle.distances.specs.Area.{CellsWritten, New, stored_apart}
use Rattle.distances.proofs.Area.{Passed, by_column}
use Rattle.distances.proofs.measure.Given as goal

abbrev pub invariant-loop-j : goal.invariant-loop-j
invariant-loop-j l = CellsWritten (Passed by_column (New l.from l.to) l.j) (stored_apart l.weights l.states) l.initial.area l.area
