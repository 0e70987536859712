-- `spans::step_line` meets its contract: the types passed are reached, and their cells are written, whatever is made of them.
use Prim.Native.Nat.{ℕ, max}
use lib.ListN.{get_or}
use Rattle.distances.specs.Area.{cell_at, CellsWritten, Line}
use Rattle.distances.proofs.Area.{Passed, by_column}
use Rattle.spans.specs.Growth.{Filled, Makes}
use Rattle.spans.proofs.step_line.Given as goal

abbrev pub invariant-loop-u : goal.invariant-loop-u
invariant-loop-u g l =
    Filled l.u (λ x. max (get_or l.initial.reach x 0) l.step) l.initial.reach l.reach
    × ((made : ℕ → ℕ → ℕ) → Makes (goal.F-post g l.cell) made
    → CellsWritten (Passed by_column (Line l.v l.wide) l.u) (λ i x. made (cell_at l.initial.spans i x) (max (get_or l.initial.reach x 0) l.step))
    l.initial.spans l.spans)
