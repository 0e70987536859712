-- `ordered::count_line` meets its contract: before type j it counted the links of the pairs before j.
use mathlib.Core.Path.{◌≡◌}
use Prim.Native.Nat.{◌≤◌, ◌<◌}
use lib.ListN.{length}
use Rattle.graph.specs.Below.{gather}
use Rattle.result.specs.Lines.{pair_of}
use Rattle.result.proofs.ordered.count_line.Given as goal

abbrev pub invariant-loop-j : goal.invariant-loop-j
invariant-loop-j l = (l.i < l.j) × (l.n ≤ l.j) × (l.n ≡ length (gather l.j (pair_of l.area l.i)))
