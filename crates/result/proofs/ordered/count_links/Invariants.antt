-- `ordered::count_links` meets its contract: before type i it counted the lines of the types before i.
use mathlib.Core.Path.{◌≡◌}
use Prim.Native.Nat.{◌*◌, ◌≤◌}
use lib.ListN.{length}
use Rattle.graph.specs.Below.{gather}
use Rattle.result.specs.Lines.{line_of}
use Rattle.result.proofs.ordered.count_links.Given as goal

abbrev pub invariant-loop-i : goal.invariant-loop-i
invariant-loop-i l = (l.n ≤ 128 * l.i) × (l.n ≡ length (gather l.i (line_of l.area l.t)))
