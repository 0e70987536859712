-- `ordered::next_in_line` meets its contract: no link stands between the first pair and the pair of type j.
use mathlib.Core.Path.{◌≡◌}
use Prim.Native.Nat.{◌<◌}
use Rattle.result.specs.Lines.{links_before}
use Rattle.result.proofs.ordered.next_in_line.Given as goal

abbrev pub invariant-loop-j : goal.invariant-loop-j
invariant-loop-j l = (l.i < l.j) × (links_before l.area l.t l.i l.j ≡ links_before l.area l.t l.i l.from)
