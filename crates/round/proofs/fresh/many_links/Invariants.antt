-- `fresh::many_links` meets its contract: the sum stays small.
use Prim.Native.Nat.{◌+◌, ◌*◌, ◌≤◌}
use Rattle.round.proofs.fresh.many_links.Given as goal

abbrev pub invariant-loop-i : goal.invariant-loop-i
invariant-loop-i l = (l.i ≤ l.n + 3) × (l.links ≤ 128 * l.i)
