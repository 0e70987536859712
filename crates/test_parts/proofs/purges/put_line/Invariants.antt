-- At most one link is found for each type.
use Rattle.std.proofs.Common.{◌+◌, ◌≤◌}
use Rattle.test_parts.proofs.purges.put_line.Given as goal

abbrev pub invariant-loop-j : goal.invariant-loop-j
invariant-loop-j l = l.i + l.links ≤ l.j
