-- At most 128 links are found for each type.
use Rattle.std.proofs.Common.{◌*◌, ◌≤◌}
use Rattle.test_parts.proofs.purges.show_links.Given as goal

abbrev pub invariant-loop-i : goal.invariant-loop-i
invariant-loop-i l = l.links ≤ l.i * 128
