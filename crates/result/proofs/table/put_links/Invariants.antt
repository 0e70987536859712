-- `table::put_links`: the bytes of the first k links stand behind the place.
use mathlib.Core.Path.{◌≡◌}
use Rattle.result.proofs.table.Bytes.{after}
use Rattle.result.proofs.table.put_links.Given as goal

abbrev pub invariant-loop-k : goal.invariant-loop-k
invariant-loop-k l = l.out ≡ after l.links l.initial.out l.at l.k
