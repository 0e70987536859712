-- `records::put_records` meets its contract: after k types the records of the first k stand there.
use mathlib.Core.Path.{◌≡◌}
use lib.ListN.{length}
use Rattle.memory.specs.Placed.{placed}
use Rattle.result.specs.Records.{records_of}
use Rattle.result.proofs.records.put_records.Given as goal

abbrev pub invariant-loop-k : goal.invariant-loop-k
invariant-loop-k l = (length l.out ≡ length l.initial.out) × (l.out ≡ placed l.initial.out l.at (records_of l.kinds l.k l.s))
