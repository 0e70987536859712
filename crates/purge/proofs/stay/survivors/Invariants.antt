-- `stay::survivors` meets its contract: after i types it holds the places of those that stay.
use Rattle.purge.proofs.stay.Staying.{Passed}
use Rattle.purge.proofs.stay.survivors.Given as goal

abbrev pub invariant-loop-i : goal.invariant-loop-i
invariant-loop-i l = Passed l.area l.kinds l.t l.kept l.count l.i
