-- `retire::rows_left` meets its contract: so many rows are parted.
use Rattle.purge.proofs.retire.Parted.{Parting}
use Rattle.purge.proofs.retire.rows_left.Given as goal

abbrev pub invariant-loop-i : goal.invariant-loop-i
invariant-loop-i l = Parting l.kept l.count l.t l.made l.initial.states l.states l.i l.a
