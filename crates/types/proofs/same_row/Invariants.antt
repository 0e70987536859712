-- `types::same_row` meets its contract: the bytes passed were equal.
use Prim.Native.Nat.{◌*◌}
use Rattle.types.proofs.Eight.{Alike}
use Rattle.types.proofs.same_row.Given as goal

abbrev pub invariant-loop-k : goal.invariant-loop-k
invariant-loop-k l = Alike l.states (64 * l.i) l.row (8 * l.k)
