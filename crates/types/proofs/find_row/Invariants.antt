-- `types::find_row` meets its contract: no type passed has the row.
use mathlib.Core.Path.{◌≡◌}
use mathlib.Core.Bool.{false}
use Prim.Native.Nat.{ℕ, ◌<◌}
use Rattle.rules.specs.Types.{is_same_row}
use Rattle.types.specs.State.{stored_at}
use Rattle.types.proofs.find_row.Given as goal

abbrev pub invariant-loop-i : goal.invariant-loop-i
invariant-loop-i l = (k : ℕ) → k < l.i → is_same_row (stored_at l.states k) l.row ≡ false
