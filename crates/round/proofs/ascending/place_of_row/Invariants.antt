-- `ascending::place_of_row` meets its contract: all rows passed stand before the row.
use mathlib.Core.Path.{◌≡◌}
use mathlib.Core.Bool.{true}
use Prim.Native.Nat.{ℕ, ◌<◌}
use Rattle.types.specs.State.{stored_at}
use Rattle.round.specs.Sorted.{before}
use Rattle.round.proofs.ascending.place_of_row.Given as goal

abbrev pub invariant-loop-i : goal.invariant-loop-i
invariant-loop-i l = (k : ℕ) → k < l.i → before (stored_at l.rows k) l.row ≡ true
