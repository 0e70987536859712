-- `memory::clear` meets its contract: the cells passed hold the value.
use mathlib.Core.Path.{◌≡◌}
use Prim.Native.Nat.{ℕ, ◌<◌}
use lib.ListN.{length, get_or}
use Rattle.memory.proofs.clear.Given as goal

abbrev pub invariant-loop-i : goal.invariant-loop-i
invariant-loop-i g l = (length l.cells ≡ length l.initial.cells) × ((k : ℕ) → k < l.i → get_or l.cells k l.blank ≡ l.blank)
