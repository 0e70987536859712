-- `numerals::read_number` meets its contract. The invariant: the bytes passed are digits, and the value is what they write.
use mathlib.Core.Path.{◌≡◌}
use Prim.Native.Nat.{ℕ, ◌<◌, ◌≤◌}
use lib.ListN.{get_or}
use Rattle.rules.proofs.Job.{Within}
use Rattle.memory.specs.Numeral.{value_of}
use Rattle.memory.proofs.numerals.read_number.Given as goal

abbrev pub invariant-loop-digit : goal.invariant-loop-digit
invariant-loop-digit l = (l.value ≡ value_of l.digits l.digit-index) × (l.value ≤ 65535) × ((k : ℕ) → k < l.digit-index → Within 48 57 (get_or l.digits k 0))
