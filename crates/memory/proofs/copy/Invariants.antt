-- `memory::copy` meets its contract: so many bytes of s stand in their places.
use mathlib.Core.Path.{◌≡◌}
use lib.ListN.{length, take}
use Rattle.memory.specs.Placed.{placed}
use Rattle.memory.proofs.copy.Given as goal

abbrev pub invariant-loop-i : goal.invariant-loop-i
invariant-loop-i l = (length l.b ≡ length l.initial.b) × (l.b ≡ placed l.initial.b l.at (take l.i l.s))
