-- `hints::hints` meets its contract: each row keeps the length.
use mathlib.Core.Path.{◌≡◌}
use lib.ListN.{length}
use Rattle.triplets.proofs.hints.hints.Given as goal

abbrev pub invariant-loop-i : goal.invariant-loop-i
invariant-loop-i l = length l.hints ≡ 4608
