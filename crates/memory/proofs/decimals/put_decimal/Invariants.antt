-- `decimals::put_decimal` meets its contract: the digits behind the first place are written, and those of what is left stand before them.
use Rattle.memory.proofs.decimals.Decimal.{Written}
use Rattle.memory.proofs.decimals.put_decimal.Given as goal

abbrev pub invariant-loop-left : goal.invariant-loop-left
invariant-loop-left l = Written l.x l.digits l.first l.left

abbrev pub decreases-loop-left : goal.decreases-loop-left
decreases-loop-left l = l.left
