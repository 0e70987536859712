-- `guesses::slot` meets its contract: after c bytes the sum is that of the first c.
use native.Mathlib.Omega.{arith}
use Rattle.medians.proofs.guesses.Mixed.{none_mixed, one_mixed, all_mixed, slot_few}
use Rattle.medians.proofs.guesses.slot.Goals as goal

pub loop-c-init : goal.loop-c-init
loop-c-init c = none_mixed _

pub loop-c-preserved : goal.loop-c-preserved
loop-c-preserved c = let l = c.loop-c in rw c.from.ensures (one_mixed _ l.c l.sum (omega arith) (c.fits-row l.c) l.invariant)

pub returns : goal.returns
returns c = let l = c.loop-c in let is = all_mixed _ l.c l.sum (omega arith) l.invariant in (is, rw is (slot_few c.args.row.now))
