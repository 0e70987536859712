-- `stay::survivors` meets its contract: after i types it holds the places of those that stay.
use mathlib.Core.Path.{ap}
use mathlib.Core.Bool.{not}
use mathlib.Core.Path.{refl}
use native.Mathlib.Omega.{arith}
use Rattle.purge.proofs.stay.Staying.{passed_none, passed-goes, passed-stays, all-passed}
use Rattle.purge.proofs.stay.survivors.Goals as goal
use Rattle.purge.proofs.stay.survivors.Goals.{then-not-obsolete, else-not-obsolete}

pub loop-i-init : goal.loop-i-init
loop-i-init c = passed_none (omega arith) refl

pub loop-i-preserved : goal.loop-i-preserved
loop-i-preserved c =
    let l = c.loop-i in
    let h = c.loop-i-test.true in
    elim c.if-not-obsolete.branch [
      | then-not-obsolete w ↦ rw (w.kept-is, w.count-is) (passed-stays l.invariant h c.obsolete.ensures (ap not w.if-not-obsolete.true))
      | else-not-obsolete w ↦ rw (w.kept-is, w.count-is) (passed-goes l.invariant h c.obsolete.ensures (ap not w.if-not-obsolete.false))
    ]

pub returns : goal.returns
returns c = all-passed c.loop-i.invariant (omega arith)
