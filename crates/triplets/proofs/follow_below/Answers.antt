-- `triplets::follow_below` meets its contract: the line is filled from place i on.
use mathlib.Core.Path.{◌∙◌}
use mathlib.Core.Logic.{inl, inr}
use Prim.Native.Nat.{◌-◌}
use native.Mathlib.Omega.{arith}
use Rattle.triplets.proofs.Filling.{one-turn}
use Rattle.triplets.proofs.Order.{marked_sym, mark-read}
use Rattle.triplets.proofs.follow_below.Goals as goal
use Rattle.triplets.proofs.follow_below.Goals.{then-area-marks-eq1, else-area-marks-eq1}

pub loop-i-preserved : goal.loop-i-preserved
loop-i-preserved c =
    let a = c.args in
    let p = c.requires in
    let j = c.loop-i.i - 1 in
    let mark = marked_sym a.area.now a.c j ∙ mark-read a.area.now j a.c (omega arith) in
    one-turn p.0 p.1 p.3 (omega arith) mark c.loop-i.invariant (elim c.if-area-marks-eq1.branch [
      | then-area-marks-eq1 w ↦ inl (w.if-area-marks-eq1.true, w.follower-is)
      | else-area-marks-eq1 w ↦ inr (w.if-area-marks-eq1.false, w.follower-is)
    ])
