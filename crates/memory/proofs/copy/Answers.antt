-- `memory::copy` meets its contract: so many bytes of s stand in their places.
use mathlib.Core.Path.{refl, ap, ◌∙◌}
use native.Mathlib.Omega.{arith}
use lib.ListN.{length-set}
use lib.Seq.{take_all}
use Rattle.memory.specs.Placed.{placed}
use Rattle.memory.proofs.Placed.{placed-none, taken_more}
use Rattle.memory.proofs.copy.Goals as goal

pub loop-i-init : goal.loop-i-init
loop-i-init c = (refl, placed-none _ _)

pub loop-i-preserved : goal.loop-i-preserved
loop-i-preserved c =
    let l = c.loop-i in
    let a = c.args in
    (simp length-set l.invariant.0, taken_more a.b.now a.s.now l.b a.at l.i (omega arith) (omega arith) l.invariant.1)

pub returns : goal.returns
returns c =
    let l = c.loop-i in
    let a = c.args in
    l.invariant.1 ∙ ap (placed a.b.now a.at) (take_all _ a.s.now (omega arith))
