-- `fresh::many_links` meets its contract: the sum stays small.
use Prim.Native.Nat.{◌≤◌}
use native.Mathlib.Omega.{arith}
use Rattle.graph.proofs.Below.{count_le}
use Rattle.links.specs.Marks.{marked}
use Rattle.round.proofs.fresh.many_links.Goals as goal
use Rattle.round.proofs.fresh.many_links.Goals.{else-loop-i-test, then-loop-i-test+else-n-i-gt4}

-- No more links are counted than there are types below.
pub overflow_add-links : goal.overflow_add-links
overflow_add-links c =
    let i = c.loop-i.i in
    omega (arith, c.link_count-links.ensures, count_le i (marked c.args.area.now i))

pub loop-i-preserved : goal.loop-i-preserved
loop-i-preserved c =
    let i = c.loop-i.i in
    let few : c.link_count-links.result ≤ i = omega (arith, c.link_count-links.ensures, count_le i (marked c.args.area.now i)) in
    (omega arith, omega arith)

-- The loop ends before a step, or at one that goes past the end.
pub overflow_mul-result : goal.overflow_mul-result
overflow_mul-result c =
    let i = c.loop-i.i in
    elim c.loop-i-test.branch [
      | else-loop-i-test w ↦ rw w.links-is (omega arith)
      | then-loop-i-test+else-n-i-gt4 w ↦ rw w.links-is (omega (arith, w.link_count-links.ensures, count_le i (marked c.args.area.now i)))
    ]
