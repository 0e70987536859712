-- `retire::distances_left` meets its contract: the cells are passed line by line.
use native.Mathlib.Omega.{arith}
use Rattle.distances.proofs.Area.{all-passed}
use Rattle.purge.proofs.retire.Squeezed.{line-squeezed}
use Rattle.purge.proofs.retire.distances_left.Goals as goal

pub loop-a-preserved : goal.loop-a-preserved
loop-a-preserved c =
    let t = c in
    let p = t.requires in
    line-squeezed p.0 p.1 t.loop-a.invariant t.loop-a-test.true c.line_left.ensures

pub returns : goal.returns
returns c = all-passed c.loop-a.invariant (omega arith)
