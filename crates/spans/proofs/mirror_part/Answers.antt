-- `spans::mirror_part` meets its contract: the cells are passed column by column. What stands opposite is in no line of theirs.
use native.Mathlib.Omega.{arith}
use Rattle.distances.proofs.Area.{cell-kept, cell-passed, all-passed}
use Rattle.spans.proofs.mirror_part.Goals as goal

pub loop-i-preserved : goal.loop-i-preserved
loop-i-preserved c =
    let w = c.loop-i.invariant in
    cell-passed w (omega arith) (omega arith) (cell-kept w (omega arith) c.loop-i.i c.args.j (omega arith) (omega arith))

pub returns : goal.returns
returns c = all-passed c.loop-i.invariant (omega arith)
