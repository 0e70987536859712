-- `links::mark` meets its contract: the mirror cells are passed line by line. Each is read before it is written.
use native.Mathlib.Omega.{arith}
use Rattle.distances.proofs.Area.{cell-kept, part-passed, all-passed}
use Rattle.links.proofs.mark.Goals as goal

pub loop-j-preserved : goal.loop-j-preserved
loop-j-preserved c =
    let w = c.loop-j.invariant in
    part-passed w (omega arith) c.mark_line.ensures (λ a b t. rw (cell-kept w (omega arith) a b (omega arith) (omega arith)))

pub returns : goal.returns
returns c = all-passed c.loop-j.invariant (omega arith)
