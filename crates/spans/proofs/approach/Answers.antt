-- `spans::approach` meets its contract: the types passed are as near as v or the tree, and the least of those outside is known.
use native.Mathlib.Omega.{arith}
use Rattle.spans.proofs.Turns.{filled_more, least_more}
use Rattle.spans.proofs.approach.Goals as goal

pub loop-u-preserved : goal.loop-u-preserved
loop-u-preserved c =
    let (f, m) = c.loop-u.invariant in
    let old = f.kept c.loop-u.u (omega arith) in
    (filled_more f (omega arith) (omega arith), least_more m (omega arith))
