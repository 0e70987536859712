-- `spans::mirror` meets its contract: the mirror cells are passed line by line.
use native.Mathlib.Omega.{arith}
use Rattle.distances.proofs.Area.{all-passed}
use Rattle.spans.proofs.Turns.{mirror_passed}
use Rattle.spans.proofs.mirror.Goals as goal

pub loop-j-preserved : goal.loop-j-preserved
loop-j-preserved c = mirror_passed c.loop-j.invariant (omega arith) (omega arith) c.mirror_line.ensures

pub returns : goal.returns
returns c = all-passed c.loop-j.invariant (omega arith)
