-- `spans::mirror_line` meets its contract: the line is passed part by part.
use native.Mathlib.Omega.{arith}
use Rattle.distances.proofs.Area.{all-passed}
use Rattle.spans.proofs.Turns.{mirror_passed}
use Rattle.spans.proofs.mirror_line.Goals as goal

pub loop-k-preserved : goal.loop-k-preserved
loop-k-preserved c = mirror_passed c.loop-k.invariant (omega arith) (omega arith) c.mirror_part.ensures

pub returns : goal.returns
returns c =
    all-passed (mirror_passed {m = c.args.j} c.loop-k.invariant (omega arith) (omega arith) c.mirror_part-2.ensures) (omega arith)
