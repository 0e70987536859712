-- `links::mark_line` meets its contract: the cells of the line are passed column by column. Each is read before it is written.
use native.Mathlib.Omega.{arith}
use Rattle.distances.proofs.Area.{cell-kept, cell-passed, all-passed}
use Rattle.links.proofs.mark_line.Goals as goal

pub loop-i-preserved : goal.loop-i-preserved
loop-i-preserved c =
    let was = cell-kept c.loop-i.invariant (omega arith) c.args.j c.loop-i.i (omega arith) (omega arith) in
    cell-passed c.loop-i.invariant (omega arith) (omega arith) (rw was at c.mark_of.ensures)

pub returns : goal.returns
returns c = all-passed c.loop-i.invariant (omega arith)
