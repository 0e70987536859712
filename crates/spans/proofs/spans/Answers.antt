-- `spans::spans` meets its contract: distances to the mirror cells, the tree, and then the spans with later types.
use native.Mathlib.Omega.{arith}
use Rattle.spans.proofs.TreeGrown.{spanned-all}
use Rattle.spans.proofs.spans.Goals as goal

pub returns : goal.returns
returns c = (c.mirror.ensures, spanned-all (omega arith) c.mirror.ensures c.grow_tree.ensures c.settle.ensures)
