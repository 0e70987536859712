-- `fasta::put_weights` meets its contract: after c columns the weights of the first c stand there.
use native.Mathlib.Omega.{arith}
use Rattle.fasta.proofs.Written.{weights-none, weights-more}
use Rattle.fasta.proofs.put_weights.Goals as goal

pub loop-c-init : goal.loop-c-init
loop-c-init c = weights-none _

pub loop-c-preserved : goal.loop-c-preserved
loop-c-preserved c = weights-more _ c.loop-c.c (omega arith) c.loop-c.invariant c.put_word.ensures
