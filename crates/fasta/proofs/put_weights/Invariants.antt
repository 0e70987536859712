-- `fasta::put_weights` meets its contract: after c columns the weights of the first c stand there.
use mathlib.Core.Path.{◌≡◌}
use Rattle.memory.specs.Placed.{placed}
use Rattle.fasta.specs.Block.{weights_of}
use Rattle.fasta.proofs.put_weights.Given as goal

abbrev pub invariant-loop-c : goal.invariant-loop-c
invariant-loop-c l = l.job ≡ placed l.initial.job 12 (weights_of l.c)
