-- `job::weights` meets its contract: so many weights stand at the front, and zeros behind them.
use mathlib.Core.Path.{◌≡◌}
use lib.ListN.{replicate}
use Rattle.graph.specs.Below.{table}
use Rattle.rules.specs.Job.{weight_at}
use Rattle.memory.specs.Placed.{placed}
use Rattle.job.proofs.weights.Given as goal

abbrev pub invariant-loop-c : goal.invariant-loop-c
invariant-loop-c l = l.w ≡ placed (replicate 64 0) 0 (table l.c (weight_at l.job))
