-- `run::phase_one` meets its contract: turn after turn, each of which makes a type that was never made, until there is no candidate.
use Prim.Native.Nat.{◌-◌}
use Rattle.run.proofs.Turning.{Going}
use Rattle.run.proofs.phase_one.Given as goal

abbrev pub invariant-loop-next : goal.invariant-loop-next
invariant-loop-next l = Going l.weights l.initial.states l.initial.area l.initial.held l.states l.area l.held

-- The types that can still be made.
abbrev pub decreases-loop-next : goal.decreases-loop-next
decreases-loop-next l = 128 - l.held.state.made
