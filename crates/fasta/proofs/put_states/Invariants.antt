-- `fasta::put_states` meets its contract: at byte i the states before it stand there.
use mathlib.Core.Path.{◌≡◌}
use Rattle.graph.specs.Below.{gather}
use Rattle.fasta.specs.Lines.{line_start}
use Rattle.memory.specs.Placed.{Follows}
use Rattle.fasta.proofs.Written.{state_at}
use Rattle.fasta.proofs.put_states.Given as goal

abbrev pub invariant-loop-i : goal.invariant-loop-i
invariant-loop-i l = (l.line ≡ line_start l.text l.i) × Follows l.initial.job l.at (gather l.i (state_at l.text)) l.job l.to
