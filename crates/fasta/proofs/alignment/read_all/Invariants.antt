-- `alignment::read_all` meets its contract: before byte i there is no fault, and everything is counted.
use mathlib.Core.Path.{◌≡◌}
use Rattle.fasta.specs.Lines.{line_start}
use Rattle.fasta.specs.Sequences.{opened}
use Rattle.fasta.specs.Read.{lengths_to}
use Rattle.fasta.proofs.alignment.Faults.{Clear}
use Rattle.fasta.proofs.alignment.read_all.Given as goal

abbrev pub invariant-loop-i : goal.invariant-loop-i
invariant-loop-i l = (l.line ≡ line_start l.text l.i) × (l.begun ≡ opened l.text l.i) × (l.lengths ≡ lengths_to l.text l.i) × Clear l.text l.i
