-- `listing::put_type_lines`: after k types their lines stand behind what was written.
use Rattle.rules.specs.Job.{word}
use Rattle.memory.proofs.decimals.Upto.{Upto}
use Rattle.text.specs.Lines.{type_line_of}
use Rattle.text.proofs.listing.put_type_lines.Given as goal

abbrev pub invariant-loop-k : goal.invariant-loop-k
invariant-loop-k l = Upto (word l.block 0) (type_line_of l.job l.block) l.initial.out l.fn.at l.k l.out l.at
