-- `listing::put_link_lines`: after k links their lines stand behind what was written.
use Rattle.rules.specs.Job.{word}
use Rattle.rules.specs.Text.{link_line}
use Rattle.memory.proofs.decimals.Upto.{Upto}
use Rattle.readback.specs.ReadBack.{read_link}
use Rattle.text.proofs.listing.put_link_lines.Given as goal

abbrev pub invariant-loop-k : goal.invariant-loop-k
invariant-loop-k l = Upto (word l.block 6) (λ j. link_line (read_link l.block j)) l.initial.out l.fn.at l.k l.out l.at
