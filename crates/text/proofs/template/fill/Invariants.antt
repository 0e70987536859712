-- `template::fill`: after i bytes what they give stands behind what was written.
use lib.ListN.{length, get_or}
use Rattle.memory.proofs.decimals.Upto.{Upto}
use Rattle.text.specs.Template.{piece}
use Rattle.text.proofs.template.fill.Given as goal

abbrev pub invariant-loop-byte : goal.invariant-loop-byte
invariant-loop-byte l = Upto (length l.s) (λ j. piece l.numbers l.row (get_or l.s j 0)) l.initial.out l.fn.at l.byte-index l.out l.at
