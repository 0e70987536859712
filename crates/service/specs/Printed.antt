-- What is printed for a FASTA text.
use Rattle.std.specs.Prelude.{cond, ℕ}
use Rattle.rules.specs.Job.{Bytes}
use Rattle.rules.specs.Lent.{least}
use Rattle.rules.specs.Text.{printed}
use Rattle.fasta.specs.Answers.{conversion_number, conversion_place, refuses}
use Rattle.fasta.specs.Refusals.{checked_text}
use Rattle.fasta.specs.Block.{job_of}
use Rattle.text.specs.Printed.{refusal_of}
use Rattle.service.specs.Served.{Shown}

-- `refused`, number and place for a text that is refused; else what the rules print for the job made of it, answered with the least
-- memory that may be lent. The job has memory enough, so 20 is never given.
unfoldable pub fasta_printed : ℕ → Bytes → Bytes
fasta_printed epsilon text =
    let conversion = checked_text text in
    cond (refuses conversion) (refusal_of (conversion_number conversion) (conversion_place conversion)) (printed least (job_of epsilon text))

-- The text alone, and its length.
abbrev pub FastaText : Bytes → ℕ → Bytes → ℕ → Bytes → Type 0
FastaText text epsilon out r out' = Shown (fasta_printed epsilon text) out r out'
