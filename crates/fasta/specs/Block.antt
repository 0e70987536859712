-- RULES 18.1: the job block that is made of a FASTA text and an epsilon.
use Rattle.std.specs.Prelude.{List, [], ◌∷◌, ◌++◌, ℕ, ◌+◌, ◌*◌, length, replicate}
use Rattle.graph.specs.Below.{gather}
use Rattle.rules.specs.Sizes.{job_head}
use Rattle.rules.specs.Job.{Bytes}
use Rattle.rules.specs.Result.{words}
use Rattle.fasta.specs.Sequences.{sequences, sequence}

-- RULES 2.1, 18.1: the header.
abbrev pub job_header : ℕ → ℕ → ℕ → List ℕ
job_header n m epsilon = n ∷ m ∷ epsilon ∷ job_head ∷ (job_head + 2 * m) ∷ (job_head + 2 * m + n * m) ∷ []

-- RULES 18.1: every weight is 1.
unfoldable pub weights_of : ℕ → Bytes
weights_of m = words (replicate m 1)

-- RULES 18.1: the block: header, weights, and the sequences as rows.
unfoldable pub job_of : ℕ → Bytes → Bytes
job_of epsilon text =
    let n = sequences text in
    let m = length (sequence text 0) in
    words (job_header n m epsilon) ++ weights_of m ++ gather n (sequence text)
