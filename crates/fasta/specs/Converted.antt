-- RULES 18.5 and 18.8: what a FASTA text is answered, and what the lent job holds afterwards.
use Rattle.std.specs.Prelude.{◌≡◌, cond, [], ℕ, ltb, length, Ok, Err}
use Rattle.rules.specs.Sizes.{largest_job}
use Rattle.rules.specs.Answers.{when◌refuse◌else◌}
use Rattle.rules.specs.Job.{Bytes}
use Rattle.rules.specs.Call.{padded}
use Rattle.fasta.specs.Answers.{Conversion, refuses}
use Rattle.fasta.specs.declared.conversion.Fault.TheVariants.{Short}
use Rattle.fasta.specs.Refusals.{checked_text}
use Rattle.fasta.specs.Block.{job_of}

-- RULES 18.5: the least bytes lent for the job.
abbrev pub job_room : ℕ
job_room = largest_job

-- RULES 18.8: first 20, then what the text itself is refused for.
unfoldable pub conversion_of : ℕ → ℕ → Bytes → Conversion
conversion_of lent epsilon text =
    when ltb lent job_room refuse Err Short else
    when refuses (checked_text text) refuse checked_text text else
    Ok (length (job_of epsilon text))

-- RULES 18.5: the lent job afterwards.
unfoldable pub job_after : ℕ → ℕ → Bytes → Bytes
job_after lent epsilon text = padded lent (cond (refuses (conversion_of lent epsilon text)) [] (job_of epsilon text))

-- RULES 18.5, 18.8: the whole of what is asked of make_job.
pub record Converted (text : Bytes) (epsilon lent : ℕ) (job : Bytes) (r : Conversion) : Type 0 where
  pub answered : r ≡ conversion_of lent epsilon text
  pub left : job ≡ job_after lent epsilon text
