-- How far the code has read a text: what one step hands to the next, and what comes back. No rule of its own.
use Rattle.std.specs.Prelude.{◌≡◌, cond, ℕ, suc, ◌≤◌, ◌<◌, ltb, length, Result, IfOk}
use Rattle.graph.specs.Below.{table}
use Rattle.rules.specs.Sizes.{most_rows}
use Rattle.rules.specs.Answers.{when◌refuse◌else◌}
use Rattle.rules.specs.Job.{Bytes}
use Rattle.fasta.specs.Answers.{Conversion, refuses, no_fault, fault_of}
use Rattle.fasta.specs.declared.conversion.Fault.{Fault}
use Rattle.fasta.specs.Sequences.{opened, joined, sequences, sequence}
use Rattle.fasta.specs.Refusals.{fault_at, first_fault, checked_text}
use Rattle.fasta.specs.declared.alignment.JobSize.{JobSize}

-- How many states each of the 256 sequences has before a byte.
unfoldable pub lengths_to : Bytes → ℕ → Bytes
lengths_to text i = table most_rows (λ k. length (joined text i k))

-- Everything before byte i is counted: `begun` sequences, and their states.
pub record CountedTo (text : Bytes) (i begun : ℕ) (lengths : Bytes) : Type 0 where
  pub inside : i < length text
  pub begun_is : begun ≡ opened text i
  pub few : begun ≤ most_rows
  pub lengths_are : lengths ≡ lengths_to text i

-- Byte i is a fault, or it is counted too.
pub record Taken (text : Bytes) (i : ℕ) (lengths : Bytes) (r : Result Unit Fault) : Type 0 where
  pub fault_is : fault_of r ≡ fault_at text i
  pub lengths_are : lengths ≡ lengths_to text (cond (refuses (fault_at text i)) i (suc i))

-- The text is read up to its first fault.
abbrev pub read_answer : Bytes → Conversion
read_answer text = when ltb (first_fault text) (length text) refuse fault_at text (first_fault text) else no_fault

pub record ReadAll (text lengths : Bytes) (r : Result ℕ Fault) : Type 0 where
  pub answer_is : fault_of r ≡ read_answer text
  pub begun_is : IfOk r (λ begun. begun ≡ opened text (first_fault text))
  pub few : IfOk r (λ begun. begun ≤ most_rows)
  pub lengths_are : lengths ≡ lengths_to text (first_fault text)

-- The size of the job, where the text is not refused.
pub record JobSizeOf (text : Bytes) (r : Result JobSize Fault) : Type 0 where
  pub answer_is : fault_of r ≡ checked_text text
  pub rows_are : IfOk r (λ size. size.rows ≡ sequences text)
  pub width_is : IfOk r (λ size. size.width ≡ length (sequence text 0))
