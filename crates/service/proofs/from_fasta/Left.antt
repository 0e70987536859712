-- The text of a FASTA text, for each of the two ends of a call.
use mathlib.Core.Path.{◌≡◌}
use mathlib.Core.Bool.{true}
use Prim.Native.Nat.{ℕ}
use lib.ListN.{length, take}
use Rattle.rules.specs.Job.{Bytes}
use Rattle.fasta.specs.Answers.{conversion_number, conversion_place, refuses}
use Rattle.fasta.specs.Refusals.{checked_text}
use Rattle.fasta.proofs.Ready.{Ready}
use Rattle.text.specs.Printed.{printed_used, RefusalLeft, Printed}
use Rattle.service.specs.Served.{TextOnly}
use Rattle.service.proofs.Text.{shown_as}
use Rattle.service.specs.Printed.{fasta_printed, FastaText}

module _ (text : Bytes) (e : ℕ) {out out' : Bytes} {used : ℕ} where
  -- That of the job which was made of it,
  pub job-left : {job : Bytes} {n : ℕ} → Ready text e job n → TextOnly (take n job) out used out' → FastaText text e out used out'
  unfolding fasta_printed
  job-left y t = rw (y.passes, ← y.block) t

  -- or the line of its refusal.
  pub refusal-left : {n at : ℕ} {r : Printed} → refuses (checked_text text) ≡ true → n ≡ conversion_number (checked_text text) → at ≡ conversion_place (checked_text text) →
      RefusalLeft n at (length out) out' r → used ≡ printed_used r → FastaText text e out used out'
  unfolding fasta_printed
  refusal-left m n-is at_is l u = rw (m, ← n-is, ← at_is) (shown_as l.answered (rw (← l.answered) at l.left) u)
