-- What was read of a text, up to its first fault.
use mathlib.Core.Path.{◌≡◌, sym, ◌∙◌}
use mathlib.Core.Bool.{true}
use Rattle.std.proofs.Common.{Ok, Err}
use Prim.Native.Nat.{ℕ, ◌<◌}
use native.Mathlib.Omega.{arith}
use lib.ListN.{length}
use borrow.Author.Tests.{lt-ltb, le-ltb}
use Rattle.graph.proofs.Below.{first-is}
use Rattle.rules.specs.Job.{Bytes}
use Rattle.fasta.specs.Answers.{refuses}
use Rattle.fasta.specs.declared.conversion.Fault.{Fault}
use Rattle.fasta.proofs.conversion.Answers.{fault-refuses}
use Rattle.fasta.specs.Sequences.{opened}
use Rattle.fasta.specs.Refusals.{fault_at, first_fault}
use Rattle.fasta.specs.Read.{lengths_to, ReadAll}
use Rattle.fasta.proofs.alignment.Faults.{Clear, few-opened}

-- Reading ends at the first fault, or behind the last byte.
module _ (text : Bytes) where
  first-fault : (i : ℕ) → i < length text → Clear text i → refuses (fault_at text i) ≡ true → first_fault text ≡ i
  unfolding first_fault
  first-fault i h clear t = first-is _ _ i (omega arith) clear (λ l. t)

  pub no_first-fault : Clear text (length text) → first_fault text ≡ length text
  unfolding first_fault
  no_first-fault clear = first-is _ _ (length text) (omega arith) clear (λ l. absurd (omega arith))

  pub read-fault : {lengths : Bytes} {fault : Fault} (i : ℕ) → i < length text → Clear text i → fault_at text i ≡ Err fault →
      lengths ≡ lengths_to text i → ReadAll text lengths (Err fault)
  read-fault {fault} i h clear f l =
      let e = first-fault i h clear (rw f (fault-refuses fault)) in
      record { answer_is = rw (e, lt-ltb i (length text) h) (sym f); begun_is = tt; few = tt; lengths_are = rw e l }

  pub read_whole : {lengths : Bytes} {begun : ℕ} (i : ℕ) → i ≡ length text → Clear text i →
      begun ≡ opened text i → lengths ≡ lengths_to text i → ReadAll text lengths (Ok begun)
  read_whole i h clear b l =
      let e = no_first-fault (rw h at clear) in
      record { answer_is = rw (e, le-ltb (length text) (length text) (omega arith)); begun_is = b ∙ rw (e, h); few = omega (arith, few-opened text i clear); lengths_are = l ∙ rw (e, h) }
