-- What is known of a text that is not refused.
use mathlib.Core.Path.{◌≡◌, refl}
use mathlib.Core.Bool.{Bool, false, not}
use Prim.Native.Nat.{ℕ, ◌≤◌, ◌<◌}
use native.Mathlib.Omega.{arith}
use Rattle.std.proofs.Common.{Err}
use lib.Dec.{ltb, eqb}
use lib.ListN.{length}
use borrow.Author.Tests.{ltb-true, ltb-false, eqb-true, eqb-false, not-false}
use Rattle.graph.specs.Below.{first}
use Rattle.graph.proofs.Below.{first-before}
use Rattle.rules.specs.Job.{Bytes}
use Rattle.fasta.specs.Answers.{refuses, no_fault}
use Rattle.fasta.specs.declared.conversion.Fault.TheVariants.{Empty, Uneven}
use Rattle.fasta.proofs.conversion.Answers.{not_no_size}
use Rattle.fasta.specs.Sequences.{sequences, sequence}
use Rattle.fasta.specs.Refusals.{fault_at, first_fault, first_empty, first_uneven, checked_text}
use Rattle.fasta.proofs.alignment.Faults.{Clear, fault-there, all-clear, few-opened, few-states}

-- Each test of the text passes it.
record Tested (text : Bytes) : Type 0 where
  faultless : ltb (first_fault text) (length text) ≡ false
  begun : eqb (sequences text) 0 ≡ false
  filled : ltb (first_empty text) (sequences text) ≡ false
  alike : ltb (first_uneven text) (sequences text) ≡ false

tested : (text : Bytes) → refuses (checked_text text) ≡ false → Tested text
unfolding checked_text
tested text e =
    let at = first_fault text in
    let s1 = not_no_size (ltb at (length text)) (fault_at text at) _ e (λ t. fault-there text (ltb-true at (length text) t)) in
    let s2 = not_no_size (eqb (sequences text) 0) (Err (Empty 0)) _ s1.1 (λ t. refl) in
    let s3 = not_no_size (ltb (first_empty text) (sequences text)) (Err (Empty (first_empty text))) _ s2.1 (λ t. refl) in
    let s4 = not_no_size (ltb (first_uneven text) (sequences text)) (Err (Uneven (first_uneven text))) no_fault s3.1 (λ t. refl) in
    record { faultless = s1.0; begun = s2.0; filled = s3.0; alike = s4.0 }

-- Where the first of n that passes is not below n, none does.
none_below : (n : ℕ) (p : ℕ → Bool) → ltb (first n p) n ≡ false → (i : ℕ) → i < n → p i ≡ false
none_below n p e i h = first-before n p i (omega (arith, ltb-false (first n p) n e))

pub record Readable (text : Bytes) : Type 0 where
  pub clear : Clear text (length text)
  pub some : 1 ≤ sequences text
  pub few : sequences text ≤ 256
  pub some_width : 1 ≤ length (sequence text 0)
  pub narrow : length (sequence text 0) ≤ 64
  pub even : (k : ℕ) → k < sequences text → length (sequence text k) ≡ length (sequence text 0)

pub readable : (text : Bytes) → refuses (checked_text text) ≡ false → Readable text
unfolding first_empty first_uneven
readable text e =
    let t = tested text e in
    let n = sequences text in
    let faultless = all-clear text t.faultless in
    let one : 1 ≤ n = omega (arith, eqb-false n 0 t.begun) in
    let filled = none_below n (λ k. eqb (length (sequence text k)) 0) t.filled in
    let alike = none_below n (λ k. not (eqb (length (sequence text k)) (length (sequence text 0)))) t.alike in
    record {
      clear = faultless;
      some = one;
      few = few-opened text (length text) faultless;
      some_width = omega (arith, eqb-false (length (sequence text 0)) 0 (filled 0 one));
      narrow = few-states text (length text) 0 faultless;
      even = λ k h. eqb-true (length (sequence text k)) (length (sequence text 0)) (not-false _ (alike k h));
    }
