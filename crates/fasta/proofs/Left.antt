-- What is left in the lent job, for each of the three ends of a call.
use mathlib.Core.Path.{◌≡◌, refl, sym, ap, ◌∙◌}
use mathlib.Core.Bool.{true, false}
use mathlib.Core.List.{◌++◌}
use Rattle.std.proofs.Common.{Ok, Err}
use Prim.Native.Nat.{ℕ, ◌+◌, ◌*◌, ◌≤◌, ◌<◌}
use native.Mathlib.Nat.{sub-zero}
use native.Mathlib.Omega.{arith}
use lib.ListN.{length, replicate}
use borrow.Author.Tests.{lt-ltb, le-ltb}
use Rattle.rules.specs.Job.{Bytes}
use Rattle.rules.specs.Result.{words}
use Rattle.rules.proofs.Block.{length-words, length-parts}
use Rattle.memory.specs.Placed.{placed, Follows}
use Rattle.memory.proofs.Placed.{placed-padded}
use Rattle.memory.proofs.Follows.{follows-once, follows_on}
use Rattle.fasta.specs.Answers.{Conversion, refuses}
use Rattle.fasta.specs.declared.conversion.Fault.{Fault}
use Rattle.fasta.specs.declared.conversion.Fault.TheVariants.{Short}
use Rattle.fasta.proofs.conversion.Answers.{fault-refuses}
use Rattle.fasta.specs.Sequences.{sequences, sequence, states}
use Rattle.fasta.specs.Refusals.{checked_text}
use Rattle.fasta.specs.Read.{JobSizeOf}
use Rattle.fasta.specs.declared.alignment.JobSize.{JobSize}
use Rattle.fasta.proofs.alignment.Joined.{states-joined}
use Rattle.fasta.proofs.alignment.Readable.{readable}
use Rattle.fasta.specs.Block.{job_header, weights_of, job_of}
use Rattle.fasta.specs.Converted.{job_room, conversion_of, job_after, Converted}
use Rattle.fasta.proofs.JobOf.{width_of, length-job, job-fits}
use Rattle.fasta.proofs.Written.{length-weights}

-- ── A text that is not refused ──

-- It is measured as n sequences of m states each.
pub record Sized (text : Bytes) (n m : ℕ) : Type 0 where
  pub passes : refuses (checked_text text) ≡ false
  pub rows_are : n ≡ sequences text
  pub width_is : m ≡ width_of text
  pub few : n ≤ 256
  pub narrow : m ≤ 64
  pub states_are : length (states text) ≡ n * m
  pub room : 12 + 2 * m + n * m ≤ job_room

pub sized : {text : Bytes} {size : JobSize} → JobSizeOf text (Ok size) → Sized text size.rows size.width
sized {text} {size} p =
    let f : refuses (checked_text text) ≡ false = sym (ap refuses p.answer_is) in
    let r = readable text f in
    let n : size.rows ≡ sequences text = p.rows_are in
    let m : size.width ≡ width_of text = p.width_is in
    record {
      passes = f;
      rows_are = n;
      width_is = m;
      few = rw n r.few;
      narrow = rw m r.narrow;
      states_are = rw (states-joined text r.clear, n, m) (length-parts (width_of text) (sequences text) (sequence text) r.even);
      room = rw (n, m) (rw length-job at (job-fits 0 text r));
    }

-- Its job: head, weights and states.
job-parts : {text : Bytes} {n m : ℕ} (e : ℕ) → Sized text n m → job_of e text ≡ words (job_header n m e) ++ weights_of m ++ states text
unfolding job_of
job-parts {text} e s = rw (s.rows_are, s.width_is, states-joined text (readable text s.passes).clear)

-- ── The three ends ──

-- The lent job holds zeros first.
module _ (text : Bytes) (e lent : ℕ) {zeros : Bytes} (z : zeros ≡ replicate lent 0) where
  -- They are left as they are where the text is refused.
  zeros-left : {a : Conversion} → a ≡ conversion_of lent e text → refuses a ≡ true → Converted text e lent zeros a
  unfolding job_after
  zeros-left t r = record { answered = t; left = z ∙ rw (← t, r, sub-zero) }

  pub short-left : lent < job_room → Converted text e lent zeros (Err Short)
  unfolding conversion_of
  short-left h = zeros-left (rw (lt-ltb lent job_room h)) refl

  module _ (h : job_room ≤ lent) where
    pub refusal-left : {fault : Fault} → JobSizeOf text (Err fault) → Converted text e lent zeros (Err fault)
    unfolding conversion_of
    refusal-left {fault} p = zeros-left (p.answer_is ∙ rw (le-ltb lent job_room h, ← p.answer_is, fault-refuses fault)) (fault-refuses fault)

    -- The head, and each part behind the one before.
    pub job-left : {n m : ℕ} {b₁ b₂ b₃ : Bytes} → Sized text n m → b₁ ≡ placed zeros 0 (words (job_header n m e)) → b₂ ≡ placed b₁ 12 (weights_of m) →
        b₃ ≡ placed b₂ (12 + 2 * m) (states text) → Converted text e lent b₃ (Ok (12 + 2 * m + n * m))
    unfolding conversion_of job_after
    job-left {n} {m} {b₁} {b₂} s head weights behind =
        let room : 0 ≤ length zeros = omega arith in
        let one : Follows zeros 0 (words (job_header n m e)) b₁ 12 = record { is = head; behind = omega (arith, length-words (job_header n m e)) } in
        let two : Follows b₁ 12 (weights_of m) b₂ (12 + 2 * m) = record { is = weights; behind = omega (arith, length-weights m) } in
        let all = follows_on (follows_on one room two) room (follows-once behind) in
        record {
          answered = rw (le-ltb lent job_room h, s.passes, length-job e text (readable text s.passes), s.rows_are, s.width_is);
          left = all.is ∙ rw (z, le-ltb lent job_room h, s.passes, job-parts e s) (placed-padded lent _);
        }
