-- The lent job as its caller finds it: the block at its front, or a refusal.
use mathlib.Core.Path.{◌≡◌, refl, sym, ap, ◌∙◌}
use mathlib.Core.Bool.{Bool, true, false, cond, true≢false, false≢true}
use mathlib.Core.List.{[]}
use Rattle.std.proofs.Common.{Ok, Err}
use Prim.Native.Nat.{ℕ, ◌≤◌}
use native.Mathlib.Omega.{arith}
use native.Mathlib.Decide.{dec_le}
use lib.Dec.{ltb}
use lib.ListN.{length, take, length-append}
use lib.Seq.{take-append_seam}
use borrow.Author.Tests.{lt-ltb, le-ltb}
use Rattle.graph.proofs.Below.{is_false, is_true}
use Rattle.rules.specs.Answers.{when◌refuse◌else◌}
use Rattle.rules.specs.Job.{Bytes}
use Rattle.rules.specs.Call.{padded}
use Rattle.fasta.specs.Answers.{Conversion, conversion_number, conversion_used, refuses}
use Rattle.fasta.specs.declared.conversion.Fault.{Fault}
use Rattle.fasta.specs.declared.conversion.Fault.TheVariants.{Short, Before, Byte, Wide, Many, Empty, Uneven}
use Rattle.fasta.specs.Refusals.{checked_text}
use Rattle.fasta.specs.Block.{job_of}
use Rattle.fasta.specs.Converted.{job_room, conversion_of, job_after, Converted}

-- The first bytes of the job are the block of a readable text.
pub record Ready (text : Bytes) (e : ℕ) (job : Bytes) (used : ℕ) : Type 0 where
  pub passes : refuses (checked_text text) ≡ false
  pub within : used ≤ length job
  pub block : take used job ≡ job_of e text

-- Nothing is made where the job is too short.
pub enough : {text job : Bytes} {e lent : ℕ} {r : Conversion} → Converted text e lent job r → conversion_number r ≡ 0 → job_room ≤ lent
unfolding conversion_of
enough {lent} {r} t z = elim (dec_le job_room lent) [
  | yes h ↦ h
  | no h ↦ let short : r ≡ Err Short = t.answered ∙ rw (lt-ltb lent job_room (omega arith)) in absurd (omega (arith, z, ap conversion_number short))
]

module _ {text job : Bytes} {e lent : ℕ} {r : Conversion} (t : Converted text e lent job r) (room : job_room ≤ lent) where
  refused-is : refuses (checked_text text) ≡ true → r ≡ checked_text text
  unfolding conversion_of
  refused-is m = t.answered ∙ rw (le-ltb lent job_room room, m)

  made-is : refuses (checked_text text) ≡ false → r ≡ Ok (length (job_of e text))
  unfolding conversion_of
  made-is m = t.answered ∙ rw (le-ltb lent job_room room, m)

  -- It is left, with zeros behind it, where the text is not refused.
  left_is : refuses (checked_text text) ≡ false → job ≡ padded lent (job_of e text)
  unfolding job_after conversion_of
  left_is m = t.left ∙ rw (le-ltb lent job_room room, m)

  pub ready : conversion_number r ≡ 0 → {used : ℕ} → used ≡ conversion_used r → Ready text e job used
  ready z u =
      let m = is_false (refuses (checked_text text)) (λ m. true≢false (sym (ap refuses (refused-is m) ∙ m) ∙ rw (z))) in
      let n = u ∙ ap conversion_used (made-is m) in
      record { passes = m; within = rw (left_is m, length-append) (omega (arith, n)); block = rw (left_is m, n) (take-append_seam (job_of e text) _) }

  pub not-ready : refuses r ≡ true → (r ≡ checked_text text) × (refuses (checked_text text) ≡ true)
  not-ready n =
      let m = is_true (refuses (checked_text text)) (λ m. true≢false (sym n ∙ ap refuses (made-is m))) in
      (refused-is m, m)

-- ── The bytes used are those written ──

fault_no_bytes : (fault : Fault) → conversion_used (Err fault) ≡ 0
fault_no_bytes Short = refl
fault_no_bytes (Before place) = refl
fault_no_bytes (Byte place) = refl
fault_no_bytes (Wide place) = refl
fault_no_bytes (Many place) = refl
fault_no_bytes (Empty place) = refl
fault_no_bytes (Uneven place) = refl

no_bytes : (a : Conversion) → refuses a ≡ true → conversion_used a ≡ 0
no_bytes (Ok used) e = absurd (false≢true e)
no_bytes (Err fault) e = fault_no_bytes fault

pub used-written : (lent e : ℕ) (text : Bytes) → length (cond (refuses (conversion_of lent e text)) [] (job_of e text)) ≡ conversion_used (conversion_of lent e text)
unfolding conversion_of
used-written lent e text = go (ltb lent job_room) (refuses (checked_text text)) refl
  where
    go : (s m : Bool) → refuses (checked_text text) ≡ m →
        let a = when s refuse Err Short else when m refuse checked_text text else Ok (length (job_of e text)) in
        length (cond (refuses a) [] (job_of e text)) ≡ conversion_used a
    go true m f = refl
    go false true f = rw f (sym (no_bytes (checked_text text) f))
    go false false f = refl
