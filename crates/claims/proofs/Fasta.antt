-- The claims about a job made of a FASTA text, as its caller finds it.
use Rattle.std.specs.Prelude.{Err}
use mathlib.Core.Path.{◌≡◌, refl}
use mathlib.Core.Logic.{inl, inr}
use mathlib.Core.Bool.{Bool, true, false, cond}
use mathlib.Core.List.{List, []}
use Prim.Native.Nat.{ℕ, ◌-◌, ◌≤◌}
use native.Mathlib.Omega.{arith}
use lib.Dec.{eqb}
use lib.ListN.{length, take, get_or, replicate}
use Rattle.graph.specs.Below.{table}
use Rattle.rules.specs.Answers.{number, when◌refuse◌else◌, passed, Answer}
use Rattle.rules.specs.Job.{Bytes, epsilon, weights, job_rows, checked}
use Rattle.rules.specs.Lent.{Lent, area_short}
use Rattle.rules.specs.Types.{has_too_many, row129}
use Rattle.rules.specs.Run.{Outcome, settled, full, phase_two, split}
use Rattle.rules.specs.Call.{Verdict, refused, found, ◌then◌, ended, outcome, verdict, answer, answer_to}
use Rattle.rules.specs.declared.Refusal.TheVariants.{Area, Types, Split}
use Rattle.fasta.specs.Answers.{Conversion, conversion_number, conversion_used, refuses}
use Rattle.fasta.specs.Sequences.{sequences, sequence}
use Rattle.fasta.proofs.alignment.Readable.{readable}
use Rattle.fasta.specs.Block.{job_of}
use Rattle.fasta.specs.Converted.{conversion_of, job_after, Converted}
use Rattle.fasta.proofs.JobOf as made
use Rattle.fasta.proofs.Ready.{Ready, enough, ready, used-written}
use Rattle.claims.specs.Formed.{NotForForm}
use Rattle.claims.proofs.Calls.{zeros-behind}

-- ── A job that passes checks 2 to 7 is refused for none of them ──

module _ (m : ℕ) where
  abbrev Free : Verdict → Type 0
  Free v = NotForForm (answer_to m v)

  free_then : (t : Bool) (a : Answer) (v : Verdict) → NotForForm a → Free v → Free ((when t refuse a else passed) then v)
  free_then false a v h k = k
  free_then true a v h k = go (eqb (number a) 0)
    where
      go : (z : Bool) → Free (cond z v (refused a))
      go true = k
      go false = h

  free_ended : (ws : List ℕ) (o : Outcome) → Free (ended ws o)
  free_ended ws (full round) = inr (omega arith)
  free_ended ws (settled run) = go (split (phase_two ws run))
    where
      go : (t : Bool) → Free (cond t (refused (Err Split)) (found (phase_two ws run)))
      go true = inr (omega arith)
      go false = inl (omega arith)

pub not_for_form : (lent : Lent) (job : Bytes) → checked job ≡ passed → NotForForm (answer lent job)
unfolding answer verdict
not_for_form lent job e =
    rw e
    (free_then _ (area_short lent) (Err Area) _ (inl (omega arith))
    (free_then _ (has_too_many (job_rows job)) (Err (Types (row129 (job_rows job)))) _ (inr (omega arith)) (free_ended _ (weights job) (outcome job))))

-- ── A job that was made ──

module _ {text job : Bytes} {e lent : ℕ} {r : Conversion} (t : Converted text e lent job r) (z : conversion_number r ≡ 0) where
  is-ready : Ready text e job (conversion_used r)
  is-ready = ready t (enough t z) z refl

  pub made-passes : checked (take (conversion_used r) job) ≡ passed
  made-passes = rw is-ready.block (made.passes e text (readable text is-ready.passes))

  pub made-rows : job_rows (take (conversion_used r) job) ≡ table (sequences text) (sequence text)
  made-rows = rw is-ready.block (made.rows_are e text (readable text is-ready.passes))

  pub made-weights : weights (take (conversion_used r) job) ≡ replicate (length (sequence text 0)) 1
  made-weights = rw is-ready.block (made.weights_are e text (readable text is-ready.passes))

  pub made-epsilon : epsilon (take (conversion_used r) job) ≡ e
  made-epsilon = rw is-ready.block (made.epsilon_is e text)

-- Zeros past the block, and throughout after a refusal, which uses no bytes.
pub past_zero : {text job : Bytes} {e lent : ℕ} {r : Conversion} → Converted text e lent job r → (k : ℕ) → conversion_used r ≤ k → get_or job k 0 ≡ 0
unfolding job_after
past_zero {text} {e} {lent} t k h =
    let xs : Bytes = cond (refuses (conversion_of lent e text)) [] (job_of e text) in
    rw t.left (zeros-behind xs (lent - length xs) k (rw (used-written lent e text, ← t.answered) h))
