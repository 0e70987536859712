-- The verdict by the stages of the call: the first refusal of checks 1 to 7; then what the run answers, or its network.
use Rattle.std.specs.Prelude.{Result, Ok, Err}
use mathlib.Core.Path.{◌≡◌, refl, sym, ap, subst, ◌∙◌}
use mathlib.Core.Bool.{Bool, true, false, cond}
use mathlib.Core.List.{List}
use Prim.Native.Nat.{ℕ}
use native.Mathlib.Omega.{arith}
use lib.Dec.{eqb}
use lib.ListN.{length}
use borrow.Author.Tests.{eq-eqb, ne_eqb}
use Rattle.rules.specs.Answers.{number, when◌refuse◌else◌, passed, Answer}
use Rattle.rules.specs.Job.{Bytes, width, weights, job_rows, checked}
use Rattle.rules.specs.Lent.{Lent, area_short}
use Rattle.rules.specs.Types.{has_too_many, row129}
use Rattle.rules.specs.Purge.{Run}
use Rattle.rules.specs.Run.{Outcome, settled, full, Network, phase_two}
use Rattle.rules.specs.Result.{block}
use Rattle.rules.specs.Call.{Verdict, refused, found, ◌then◌, ended, outcome, verdict, answer}
use Rattle.rules.specs.declared.Refusal.{Refusal}
use Rattle.rules.specs.declared.Refusal.TheVariants.{Area, Types}
use Rattle.rules.proofs.Answers.{refusal-number, ok-same, ok-not-err}
use Rattle.memory.specs.Placed.{placed}
use Rattle.memory.proofs.Placed.{placed-none}
use Rattle.purge.specs.Network.{links_in}
use Rattle.result.specs.Front.{front}
use Rattle.answers.specs.Told.{first_of}
use Rattle.answers.proofs.First.{neither-refuses}
use Rattle.run.specs.Ran.{run_answer, ran_to}
use Rattle.readback.proofs.Found.{never_split-network}
use Rattle.job.specs.Areas.{areas_answer}
use Rattle.network.specs.Drawn.{Outlined, Sketched}
use Rattle.network.specs.declared.draw.Sketch.{Sketch}

-- A test that refuses, and one that passes.
module _ (a : Answer) (next : Verdict) where
  test_refuses : {e : Refusal} → a ≡ Err e → (a then next) ≡ refused (Err e)
  test_refuses {e} told = rw (told, ne_eqb (number (Err e)) 0 (refusal-number e))

  test-passes : number a ≡ 0 → (a then next) ≡ next
  test-passes z = rw (eq-eqb (number a) 0 z)

-- Two tests, one behind the other.
module _ (a b : Answer) (next : Verdict) where
  two_refuse : {e : Refusal} → first_of a b ≡ Err e → (a then b then next) ≡ refused (Err e)
  two_refuse = go (eqb (number a) 0)
    where
      go : {e : Refusal} (t : Bool) → cond t b a ≡ Err e → cond t (b then next) (refused a) ≡ refused (Err e)
      go true told = test_refuses b next told
      go false told = ap refused told

passes-areas : (t : Bool) → number (when t refuse Err Area else passed) ≡ 0 → t ≡ false
passes-areas true z = absurd (let n : 1 ≡ 0 = z in omega arith)
passes-areas false z = refl

module _ (lent : Lent) (job : Bytes) where
  -- Checks 1 to 7: the first that refuses, or none does.
  abbrev first_refusal : Answer
  first_refusal = first_of (areas_answer lent) (checked job)

  pub first-verdict : {e : Refusal} → first_refusal ≡ Err e → verdict lent job ≡ refused (Err e)
  unfolding verdict
  first-verdict told = two_refuse (areas_answer lent) (checked job) _ told

  pub first-passed : {used : ℕ} → first_refusal ≡ Ok used → (area_short lent ≡ false) × (number (checked job) ≡ 0)
  first-passed told = let (p, q) = neither-refuses (areas_answer lent) (checked job) (ap number told) in (passes-areas _ p, q)

  module _ (areas : area_short lent ≡ false) (pass : number (checked job) ≡ 0) where
    abbrev types_answer : Answer
    types_answer = when has_too_many (job_rows job) refuse Err (Types (row129 (job_rows job))) else passed

    run-verdict : verdict lent job ≡ (types_answer then ended (weights job) (outcome job))
    unfolding verdict
    run-verdict = test-passes (areas_answer lent) _ (rw areas) ∙ test-passes (checked job) _ pass

    -- What the run answers is the verdict, and so is its network.
    pub ran-refused : {e : Refusal} → run_answer job ≡ Err e → verdict lent job ≡ refused (Err e)
    ran-refused {e} told = run-verdict ∙ go (has_too_many (job_rows job)) (outcome job) told
      where
        go : (t : Bool) (o : Outcome) → (when t refuse Err (Types (row129 (job_rows job))) else ran_to o) ≡ Err e →
            ((when t refuse Err (Types (row129 (job_rows job))) else passed) then ended (weights job) o) ≡ refused (Err e)
        go true o m = ap refused m
        go false (full round) m = ap refused m
        go false (settled run) m = absurd (ok-not-err m)

    pub ran-found : run_answer job ≡ passed → (end : Run) → outcome job ≡ settled end → verdict lent job ≡ found (phase_two (weights job) end)
    ran-found z end e = run-verdict ∙ rw e (go (has_too_many (job_rows job)) z)
      where
        go : (t : Bool) → (when t refuse Err (Types (row129 (job_rows job))) else ran_to (outcome job)) ≡ passed →
            ((when t refuse Err (Types (row129 (job_rows job))) else passed) then ended (weights job) (settled end)) ≡ found (phase_two (weights job) end)
        go true m = absurd (ok-not-err (sym m))
        go false m = rw (never_split-network (weights job) end)

  -- A refusal writes nothing; a network is written to the front of the result, and its links are still in the distance area.
  pub wrote_nothing : (result : Bytes) (distances : List ℕ) {e : Refusal} {r : Result Sketch Refusal} → verdict lent job ≡ refused (Err e) → r ≡ Err e →
      Sketched lent job result r result distances
  unfolding answer
  wrote_nothing result distances e told = record {
    answered = rw (e, told);
    result_is = rw e (placed-none result 0);
    outlined = λ sketch is. absurd (ok-not-err (sym is ∙ told));
  }

  pub wrote-network : {result result' : Bytes} {distances : List ℕ} {s : Sketch} (net : Network) → verdict lent job ≡ found net →
      s.used ≡ length (block (width job) net) → result' ≡ placed result 0 (front (width job) net) → s.at ≡ length (front (width job) net) →
      s.types ≡ length net.types → links_in s.types distances ≡ net.links → s.links ≡ length net.links → Sketched lent job result (Ok s) result' distances
  unfolding answer
  wrote-network {distances} net e a w at t l n = record {
    answered = rw e (ap Ok a);
    result_is = w ∙ rw e;
    outlined = λ sketch is. subst (λ q. Outlined lent job q distances) (ok-same is)
        (record { at_is = at ∙ rw e; types_are = t ∙ rw e; links_are = l ∙ rw e; count_is = n ∙ rw e });
  }
