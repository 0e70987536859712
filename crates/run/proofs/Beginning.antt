-- What the run of a job comes to from where it begins: too many types, and nothing is left; or both phases.
use Rattle.std.specs.Prelude.{Result, Ok, Err}
use mathlib.Core.Path.{◌≡◌, refl, sym, ap, ◌∙◌}
use mathlib.Core.Bool.{false}
use mathlib.Core.List.{List}
use Prim.Native.Nat.{ℕ, ◌≤◌}
use native.Mathlib.Omega.{arith}
use lib.ListN.{length}
use Rattle.rules.specs.Answers.{number}
use Rattle.rules.specs.Job.{Bytes, width, epsilon, weights, job_rows, checked}
use Rattle.rules.specs.Types.{sampled, has_too_many}
use Rattle.rules.specs.Purge.{Run}
use Rattle.rules.specs.Round.{made}
use Rattle.rules.specs.Run.{Outcome, settled, full, start, PhaseOne}
use Rattle.rules.specs.Call.{outcome, padded}
use Rattle.rules.proofs.Answers.{err-same, ok-not-err}
use Rattle.rules.proofs.Job.{passed_is, length-weights, weight-within}
use Rattle.rules.proofs.Ends.{phase_one_is}
use Rattle.types.proofs.State.{length-kinds}
use Rattle.purge.specs.State.{epsilon_of}
use Rattle.round.specs.Rounded.{Carries}
use Rattle.run.specs.Begun.{First, Begun}
use Rattle.rules.specs.declared.Refusal.{Refusal}
use Rattle.purge.specs.declared.state.Held.{Held}
use Rattle.run.proofs.start.Beginning.{job-weighed, begun-few, begun-small, begun-many}
use Rattle.run.specs.Phases.{Safe, PhasesOver}
use Rattle.run.specs.Ran.{Ran}
use Rattle.run.proofs.Ending.{run_in, types-few}
use Rattle.run.proofs.Drawn.{network-told}

-- There are too many types, and nothing is left.
pub ran-types : {job states : Bytes} {lent cells : ℕ} {area : List ℕ} {e : Refusal} {r : Result Held Refusal} → Begun job lent cells states area (Err e) →
    r ≡ Err e → Ran job lent cells states area r
ran-types {job} b given =
    let many = begun-many b in
    record {
      states_size = b.states_size;
      area_size = b.area_size;
      refuses = λ f told. let (is, cleared) = b.refuses many in (given ∙ is ∙ ap Err (err-same (rw many at told)), cleared);
      network = λ z. absurd (ok-not-err (sym (rw many at z)));
    }

module _ {job states₀ : Bytes} {lent cells : ℕ} {area₀ : List ℕ} {first : Held} (b : Begun job lent cells states₀ area₀ (Ok first)) where
  -- Else memory carries the run that begins with the sampled types, and nothing can go out of bounds.
  module _ (ok : number (checked job) ≡ 0) {ws : List ℕ} (weigh : ws ≡ padded 64 (weights job)) where
    one : has_too_many (job_rows job) ≡ false
    one = (begun-few b).0

    begins : First job cells states₀ area₀ first
    begins = (begun-few b).1

    carried : Carries ws (width job) (weights job) (start (job_rows job)) states₀ area₀ first
    carried = record {
      weights_are = weigh;
      as_wide = length-weights job;
      each_weighs = λ k h. (weight-within job (passed_is job ok) k h).at_least;
      holds = begins.holds;
    }

    pub safe-first : epsilon job ≤ 65535 → 8192 ≤ lent → 16384 ≤ cells → Safe ws states₀ area₀ first
    safe-first fits room enough =
        let holds = begins.holds in
        let (within, few, epsilon_fits) = begun-small b fits in
        record {
          weighed = rw weigh (job-weighed job ok);
          within = within;
          few = few;
          rounds_few = omega (arith, holds.rounds_are);
          kinds_size = rw holds.kinds_are (length-kinds (sampled (job_rows job)));
          epsilon_fits = epsilon_fits;
          states_fit = rw b.states_size room;
          cells_fit = rw b.area_size enough;
        }

    -- Both phases go on from there.
    module _ {states : Bytes} {area : List ℕ} {r : Result Held Refusal} (o : PhasesOver ws states₀ area₀ first states area r) where
      few-made : length (made (start (job_rows job))) ≤ 128
      few-made = omega (arith, begins.few, begins.holds.made_are)

      runs : PhaseOne (weights job) (epsilon_of first.state.phase) (start (job_rows job)) (outcome job)
      unfolding outcome
      runs = rw begins.phase_is (phase_one_is (weights job) (epsilon job) (start (job_rows job)) few-made)

      pub ran_phases : Ran job lent cells states area r
      ran_phases = rw (b.states_size, b.area_size) at (go (outcome job) refl)
        where
          go : (end : Outcome) → outcome job ≡ end → Ran job (length states₀) (length area₀) states area r
          go (full round) e =
              let (refused, cleared) = o.crowds (width job) (weights job) (start (job_rows job)) round carried (rw e at runs) in
              record {
                states_size = o.states_size;
                area_size = o.area_size;
                refuses = λ f told. (refused ∙ ap Err (err-same (rw (one, e) at told)), cleared);
                network = λ z. absurd (ok-not-err (sym (rw (one, e) at z)));
              }
          go (settled end) e =
              let (kept, is, left) = o.settles (width job) (weights job) (start (job_rows job)) end carried (rw e at runs) in
              let same : (other : Run) → outcome job ≡ settled other → end ≡ other = λ other f. ap (run_in end) (sym e ∙ f) in
              record {
                states_size = o.states_size;
                area_size = o.area_size;
                refuses = λ f told. absurd (ok-not-err (rw (one, e) at told));
                network = λ z other f. (kept, is, rw (← same other f) left, rw (← same other f) (network-told end left.holds left.tells (types-few left)));
              }
