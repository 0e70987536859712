-- How a run begins: the sampled types of a job that passed lie in memory, with their distances; or there are too many of them.
use Rattle.std.specs.Prelude.{Result, Ok, Err}
use mathlib.Core.Path.{◌≡◌, refl, sym, ap, ◌∙◌}
use mathlib.Core.Bool.{Bool, true, false, false≢true}
use mathlib.Core.List.{List}
use Prim.Native.Nat.{ℕ, ◌+◌, ◌-◌, ◌≤◌}
use native.Mathlib.Omega.{arith}
use native.Mathlib.Decide.{dec_lt}
use lib.ListN.{length, replicate, length-map, length-replicate}
use Rattle.rules.specs.Answers.{number}
use Rattle.rules.specs.Job.{Bytes, width, epsilon, weights, job_rows, checked}
use Rattle.rules.specs.Types.{Node, rows_of, sampled, has_too_many, row129}
use Rattle.rules.specs.Run.{start}
use Rattle.rules.specs.Call.{padded}
use Rattle.rules.specs.declared.Refusal.{Refusal}
use Rattle.rules.specs.declared.Refusal.TheVariants.{Types}
use Rattle.rules.proofs.Job.{Passed, passed_is, row-widths, length-weights, weight-within}
use Rattle.rules.proofs.Types.{few-sampled}
use Rattle.rules.proofs.Sound.{rows-sampled}
use Rattle.rules.proofs.Answers.{ok-same, ok-not-err}
use Rattle.memory.specs.Placed.{placed}
use Rattle.memory.proofs.Placed.{placed-padded, length-placed}
use Rattle.types.specs.State.{laid, kinds_of}
use Rattle.types.proofs.State.{OfWidth, length-laid, length-stored, stored-state}
use Rattle.types.specs.Collapse.{entered, Collapsed}
use Rattle.types.specs.declared.sample.Sample.{Sample}
use Rattle.types.specs.declared.sample.TooMany.{TooMany}
use Rattle.types.proofs.sample.Collapsed.{entered_all, collapsed-few}
use Rattle.distances.specs.Area.{Weighed, CellsWritten, New, stored_apart}
use Rattle.distances.proofs.Measured.{behind_zero}
use Rattle.purge.specs.State.{epsilon_of}
use Rattle.purge.specs.declared.state.Phase.TheVariants.{One}
use Rattle.purge.specs.Holds.{Holds}
use Rattle.purge.proofs.First.{holds-first}
use Rattle.purge.proofs.Once.{current-few}
use Rattle.purge.specs.declared.state.Held.{Held}
use Rattle.run.specs.Begun.{First, Begun}

-- What the run of a sample begins with.
abbrev pub begun : Sample → ℕ → Held
begun sample e = record { state = record { types = sample.types; made = sample.types; rounds = 0; phase = One e }; kinds = sample.kinds }

module _ (job : Bytes) (ok : number (checked job) ≡ 0) where
  job-passed : Passed job
  job-passed = passed_is job ok

  -- The weights as the code holds them.
  pub job-weighed : Weighed (padded 64 (weights job))
  job-weighed =
      let m = length-weights job in
      let narrow = job-passed.width-within.at_most in
      record {
        size = length-stored (weights job) (omega arith);
        at_most = λ c h. elim (dec_lt c (width job)) [
          | yes l ↦ rw (stored-state (weights job) c (omega arith)) (weight-within job job-passed c l).at_most
          | no f ↦ let at : c ≡ length (weights job) + (c - width job) = omega arith in
              rw at (omega (arith, behind_zero (weights job) (64 - length (weights job)) (c - width job) (omega arith)))
        ];
      }

  -- The types are not too many, and were collapsed into zeros.
  module _ {lent : ℕ} (room : 8192 ≤ lent) {states : Bytes} {sample : Sample} {r : Result Sample TooMany}
      (c : Collapsed job (replicate lent 0) states r) (is : r ≡ Ok sample) where
    few : has_too_many (job_rows job) ≡ false
    few = (collapsed-few c is).0

    abbrev ts : List Node
    ts = sampled (job_rows job)

    few_types : length ts ≤ 128
    few_types = few-sampled (job_rows job) few

    wide : OfWidth (width job) (rows_of ts)
    wide = rows-sampled (λ r. length r ≡ width job) (job_rows job) (row-widths job)

    narrow : width job ≤ 64
    narrow = job-passed.width-within.at_most

    types_are : sample.types ≡ length ts
    types_are = ap (λ (t : Sample). t.types) (collapsed-few c is).1

    lie : states ≡ padded lent (laid (rows_of ts))
    lie = c.states_left ∙ ap (λ rs. placed (replicate lent 0) 0 (laid (rows_of (sampled rs)))) (entered_all (job_rows job) few) ∙ placed-padded lent _

    kinds_are : sample.kinds ≡ kinds_of ts
    kinds_are = ap (λ (t : Sample). t.kinds) (collapsed-few c is).1

    pub sample_few : sample.types ≤ 128
    sample_few = omega (arith, types_are, few_types)

    pub states-lent : length states ≡ lent
    states-lent = ap length c.states_left ∙ length-placed (replicate lent 0) _ 0 fits ∙ length-replicate lent 0
      where
        fits : 0 + length (laid (rows_of (sampled (entered (job_rows job))))) ≤ length {A = ℕ} (replicate lent 0)
        fits = rw (entered_all (job_rows job) few, length-replicate {A = ℕ} lent 0) (omega (arith, few_types, length-laid (width job) (rows_of ts) narrow wide, length-map ts (λ (t : Node). t.row)))

    -- Their distances are measured into zeros, by the job's weights: the run begins.
    module _ {ws area₀ area : List ℕ} (cells : ℕ) (weigh : ws ≡ padded 64 (weights job)) (zeros : area₀ ≡ replicate cells 0)
        (filled : CellsWritten (New 0 sample.types) (stored_apart ws states) area₀ area) where
      measured : CellsWritten (New 0 sample.types) (stored_apart (padded 64 (weights job)) states) (replicate cells 0) area
      measured = rw (weigh, zeros) at filled

      held_first : Holds (width job) (weights job) (start (job_rows job)) states area (begun sample (epsilon job))
      held_first = rw (types_are, kinds_are) (holds-first (width job) (weights job) ts few_types narrow wide (length-weights job) states
          (rw states-lent lie) cells area (One (epsilon job)) (rw types_are at measured))

      pub begun_first : Begun job lent cells states area (Ok (begun sample (epsilon job)))
      begun_first = record {
        states_size = states-lent;
        area_size = measured.size ∙ length-replicate cells 0;
        refuses = λ many. absurd (false≢true (sym few ∙ many));
        begins = λ _. (begun sample (epsilon job), refl, record { phase_is = refl; few = sample_few; holds = held_first; measured = measured });
      }

-- There are too many types, and memory is zero.
pub begun-none : (job : Bytes) {lent cells : ℕ} {states : Bytes} {area : List ℕ} → has_too_many (job_rows job) ≡ true → states ≡ replicate lent 0 →
    area ≡ replicate cells 0 → Begun job lent cells states area (Err (Types (row129 (job_rows job))))
begun-none job {lent} {cells} many zeros zeros' = record {
  states_size = ap length zeros ∙ length-replicate lent 0;
  area_size = ap length zeros' ∙ length-replicate cells 0;
  refuses = λ _. (refl, record { states_are = zeros; area_is = zeros' });
  begins = λ few. absurd (false≢true (sym few ∙ many));
}

-- Where a run begins there are not too many types, and they can be purged: there are few of them, and epsilon fits 16 bits.
module _ {job states : Bytes} {lent cells : ℕ} {area : List ℕ} {held : Held} (b : Begun job lent cells states area (Ok held)) where
  pub begun-few : (has_too_many (job_rows job) ≡ false) × First job cells states area held
  begun-few = go (has_too_many (job_rows job)) refl
    where
      go : (t : Bool) → has_too_many (job_rows job) ≡ t → (has_too_many (job_rows job) ≡ false) × First job cells states area held
      go true many = absurd (ok-not-err (b.refuses many).0)
      go false few =
          let (other, is, first) = b.begins few in
          (few, rw (sym (ok-same is)) at first)

  pub begun-small : epsilon job ≤ 65535 → (held.state.types ≤ held.state.made) × (held.state.made ≤ 128) × (epsilon_of held.state.phase ≤ 65535)
  begun-small fits = let f = begun-few.1 in (current-few f.holds, f.few, rw f.phase_is fits)

-- Where one does not, there are too many types.
pub begun-many : {job states : Bytes} {lent cells : ℕ} {area : List ℕ} {e : Refusal} → Begun job lent cells states area (Err e) → has_too_many (job_rows job) ≡ true
begun-many {job} b = go (has_too_many (job_rows job)) refl
  where
    go : (t : Bool) → has_too_many (job_rows job) ≡ t → has_too_many (job_rows job) ≡ true
    go true many = many
    go false few = absurd (ok-not-err (sym (b.begins few).1))
