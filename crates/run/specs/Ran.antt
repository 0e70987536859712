-- RULES 12: the run of a job that passed checks 2 to 7.
use Rattle.std.specs.Prelude.{◌≡◌, List, ℕ, length, Result, Ok, Err}
use Rattle.rules.specs.Answers.{when◌refuse◌else◌, passed, Answer}
use Rattle.rules.specs.Job.{Bytes, width, weights, job_rows}
use Rattle.rules.specs.Types.{has_too_many, row129}
use Rattle.rules.specs.Purge.{Run}
use Rattle.rules.specs.Run.{Outcome, settled, full, phase_two}
use Rattle.rules.specs.Call.{outcome}
use Rattle.rules.specs.declared.Refusal.{Refusal}
use Rattle.rules.specs.declared.Refusal.TheVariants.{Types, Room}
use Rattle.purge.specs.declared.state.Held.{Held}
use Rattle.purge.specs.Network.{network_in}
use Rattle.run.specs.Begun.{Cleared}
use Rattle.run.specs.Phases.{NetworkHeld}

-- TYPES, or ROOM with the round's number, or none of the two.
abbrev pub ran_to : Outcome → Answer
ran_to (full round) = Err (Room round)
ran_to (settled run) = passed

abbrev pub run_answer : Bytes → Answer
run_answer job = when has_too_many (job_rows job) refuse Err (Types (row129 (job_rows job))) else ran_to (outcome job)

-- The refusal is the rules' own, and then both areas are zero. Else memory holds nothing but the run of the network, and the network read
-- back from it is that of the rules.
pub record Ran (job : Bytes) (lent cells : ℕ) (states : Bytes) (area : List ℕ) (r : Result Held Refusal) : Type 0 where
  pub states_size : length states ≡ lent
  pub area_size : length area ≡ cells
  pub refuses : (e : Refusal) → run_answer job ≡ Err e → (r ≡ Err e) × Cleared states area lent cells
  pub network : run_answer job ≡ passed → (end : Run) → outcome job ≡ settled end →
      (held : Held) × (r ≡ Ok held) × NetworkHeld (width job) (weights job) end states area held
      × (network_in (width job) states area held ≡ phase_two (weights job) end)
