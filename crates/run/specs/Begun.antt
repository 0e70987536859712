-- How a run begins: with the sampled types of its job in memory; or there are too many of them, and it is refused.
use Rattle.std.specs.Prelude.{◌≡◌, true, false, List, ℕ, ◌≤◌, length, replicate, Result, Ok, Err}
use Rattle.rules.specs.Sizes.{most_width, most_types}
use Rattle.rules.specs.Job.{Bytes, width, epsilon, weights, job_rows}
use Rattle.rules.specs.Types.{has_too_many, row129}
use Rattle.rules.specs.Run.{start}
use Rattle.rules.specs.Call.{padded}
use Rattle.rules.specs.declared.Refusal.{Refusal}
use Rattle.rules.specs.declared.Refusal.TheVariants.{Types}
use Rattle.distances.specs.Area.{CellsWritten, New, stored_apart}
use Rattle.purge.specs.declared.state.Held.{Held}
use Rattle.purge.specs.declared.state.Phase.TheVariants.{One}
use Rattle.purge.specs.Holds.{Holds}

-- After a refusal both areas are zero.
pub record Cleared (states : Bytes) (area : List ℕ) (lent cells : ℕ) : Type 0 where
  pub states_are : states ≡ replicate lent 0
  pub area_is : area ≡ replicate cells 0

-- Memory holds the run that begins with the sampled types, in Phase I at the job's epsilon. No link is told yet: beside the distances
-- of the types all of the distance area is zero.
pub record First (job : Bytes) (cells : ℕ) (states : Bytes) (area : List ℕ) (held : Held) : Type 0 where
  pub phase_is : held.state.phase ≡ One (epsilon job)
  pub few : held.state.made ≤ most_types
  pub holds : Holds (width job) (weights job) (start (job_rows job)) states area held
  pub measured : CellsWritten (New 0 held.state.types) (stored_apart (padded most_width (weights job)) states) (replicate cells 0) area

-- TYPES, and both areas are zero; or the run begins.
pub record Begun (job : Bytes) (lent cells : ℕ) (states : Bytes) (area : List ℕ) (r : Result Held Refusal) : Type 0 where
  pub states_size : length states ≡ lent
  pub area_size : length area ≡ cells
  pub refuses : has_too_many (job_rows job) ≡ true → (r ≡ Err (Types (row129 (job_rows job)))) × Cleared states area lent cells
  pub begins : has_too_many (job_rows job) ≡ false → (held : Held) × (r ≡ Ok held) × First job cells states area held
