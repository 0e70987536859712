-- What the phases of a run must do, for memory that holds a run.
use Rattle.std.specs.Prelude.{◌≡◌, List, ℕ, ◌+◌, ◌≤◌, length, Result, Ok, Err, IsOk, IsErr}
use Rattle.rules.specs.Sizes.{most_types, state_area, distance_area}
use Rattle.rules.specs.Job.{Bytes}
use Rattle.rules.specs.Types.{rows_of}
use Rattle.rules.specs.Purge.{Run, purge}
use Rattle.rules.specs.Run.{settled, full, PhaseOne}
use Rattle.rules.specs.declared.Refusal.{Refusal}
use Rattle.rules.specs.declared.Refusal.TheVariants.{Room}
use Rattle.distances.specs.Area.{Weighed}
use Rattle.links.specs.Marks.{TellsLinks}
use Rattle.purge.specs.State.{epsilon_of}
use Rattle.purge.specs.Holds.{Holds}
use Rattle.purge.specs.declared.state.Held.{Held}
use Rattle.purge.specs.declared.state.Phase.TheVariants.{Two}
use Rattle.round.specs.Rounded.{Carries}
use Rattle.round.specs.declared.candidates.NoRoom.{NoRoom}
use Rattle.run.specs.Begun.{Cleared}

-- Nothing that the code does can go out of bounds.
pub record Safe (weights : List ℕ) (states : Bytes) (area : List ℕ) (held : Held) : Type 0 where
  pub weighed : Weighed weights
  pub within : held.state.types ≤ held.state.made
  pub few : held.state.made ≤ most_types
  pub rounds_few : held.state.rounds ≤ held.state.made
  pub kinds_size : length held.kinds ≡ most_types
  pub epsilon_fits : epsilon_of held.state.phase ≤ 65535
  pub states_fit : state_area ≤ length states
  pub cells_fit : distance_area ≤ length area

-- Phase I settles in a run that memory carries, or a round has no room.
pub record PhaseOneSettled (weights : List ℕ) (m : ℕ) (ws : List ℕ) (e : ℕ) (run : Run) (states : Bytes) (area : List ℕ) (held : Held) : Type 0 where
  pub end : Run
  pub phase_one_is : PhaseOne ws e run (settled end)
  pub carries : Carries weights m ws end states area held

pub record PhaseOneOver (weights : List ℕ) (states : Bytes) (area : List ℕ) (held : Held) (states' : Bytes) (area' : List ℕ) (held' : Held) (r : Result (Unit {0}) NoRoom) : Type 0 where
  pub states_size : length states' ≡ length states
  pub area_size : length area' ≡ length area
  pub safe : Safe weights states' area' held'
  pub settles : IsOk r → (m : ℕ) (ws : List ℕ) (run : Run) → Carries weights m ws run states area held →
      PhaseOneSettled weights m ws (epsilon_of held.state.phase) run states' area' held'
  pub crowds : IsErr r → (m : ℕ) (ws : List ℕ) (run : Run) → Carries weights m ws run states area held →
      PhaseOne ws (epsilon_of held.state.phase) run (full (held'.state.rounds + 1))

-- Both phases: memory holds the network's run, purged at epsilon 0, and tells its links; or no room, and memory is zero.
pub record NetworkHeld (m : ℕ) (ws : List ℕ) (end : Run) (states : Bytes) (area : List ℕ) (held : Held) : Type 0 where
  pub holds : Holds m ws (purge ws 0 end) states area held
  pub tells : TellsLinks ws 0 (rows_of (purge ws 0 end).current) area
  pub few : held.state.made ≤ most_types
  pub second : held.state.phase ≡ Two

pub record PhasesOver (weights : List ℕ) (states : Bytes) (area : List ℕ) (held : Held) (states' : Bytes) (area' : List ℕ) (r : Result Held Refusal) : Type 0 where
  pub states_size : length states' ≡ length states
  pub area_size : length area' ≡ length area
  pub settles : (m : ℕ) (ws : List ℕ) (run end : Run) → Carries weights m ws run states area held →
      PhaseOne ws (epsilon_of held.state.phase) run (settled end) → (kept : Held) × (r ≡ Ok kept) × NetworkHeld m ws end states' area' kept
  pub crowds : (m : ℕ) (ws : List ℕ) (run : Run) (round : ℕ) → Carries weights m ws run states area held →
      PhaseOne ws (epsilon_of held.state.phase) run (full round) → (r ≡ Err (Room round)) × Cleared states' area' (length states) (length area)
