-- Memory holds a run: its current types, and behind them the retired ones, lie in the state area; the current types' kinds and the
-- counts are held by value; their distances lie in the distance area. All else is zero.
use Rattle.std.specs.Prelude.{◌≡◌, ◌≢◌, List, ℕ, ◌+◌, ◌*◌, ◌-◌, ◌≤◌, ◌<◌, length, get_or}
use Rattle.graph.specs.Below.{table}
use Rattle.rules.specs.Sizes.{most_width, most_types, line_size}
use Rattle.rules.specs.Job.{Bytes}
use Rattle.rules.specs.Types.{row_at, rows_of}
use Rattle.rules.specs.Purge.{Run, purge}
use Rattle.rules.specs.Round.{made}
use Rattle.rules.specs.Call.{padded}
use Rattle.types.specs.State.{laid, kinds_of, row_in, nodes_in}
use Rattle.distances.specs.Area.{Measures}
use Rattle.links.specs.Marks.{TellsLinks}
use Rattle.purge.specs.State.{epsilon_of}
use Rattle.purge.specs.declared.state.Held.{Held}

pub record Holds (m : ℕ) (ws : List ℕ) (run : Run) (states : Bytes) (area : List ℕ) (held : Held) : Type 0 where
  pub narrow : m ≤ most_width
  pub wide : (i : ℕ) → i < length (made run) → length (row_at (made run) i) ≡ m
  pub types_are : held.state.types ≡ length run.current
  pub made_are : held.state.made ≡ length (made run)
  pub rounds_are : held.state.rounds ≡ run.rounds
  pub kinds_are : held.kinds ≡ kinds_of run.current
  pub states_are : states ≡ padded (length states) (laid (made run))
  pub distances_are : Measures ws (rows_of run.current) area
  pub rest_zero : (p : ℕ) → ((i j : ℕ) → i < length run.current → j < length run.current → i ≢ j → p ≢ line_size * i + j) → get_or area p 0 ≡ 0

-- Memory that held a run holds it purged, and tells its links. Whatever it held, the phase, the rounds and the number of types ever made
-- are as they were, and no type is added.
pub record Purged (states : Bytes) (area : List ℕ) (held : Held) (states' : Bytes) (area' : List ℕ) (held' : Held) : Type 0 where
  pub states_size : length states' ≡ length states
  pub area_size : length area' ≡ length area
  pub phase_stays : held'.state.phase ≡ held.state.phase
  pub made_stays : held'.state.made ≡ held.state.made
  pub rounds_stay : held'.state.rounds ≡ held.state.rounds
  pub kinds_size : length held.kinds ≡ most_types → length held'.kinds ≡ most_types
  pub no_more : held'.state.types ≤ held.state.types
  pub holds : (m : ℕ) (ws : List ℕ) (run : Run) → Holds m ws run states area held →
      Holds m ws (purge ws (epsilon_of held.state.phase) run) states' area' held'
  pub tells : (m : ℕ) (ws : List ℕ) (run : Run) → Holds m ws run states area held →
      TellsLinks ws (epsilon_of held.state.phase) (rows_of (purge ws (epsilon_of held.state.phase) run).current) area'

-- The run read back from memory, at a width.
unfoldable pub run_in : ℕ → Bytes → Held → Run
run_in m states held =
    let t = held.state.types in
    record {
      current = nodes_in m t states held.kinds;
      retired = table (held.state.made - t) (λ k. row_in m states (t + k));
      rounds = held.state.rounds;
    }
