-- What a round must do.
use Rattle.std.specs.Prelude.{◌≡◌, ◌≢◌, List, [], ℕ, ◌+◌, ◌≤◌, ◌<◌, length, get_or, Option, Result, MatchOption, MatchResult}
use Rattle.rules.specs.Sizes.{most_width, most_types}
use Rattle.rules.specs.Job.{Bytes}
use Rattle.rules.specs.Types.{rows_of}
use Rattle.rules.specs.Purge.{Run}
use Rattle.rules.specs.Round.{made, offers}
use Rattle.rules.specs.Run.{fresh, grown}
use Rattle.rules.specs.Call.{padded}
use Rattle.links.specs.Marks.{TellsLinks}
use Rattle.purge.specs.State.{epsilon_of}
use Rattle.purge.specs.Holds.{Holds}
use Rattle.purge.specs.declared.state.Held.{Held}
use Rattle.round.specs.declared.candidates.NoRoom.{NoRoom}

-- Memory holds a run, and the weights are those of its characters; each weighs something.
pub record Carries (weights : List ℕ) (m : ℕ) (ws : List ℕ) (run : Run) (states : Bytes) (area : List ℕ) (held : Held) : Type 0 where
  pub weights_are : weights ≡ padded most_width ws
  pub as_wide : length ws ≡ m
  pub each_weighs : (c : ℕ) → c < m → 1 ≤ get_or ws c 0
  pub holds : Holds m ws run states area held

-- The round had candidates and room for them: memory holds the run with the new types.
pub record Grows (m : ℕ) (ws : List ℕ) (e : ℕ) (run : Run) (states : Bytes) (area : List ℕ) (held : Held) : Type 0 where
  pub some : offers ws e run ≢ []
  pub room : length (made run) + length (fresh ws e run) ≤ most_types
  pub holds : Holds m ws (grown (fresh ws e run) run) states area held

-- It had candidates, and no room for them.
pub record Crowded (ws : List ℕ) (e : ℕ) (run : Run) : Type 0 where
  pub some : offers ws e run ≢ []
  pub no_room : most_types < length (made run) + length (fresh ws e run)

-- Types were added. Whatever memory holds, each of them counts as made; and memory that holds a run and tells its links at epsilon
-- then holds the next run.
pub record Adds (weights : List ℕ) (states : Bytes) (area : List ℕ) (held : Held) (states' : Bytes) (area' : List ℕ) (next : Held) : Type 0 where
  pub phase_stays : next.state.phase ≡ held.state.phase
  pub kinds_size : length next.kinds ≡ most_types
  pub more : held.state.made < next.state.made
  pub made_are : next.state.made + held.state.types ≡ held.state.made + next.state.types
  pub few : next.state.made ≤ most_types
  pub within : next.state.types ≤ next.state.made
  pub rounds_few : next.state.rounds ≤ next.state.made
  pub grows : (m : ℕ) (ws : List ℕ) (run : Run) → Carries weights m ws run states area held →
      TellsLinks ws (epsilon_of held.state.phase) (rows_of run.current) area → Grows m ws (epsilon_of held.state.phase) run states' area' next

-- No type was added, and everything is as it was: for such memory there is no candidate,
pub record Settles (weights : List ℕ) (states : Bytes) (area : List ℕ) (held : Held) (states' : Bytes) (area' : List ℕ) : Type 0 where
  pub states_stay : states' ≡ states
  pub area_stays : area' ≡ area
  pub none : (m : ℕ) (ws : List ℕ) (run : Run) → Carries weights m ws run states area held →
      TellsLinks ws (epsilon_of held.state.phase) (rows_of run.current) area → offers ws (epsilon_of held.state.phase) run ≡ []

-- or there is no room for them.
pub record Crowds (weights : List ℕ) (states : Bytes) (area : List ℕ) (held : Held) (states' : Bytes) (area' : List ℕ) : Type 0 where
  pub states_stay : states' ≡ states
  pub area_stays : area' ≡ area
  pub crowded : (m : ℕ) (ws : List ℕ) (run : Run) → Carries weights m ws run states area held →
      TellsLinks ws (epsilon_of held.state.phase) (rows_of run.current) area → Crowded ws (epsilon_of held.state.phase) run

-- What a round comes to.
pub record Rounded (weights : List ℕ) (states : Bytes) (area : List ℕ) (held : Held) (states' : Bytes) (area' : List ℕ) (r : Result (Option Held) NoRoom) : Type 0 where
  pub states_size : length states' ≡ length states
  pub area_size : length area' ≡ length area
  pub comes_to : MatchResult r
      (λ next. MatchOption next (Settles weights states area held states' area') (Adds weights states area held states' area'))
      (λ _. Crowds weights states area held states' area')
