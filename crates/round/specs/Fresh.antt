-- The rows that a round adds.
use Rattle.std.specs.Prelude.{◌≡◌, ◌≢◌, ◌↔◌, cond, List, ℕ, ◌+◌, ◌*◌, ◌≤◌, ◌<◌, length, Result, Ok, Err, MatchResult}
use Rattle.graph.proofs.Below.{In}
use Rattle.rules.specs.Sizes.{most_types, row_size, state_area, distance_area}
use Rattle.rules.specs.Job.{Bytes}
use Rattle.rules.specs.Call.{padded}
use Rattle.rules.proofs.Rounds.{AscendingRows}
use Rattle.types.specs.State.{laid}
use Rattle.distances.specs.Area.{Weighed}
use Rattle.triplets.specs.Followers.{Followers}
use Rattle.medians.specs.Search.{above_all_costs}
use Rattle.medians.specs.declared.search.Search.{Search}
use Rattle.sweep.specs.Candidate.{Candidate, Faithful}
use Rattle.sweep.specs.Floors.{Floors}
use Rattle.sweep.specs.declared.Survey.{Survey}
use Rattle.round.specs.declared.candidates.Added.{Added}
use Rattle.round.specs.declared.candidates.NoRoom.{NoRoom}

-- So many rows; and no row, because there is no room.
abbrev pub with_rows : Bytes → ℕ → Result Added NoRoom
with_rows rows count = Ok (record { rows = rows; count = count })

abbrev pub none_fits : Result Added NoRoom
none_fits = Err (record {})

-- What a search that gathered rows comes to.
abbrev pub added_of : Bytes → Search → Result Added NoRoom
added_of rows s = cond s.full none_fits (with_rows rows s.count)

-- What it takes to choose a round's rows: n types are current, and who is linked with them is known.
pub record Choosing (states : Bytes) (area ws next : List ℕ) (n made : ℕ) : Type 0 where
  pub weighed : Weighed ws
  pub follows : Followers area n next
  pub current : n ≤ made
  pub few : made ≤ most_types
  pub lie : row_size * made ≤ length states
  pub cells : distance_area ≤ length area

-- What a search for lambda comes to: the cost of a candidate, than which none costs less; or more than any cost. And there are floors.
pub record LambdaSought (ws : List ℕ) (states : Bytes) (area : List ℕ) (v : Survey) : Type 0 where
  pub no_higher : v.search.below ≤ above_all_costs
  pub met : v.search.below ≢ above_all_costs → (x : Bytes) × Candidate ws states area v.size.types v.search.made x v.search.below
  pub least : Faithful ws states area v.size.types → (x : Bytes) (cost : ℕ) →
      Candidate ws states area v.size.types v.search.made x cost → v.search.below ≤ cost
  pub floors : Floors ws states area v.size.types v.search.made v.floors

-- A candidate that the round adds: one of its costs is at most the cost of any candidate and epsilon.
pub record InWindow (ws : List ℕ) (states : Bytes) (area : List ℕ) (n made e : ℕ) (x : Bytes) : Type 0 where
  pub cost : ℕ
  pub candidate : Candidate ws states area n made x cost
  pub cheap : (y : Bytes) (other : ℕ) → Candidate ws states area n made y other → cost ≤ other + e

-- The rows added are all those, ascending; or there are more of them than there is room for, and none is handed back.
pub record All (ws : List ℕ) (states : Bytes) (area : List ℕ) (n made e : ℕ) (r : Added) : Type 0 where
  pub xs : List Bytes
  pub ascends : AscendingRows xs
  pub exact : (x : Bytes) → In x xs ↔ InWindow ws states area n made e x
  pub count_is : r.count ≡ length xs
  pub rows_are : r.rows ≡ padded state_area (laid xs)

pub record TooMany (ws : List ℕ) (states : Bytes) (area : List ℕ) (n made e : ℕ) : Type 0 where
  pub xs : List Bytes
  pub ascends : AscendingRows xs
  pub each : (x : Bytes) → In x xs → InWindow ws states area n made e x
  pub no_room : most_types < made + length xs

pub record Fitting (ws : List ℕ) (states : Bytes) (area : List ℕ) (n made e : ℕ) (r : Added) : Type 0 where
  pub size : length r.rows ≡ state_area
  pub room : made + r.count ≤ most_types
  pub all : Faithful ws states area n → All ws states area n made e r

pub record Fresh (ws : List ℕ) (states : Bytes) (area : List ℕ) (n made e : ℕ) (r : Result Added NoRoom) : Type 0 where
  pub comes_to : MatchResult r (Fitting ws states area n made e) (λ _. Faithful ws states area n → TooMany ws states area n made e)
